-- `event` is the event of the definitions, by its kind.
use mathlib.Core.Path.{refl}
use borrow.Author.Rules.{rules}
use Rattle.cell.specs.Events.{after_of, advanced_all, advanced_one}
use Rattle.run.proofs.Acting.{room_none, own_start, own_release, own_restart, steps_on}
use Rattle.run.proofs.Acting.{advances}
use Rattle.run.proofs.Acting.{fresh}
use Rattle.run.proofs.running.Running.event.Goals as goal

pub returns-in-AdvanceAll : goal.returns-in-AdvanceAll
unfolding after_of advanced_all
returns-in-AdvanceAll c =
    rw c.in-AdvanceAll.is (advances _ (fresh _ c.requires) _ _ _ refl c.advance_all.ensures)

pub returns-in-AdvanceOne : goal.returns-in-AdvanceOne
unfolding after_of advanced_one
returns-in-AdvanceOne c =
    rw c.in-AdvanceOne.is (advances _ (fresh _ c.requires) _ _ _ refl c.advance_one.ensures)

pub step-requires-clause-room : goal.step-requires-clause-room
step-requires-clause-room c = room_none _ (fresh _ c.requires)

pub returns-in-Start : goal.returns-in-Start
returns-in-Start c =
    rw c.in-Start.is
    (steps_on _ (fresh _ c.requires) _ _ _ _ _ (own_start _ c.in-Start.host c.in-Start.duration) _
    (λ t p. search rules) _ _ c.step.ensures)

pub step-requires-in-Restart-clause-room : goal.step-requires-in-Restart-clause-room
step-requires-in-Restart-clause-room c = room_none _ (fresh _ c.requires)

pub returns-in-Restart : goal.returns-in-Restart
returns-in-Restart c =
    rw c.in-Restart.is
    (steps_on _ (fresh _ c.requires) _ _ _ _ _ (own_restart _ c.in-Restart.host) _
    (λ t p. search rules) _ _
    c.step-in-Restart.ensures)

pub step-requires-in-Release-clause-room : goal.step-requires-in-Release-clause-room
step-requires-in-Release-clause-room c = room_none _ (fresh _ c.requires)

pub returns-in-Release : goal.returns-in-Release
returns-in-Release c =
    rw c.in-Release.is
    (steps_on _ (fresh _ c.requires) _ _ _ _ _ (own_release _ c.in-Release.host) _
    (λ t p. search rules) _ _
    c.step-in-Release.ensures)

pub deliver-requires : goal.deliver-requires
deliver-requires c = fresh _ c.requires

pub lose-requires : goal.lose-requires
lose-requires c = fresh _ c.requires

pub repeat-requires : goal.repeat-requires
repeat-requires c = fresh _ c.requires
