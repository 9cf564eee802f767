-- `one_refusal`: 5, 15 and 14 by the tests of the code.
use mathlib.Core.Path.{sym, ◌∙◌}
use native.Mathlib.Omega.{arith}
use Rattle.base.specs.Answers.{refusal_number, answer_of}
use Rattle.message.specs.Message.{last_tick}
use Rattle.acts.proofs.Advances.{few, clock_early, one_past, one_zero, one_late, one_far}
use Rattle.acts.proofs.Advances.{one_clear}
use Rattle.acts.proofs.one_refusal.Goals as goal
use Rattle.acts.proofs.one_refusal.Goals.{then-d-eq0-via-then-d-eq0}
use Rattle.acts.proofs.one_refusal.Goals.{then-d-eq0-via-else-d-eq0+then-clock-d}

pub returns-then-s-host : goal.returns-then-s-host
unfolding answer_of refusal_number
returns-then-s-host c = sym (one_past _ c.requires _ _ c.if-s-host.true)

pub bounds-c-who : goal.bounds-c-who
bounds-c-who c = omega (arith, few _ c.requires, c.if-s-host.false)

pub overflow_sub-clock : goal.overflow_sub-clock
unfolding last_tick
overflow_sub-clock c = clock_early _ c.requires _ c.if-s-host.false

pub returns-then-d-eq0 : goal.returns-then-d-eq0
unfolding answer_of refusal_number last_tick
returns-then-d-eq0 c =
    elim c.then-d-eq0.branch [
      | then-d-eq0-via-then-d-eq0 w ↦ one_zero _ c.requires _ _ c.if-s-host.false w.if-d-eq0.true
      | then-d-eq0-via-else-d-eq0+then-clock-d w ↦
          one_late _ c.requires _ _ c.if-s-host.false w.if-clock-d.true
    ]

pub shared_ref_as_front-are_near : goal.shared_ref_as_front-are_near
shared_ref_as_front-are_near c = few _ c.requires

pub returns-then-not-are_near : goal.returns-then-not-are_near
unfolding answer_of refusal_number last_tick
returns-then-not-are_near c =
    one_far _ c.requires _ _ c.if-s-host.false c.if-d-eq0.false c.if-clock-d.false
    (sym c.are_near.ensures ∙ c.if-not-are_near.true)

pub returns : goal.returns
unfolding answer_of last_tick
returns c =
    one_clear _ c.requires _ _ c.if-s-host.false c.if-d-eq0.false c.if-clock-d.false
    (sym c.are_near.ensures ∙ c.if-not-are_near.false)
