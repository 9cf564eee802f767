-- `deliver` is the delivery of the definitions.
use mathlib.Core.Path.{◌≡◌, refl, sym, ◌∙◌}
use native.Mathlib.Omega.{arith}
use borrow.Author.Rules.{rules}
use Rattle.std.specs.Prelude.{Some}
use Rattle.std.specs.declared.result.Result.{Result}
use Rattle.cell.specs.CellLimits.{content_at}
use Rattle.cell.specs.Events.{refusal_of, deliver_refusal}
use Rattle.run.proofs.Acting.{few}
use Rattle.run.proofs.Acting.{message_there, no_message, slot_empty, target_low, handed}
use Rattle.run.proofs.Acting.{room_freed, delivers}
use Rattle.run.proofs.running.Running.deliver.Goals as goal
use Rattle.run.proofs.running.Running.deliver.Goals.{After-target_of-host}

pub returns-in_err-m : goal.returns-in_err-m
unfolding refusal_of deliver_refusal
returns-in_err-m c =
    let k = c.in_err-m.field-0.0 in
    let e : c.from_residual.result ≡ Result.Err k = search rules in
    let q = no_message _ k (sym c.message_in.ensures ∙ c.in_err-m.was) in
    rw (e, q.1) (slot_empty _ c.requires c.args.slot _ _ q.0 refl)

there : (c : After-target_of-host) → content_at c.args.self.now.cell c.args.slot ≡ Some c.in_ok-m.m
there c = message_there _ _ (sym c.message_in.ensures ∙ c.in_ok-m.was)

pub bounds-self-host : goal.bounds-self-host
bounds-self-host c =
    let t = there (goal.at.bounds-self-host c).After-target_of-host in
    omega (
      arith,
      few _ c.requires,
      c.target_of-host.ensures,
      target_low _ c.requires _ _ t,
    )

pub on_delivery-step-requires : goal.on_delivery-step-requires
on_delivery-step-requires c =
    let t = there (goal.at.on_delivery-step-requires c).After-target_of-host in
    rw c.target_of-host.ensures (handed _ c.requires _ _ t)

pub carry-requires-clause-room : goal.carry-requires-clause-room
carry-requires-clause-room c =
    let t = there (goal.at.carry-requires-clause-room c).After-target_of-host in
    rw c.freed_by.ensures (room_freed _ c.requires _ _ t)

pub carry-requires-clause-there : goal.carry-requires-clause-there
carry-requires-clause-there c =
    let t = there (goal.at.carry-requires-clause-there c).After-target_of-host in
    omega (
      arith,
      few _ c.requires,
      c.target_of-host.ensures,
      target_low _ c.requires _ _ t,
    )

pub returns : goal.returns
returns c =
    let t = there (goal.at.returns c).After-target_of-host in
    delivers _ c.requires _ _ t _ _ _ (rw c.target_of-host.ensures at c.on_delivery-step.ensures)
    (rw (c.freed_by.ensures, c.target_of-host.ensures) at c.carry.ensures)
