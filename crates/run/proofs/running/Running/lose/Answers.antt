-- `lose` is the loss of the definitions.
use mathlib.Core.Path.{◌≡◌, refl, sym, ◌∙◌}
use borrow.Author.Rules.{rules}
use Rattle.std.specs.declared.result.Result.{Result}
use Rattle.cell.specs.Events.{refusal_of}
use Rattle.cell.specs.Events.{lose_refusal}
use Rattle.run.proofs.Acting.{message_there, no_message, slot_empty}
use Rattle.run.proofs.Acting.{room_freed, lost, sends_none}
use Rattle.run.proofs.running.Running.lose.Goals as goal

pub returns-in_err-message_in : goal.returns-in_err-message_in
unfolding refusal_of lose_refusal
returns-in_err-message_in c =
    let k = c.in_err-message_in.field-0.0 in
    let e : c.from_residual.result ≡ Result.Err k = search rules in
    let q = no_message _ k (sym c.message_in.ensures ∙ c.in_err-message_in.was) in
    rw (e, q.1) (slot_empty _ c.requires c.args.slot _ _ q.0 refl)

pub free-requires : goal.free-requires
free-requires c =
    let t = message_there _ _ (sym c.message_in.ensures ∙ c.in_ok-message_in.was) in
    rw c.freed_by.ensures (room_freed _ c.requires _ _ t)

pub returns : goal.returns
returns c =
    let t = message_there _ _ (sym c.message_in.ensures ∙ c.in_ok-message_in.was) in
    rw (c.free.ensures, c.freed_by.ensures)
    (lost _ c.requires _ _ t _ _
    (sends_none _ _ (room_freed _ c.requires _ _ t) c.requires.unlooked))
