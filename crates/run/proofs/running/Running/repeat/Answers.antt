-- `repeat` is the repeat of the definitions.
use mathlib.Core.Path.{◌≡◌, refl, sym, ◌∙◌}
use native.Mathlib.Omega.{arith}
use borrow.Author.Rules.{rules}
use Rattle.std.specs.declared.result.Result.{Result}
use Rattle.cell.specs.Events.{refusal_of}
use Rattle.cell.specs.Events.{repeat_refusal}
use Rattle.run.proofs.Acting.{few, room_none}
use Rattle.run.proofs.Acting.{message_there, no_message, slot_empty, target_low}
use Rattle.run.proofs.Acting.{repeats}
use Rattle.run.proofs.running.Running.repeat.Goals as goal

pub returns-in_err-message : goal.returns-in_err-message
unfolding refusal_of repeat_refusal
returns-in_err-message c =
    let k = c.in_err-message.field-0.0 in
    let e : c.from_residual.result ≡ Result.Err k = search rules in
    let q = no_message _ k (sym c.message_in.ensures ∙ c.in_err-message.was) in
    rw (e, q.1) (slot_empty _ c.requires c.args.slot _ _ q.0 refl)

pub single_of-receivers-requires : goal.single_of-receivers-requires
single_of-receivers-requires c =
    let t = message_there _ _ (sym c.message_in.ensures ∙ c.in_ok-message.was) in
    omega (arith, few _ c.requires, c.target_of.ensures, target_low _ c.requires _ _ t)

pub send-requires : goal.send-requires
send-requires c = room_none _ c.requires

pub returns : goal.returns
returns c =
    let t = message_there _ _ (sym c.message_in.ensures ∙ c.in_ok-message.was) in
    repeats _ c.requires _ _ t _ _ _ (rw (c.single_of-receivers.ensures, c.target_of.ensures) refl)
    c.send.ensures
