-- `send` places what is sent, and then frees a slot and fills those that were found.
use mathlib.Core.Path.{◌≡◌}
use borrow.Author.Rules.{rules}
use Rattle.std.specs.declared.result.Result.{Result}
use Rattle.run.proofs.Acting.{sends_not, sends, found_in}
use Rattle.run.proofs.running.Running.send.Goals as goal

pub returns-in_err-place : goal.returns-in_err-place
returns-in_err-place c =
    let k = c.in_err-place.field-0.0 in
    let e : c.from_residual.result ≡ Result.Err k = search rules in
    rw e (sends_not _ _ c.requires _ _ _ c.place.ensures k c.in_err-place.was)

pub fill-requires : goal.fill-requires
fill-requires c =
    rw c.free.ensures (found_in _ _ c.requires c.args.sent.now _ _ c.place.ensures)

pub returns : goal.returns
returns c =
    let e : c.place.result ≡ Result.Ok tt = search rules in
    sends _ _ c.requires _ _ _ c.place.ensures _ e (rw c.free.ensures at c.fill.ensures)
