-- `open` is `opening_of`: the opened cell where nothing is refused, else 1 or 6, by which no slot
-- is looked at, and the least cell.
use Rattle.std.proofs.Common.{◌≡◌, false, eqb, sym}
use Rattle.base.specs.Refusals.{done, refused_full}
use Rattle.base.specs.Answers.{refusal_number, answer_of}
use Rattle.base.proofs.Answers.{numbered}
use Rattle.cell.specs.Answered.{looked_in, told}
use Rattle.cell.specs.Events.{opening_refusal, opening_of}
use Rattle.cell.proofs.CellLimits.{opens_in, opening_places}
use Rattle.cell.proofs.open.Goals as goal
use Rattle.cell.proofs.open.Goals.{In-Ok}

nothing : (c : In-Ok) → opening_refusal c.args.s c.args.clock ≡ done
unfolding answer_of
nothing c = sym c.in-Ok.ensures

pub opened_with-requires : goal.opened_with-requires
opened_with-requires c = (opens_in c.args.s c.args.clock (nothing c)).early

pub returns-in-Ok : goal.returns-in-Ok
unfolding told opening_of answer_of looked_in
returns-in-Ok c = rw (c.opened_with.ensures, nothing c.before)

pub returns-in-Err : goal.returns-in-Err
unfolding told opening_of answer_of looked_in
returns-in-Err c =
    let k = c.in-Err.refusal in
    let e = c.in-Err.ensures in
    let unplaced : eqb (refusal_number k) refused_full ≡ false =
    rw e (opening_places c.args.s c.args.clock) in
    rw (c.opened_with-in-Err.ensures, ← e, numbered k, unplaced)
