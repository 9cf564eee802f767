-- `put_end` puts the stop, if the record is a fault, and the counts.
use native.Mathlib.Omega.{arith}
use Rattle.text.proofs.Laws.{wrote_then}
use Rattle.listing.proofs.Ending.{no_fault, last_wrote}
use Rattle.listing.proofs.put_end.Goals as goal
use Rattle.listing.proofs.put_end.Goals.{in-Fault, in_default}

pub returns : goal.returns
returns c =
    elim c.match-r.branch [
      | in-Fault w ↦ rw w.in-Fault.is
          (last_wrote _ _ _ _ _ _ (omega arith)
          (wrote_then w.put_stop.ensures.wrote (rw w.page-is at c.put_counts.ensures)))
      | in_default w ↦ rw (no_fault _ _ _ c.args.r w.in_default.not-Fault)
          (rw w.page-is at c.put_counts.ensures)
    ]
