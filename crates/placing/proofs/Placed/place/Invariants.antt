-- `place` finds the next receiver and the next free slot in turn (`Walking`), to its end or to that
-- of the slots.
use Prim.Native.Nat.{◌-◌}
use Rattle.placing.specs.Parts.{with_freed}
use Rattle.placing.proofs.Laws.{Walking}
use Rattle.placing.proofs.Placed.place.Given as goal

abbrev pub invariant-loop-h : goal.invariant-loop-h
invariant-loop-h l =
    Walking (with_freed l.freed l.free) l.receivers l.n (record l.self { count = l.k }) l.h l.j

abbrev pub decreases-loop-h : goal.decreases-loop-h
decreases-loop-h l = l.n - l.h
