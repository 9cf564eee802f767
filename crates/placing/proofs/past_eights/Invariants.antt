-- `past_eights` passes over eight slots that are taken (`Passed`) at a time.
use Prim.Native.Nat.{◌-◌}
use Rattle.placing.specs.Parts.{Passed}
use Rattle.placing.proofs.past_eights.Given as goal

abbrev pub invariant-loop-j : goal.invariant-loop-j
invariant-loop-j l = Passed l.free l.from l.j

abbrev pub decreases-loop-j : goal.decreases-loop-j
decreases-loop-j l = 96 - l.j
