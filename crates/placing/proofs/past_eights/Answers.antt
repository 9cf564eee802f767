-- `past_eights` passes over eight slots that are taken (`Passed`) at a time.
use Prim.Native.Nat.{◌+◌}
use native.Mathlib.Omega.{arith}
use Rattle.base.proofs.Tests.{told}
use Rattle.placing.specs.Parts.{Passed}
use Rattle.placing.proofs.Laws.{passed_first, passed_eight}
use Rattle.placing.proofs.past_eights.Goals as goal
use Rattle.placing.proofs.past_eights.Goals.{In-loop-j}

-- eight are taken
eight : (c : In-loop-j)
    → Passed c.args.free.now c.args.from
    (c.loop-j.j + 8)
eight c =
    passed_eight c.loop-j.invariant
    (told c.eight_taken.ensures c.loop-j-test.true)

pub loop-j-init : goal.loop-j-init
loop-j-init c =
    passed_first _ _ c.requires

pub overflow_add-j : goal.overflow_add-j
overflow_add-j c =
    omega (arith, (eight c).most)

pub loop-j-smaller : goal.loop-j-smaller
loop-j-smaller c =
    omega (arith, (eight c).most)

pub loop-j-preserved : goal.loop-j-preserved
loop-j-preserved c =
    eight c

pub returns : goal.returns
returns c =
    c.loop-j.invariant
