-- `place` finds the next receiver and the next free slot in turn (`Walking`), to its end or to that
-- of the slots.
use mathlib.Core.Path.{refl}
use mathlib.Core.Logic.{inl, inr}
use Prim.Native.Nat.{◌+◌}
use native.Mathlib.Omega.{arith}
use Rattle.quorum.proofs.Next.{next_is}
use Rattle.placing.specs.Parts.{Outcome, NextFree}
use Rattle.placing.proofs.Laws.{walking_first, walking_fills, walking_done, walking_ended}
use Rattle.placing.proofs.Placed.place.Goals as goal

pub loop-h-init : goal.loop-h-init
loop-h-init c =
    rw c.next_in-h.ensures (walking_first _ _ _ _ (omega (arith, c.fits-self)) refl)

pub returns-in_default : goal.returns-in_default
unfolding Outcome NextFree
returns-in_default c =
    inr (
      refl,
      (
        refl,
        (
          refl,
          walking_ended c.loop-h.invariant c.loop-h-test.true _ c.in_default.ensures (omega arith),
        ),
      ),
    )

pub overflow_add-j : goal.overflow_add-j
unfolding NextFree
overflow_add-j c = omega (arith, c.in-Some.ensures.within)

pub loop-h-smaller : goal.loop-h-smaller
loop-h-smaller c =
    let x =
    next_is c.args.receivers (c.loop-h.h + 1) c.args.n
    (omega (arith, c.loop-h-test.true)) in
    omega (arith, c.next_in-h-in-loop-h.ensures, x.least, c.loop-h-test.true)

pub loop-h-preserved : goal.loop-h-preserved
unfolding NextFree
loop-h-preserved c =
    let f = c.in-Some.ensures in
    rw c.next_in-h-in-loop-h.ensures
    (walking_fills c.loop-h.invariant c.loop-h-test.true c.in-Some.at f.passed f.within f.here
    c.requires)

pub returns : goal.returns
unfolding Outcome
returns c =
    inl (refl, walking_done c.loop-h.invariant c.loop-h-test.false)
