-- An answer counted as applied or as refused. Assumes nothing.
use mathlib.Core.Path.{◌≡◌}
use Prim.Native.Nat.{ℕ, suc, ◌+◌, ◌-◌, ◌≤◌}
use native.Mathlib.Omega.{arith}
use mathlib.Core.Bool.{Bool, true, false, cond}
use lib.Dec.{lit≤, eqb}
use Rattle.listing.specs.Parts.{done_of}

pub done_most : (a : ℕ) → done_of a ≤ 1
unfolding done_of
done_most a = go (eqb a 0)
  where
    go : (b : Bool) → cond b 1 0 ≤ 1
    go true = lit≤ tt
    go false = lit≤ tt

pub done_zero : (a x z : ℕ) → a + done_of x + z ≡ a + (cond (eqb x 0) 1 0 + z)
unfolding done_of
done_zero a x z = omega arith

pub done_other : (r x z : ℕ) → r + (1 - done_of x) + z ≡ r + (cond (eqb x 0) 0 1 + z)
unfolding done_of
done_other r x z = go (eqb x 0)
  where
    go : (b : Bool) → r + (1 - cond b 1 0) + z ≡ r + (cond b 0 1 + z)
    go true = omega arith
    go false = omega arith

pub done_both : (a r x : ℕ) → a + done_of x + (r + (1 - done_of x)) + 1 ≡ suc (a + r + 1)
unfolding done_of
done_both a r x = go (eqb x 0)
  where
    go : (b : Bool) → a + cond b 1 0 + (r + (1 - cond b 1 0)) + 1 ≡ suc (a + r + 1)
    go true = omega arith
    go false = omega arith
