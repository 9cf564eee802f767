-- The claims of specs/Claims.antt, proved. Assumes nothing.
use Prim.Native.Nat.{ℕ, ◌^◌, ◌<◌}
use mathlib.Core.Path.{◌≡◌, ap}
use mathlib.Core.Bool.{true}
use native.Mathlib.Omega.{arith}
use lib.Dec.{eqb}
use borrow.Author.Tests.{ltb-true, eqb-true, eq-eqb}
use Rattle.quorum.specs.Sets.{bit, is_below, is_majority, Member}
use Rattle.quorum.specs.Claims.{Claims}
use Rattle.quorum.proofs.Majorities.{majorities_meet, with_again, with_new, absent}
use Rattle.quorum.proofs.Majorities.{with_other}

meets : (n s t : ℕ) → is_below s n ≡ true → is_below t n ≡ true → is_majority n s ≡ true
    → is_majority n t ≡ true
    → (h : ℕ) × Member n s h × Member n t h
meets n s t a b p q =
    let low : s < 2 ^ n = omega (arith, ltb-true _ _ a) in
    let less : t < 2 ^ n = omega (arith, ltb-true _ _ b) in
    let m = majorities_meet n s t low less p q in (
      m.0,
      record { below = m.1; within = eq-eqb _ _ m.2 },
      record { below = m.1; within = eq-eqb _ _ m.3 },
    )

pub claims : Claims
claims = record {
  majorities_meet = meets;
  counted_again = λ set h e. with_again set h (eqb-true (bit set h) 1 e);
  counted_first = λ set h e. with_new set h (absent set h e);
  others_stay = λ set h k e. ap (λ (b : ℕ). eqb b 1) (with_other set h k e);
}
