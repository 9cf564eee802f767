-- The claims of specs/Claims.antt, proved. Assumes nothing.
use mathlib.Core.Path.{◌≡◌, refl, sym, ap, ◌∙◌}
use mathlib.Core.Bool.{Bool, true, false, cond}
use mathlib.Core.List.{List, [], ◌∷◌, ◌++◌}
use Prim.Native.Nat.{ℕ, zero, suc, ◌+◌, ◌-◌, ◌*◌, ◌/◌, ◌%◌, ◌<◌}
use native.Mathlib.Omega.{arith}
use lib.Dec.{ltb}
use borrow.Author.Tests.{ltb-false}
use Rattle.text.specs.Text.{digits_of, decimal}
use Rattle.text.specs.Claims.{value_from, Claims}

-- a digit behind others
value_last : (a : ℕ) (xs : List ℕ) (d : ℕ)
    → value_from a (xs ++ (d ∷ [])) ≡ value_from a xs * 10 + (d - 48)
unfolding value_from
value_last a [] d = refl
value_last a (x ∷ xs) d = value_last (a * 10 + (x - 48)) xs d

digits_value : (k n : ℕ) → n < k → value_from 0 (digits_of k n) ≡ n
unfolding digits_of value_from
digits_value zero n h = absurd (omega arith)
digits_value (suc k) n h =
    go (ltb n 10) refl (λ b. digits_value k (n / 10) (omega (arith, ltb-false n 10 b)))
  where
    go : (b : Bool) → ltb n 10 ≡ b
        → (ltb n 10 ≡ false → value_from 0 (digits_of k (n / 10)) ≡ n / 10)
        → value_from 0 (cond b ((48 + n) ∷ []) (digits_of k (n / 10) ++ ((48 + n % 10) ∷ []))) ≡ n
    go true e f = omega arith
    go false e f = value_last 0 (digits_of k (n / 10)) (48 + n % 10) ∙ omega (arith, f e)

read_back : (n : ℕ) → value_from 0 (decimal n) ≡ n
unfolding decimal
read_back n = digits_value (suc n) n (omega arith)

pub claims : Claims
claims = record {
  read_back = read_back;
  texts_apart = λ m n e. sym (read_back m) ∙ ap (value_from 0) e ∙ read_back n;
}
