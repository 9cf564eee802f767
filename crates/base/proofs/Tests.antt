-- Laws of tests and of answers. Assumes nothing.
use mathlib.Core.Path.{◌≡◌, refl, sym, ◌∙◌, ap}
use mathlib.Core.Bool.{Bool, true, false, cond, ◌&&◌}
use mathlib.Core.List.{List, [], ◌∷◌, ◌++◌}
use Prim.Native.Nat.{ℕ}
use native.Mathlib.Omega.{arith}
use lib.Dec.{eqb}
use borrow.Author.Tests.{eqb-true, eqb-false, ne_eqb}
use Rattle.base.specs.Refusals.{done, unless, first_of}

-- a result that a contract gives as x, and a test found to be y
pub told : {A : Type 0} {r x y : A} → r ≡ x → r ≡ y → x ≡ y
told p q = sym p ∙ q

pub true_false : {A : Type 0} → true ≡ false → A
true_false e = let z : ◌≡◌ {A = ℕ} 0 1 = cc in absurd (omega arith)

pub both : (a b : Bool) → (a && b) ≡ true → (a ≡ true) × (b ≡ true)
both true b e = (refl, e)
both false b e = true_false (sym e)

pub and_true : (a b : Bool) → a ≡ true → b ≡ true → (a && b) ≡ true
and_true true b p q = q
and_true false b p q = p

-- a claim about a choice, by the test
pub by_test : {A : Type 0} (P : A → Type 0) (b : Bool) (x y : A) → (b ≡ true → P x)
    → (b ≡ false → P y) → P (cond b x y)
by_test P true x y f g = f refl
by_test P false x y f g = g refl

-- ---- answers

-- where a list refuses nothing, its first number is 0, and the rest refuse nothing
pub first_passed : (k : ℕ) (ks : List ℕ) → first_of (k ∷ ks) ≡ done → (k ≡ done)
    × (first_of ks ≡ done)
unfolding first_of
first_passed k ks e = go (eqb k done) refl e
  where
    go : (b : Bool) → eqb k done ≡ b → cond b (first_of ks) k ≡ done → (k ≡ done)
        × (first_of ks ≡ done)
    go true p q = (eqb-true k done p, q)
    go false p q = absurd (eqb-false k done p q)

-- the first test holds, and the rest refuse nothing
pub unless_passed : (b : Bool) (k : ℕ) (ks : List ℕ) → eqb k done ≡ false
    → first_of (unless b k ∷ ks) ≡ done → (b ≡ true) × (first_of ks ≡ done)
unless_passed b k ks n e = let p = first_passed (unless b k) ks e in (go b p.0, p.1)
  where
    go : (b : Bool) → unless b k ≡ done → b ≡ true
    go true q = refl
    go false q = absurd (eqb-false k done n q)

-- a number that refuses nothing is passed over, and the last one is the answer whatever it is
pub first_next : (k : ℕ) (ks : List ℕ) → k ≡ done → first_of (k ∷ ks) ≡ first_of ks
unfolding first_of
first_next k ks e = rw e

pub first_only : (k : ℕ) → first_of (k ∷ []) ≡ k
unfolding first_of
first_only k =
    by_test (λ (x : ℕ). x ≡ k) (eqb k done) done k (λ e. sym (eqb-true k done e)) (λ _. refl)

-- what holds of each number that a list of refusals may give holds of its answer
pub first_of_lem : (P : ℕ → Type 0) (k : ℕ) (ks : List ℕ) → P k → (k ≡ done → P (first_of ks))
    → P (first_of (k ∷ ks))
unfolding first_of
first_of_lem P k ks p f =
    by_test P (eqb k done) (first_of ks) k (λ e. f (eqb-true k done e)) (λ _. p)

-- two lists that begin with the same number
pub first_same : (k : ℕ) (ks ls : List ℕ) → (k ≡ done → first_of ks ≡ first_of ls)
    → first_of (k ∷ ks) ≡ first_of (k ∷ ls)
unfolding first_of
first_same k ks ls f = go (eqb k done) refl
  where
    go : (b : Bool) → eqb k done ≡ b → cond b (first_of ks) k ≡ cond b (first_of ls) k
    go true p = f (eqb-true k done p)
    go false p = refl

pub first_found : (k : ℕ) (ks : List ℕ) → (k ≡ done → ⊥) → first_of (k ∷ ks) ≡ k
unfolding first_of
first_found k ks n = rw (ne_eqb k done n)

-- two lists, one after the other: the answer of the first stands for it
pub first_append : (ks ls : List ℕ) → first_of (ks ++ ls) ≡ first_of (first_of ks ∷ ls)
unfolding first_of
first_append [] ls = refl
first_append (k ∷ ks) ls = go (eqb k done) refl (first_append ks ls)
  where
    go : (b : Bool) → eqb k done ≡ b → first_of (ks ++ ls) ≡ first_of (first_of ks ∷ ls)
        → cond b (first_of (ks ++ ls)) k ≡ first_of (cond b (first_of ks) k ∷ ls)
    go true p q = q
    go false p q = rw p

-- a test that holds refuses nothing
pub unless_next : (b : Bool) (k : ℕ) (ks : List ℕ) → b ≡ true
    → first_of (unless b k ∷ ks) ≡ first_of ks
unless_next b k ks e = first_next (unless b k) ks (ap (λ (x : Bool). unless x k) e)

-- what holds of each number that a list of refusals may give holds of its answer

pub unless_of : (P : ℕ → Type 0) (b : Bool) (k : ℕ) → P done → P k → P (unless b k)
unless_of P b k z p = by_test P b done k (λ _. z) (λ _. p)

pub none_of_lem : (P : ℕ → Type 0) → P done → P (first_of [])
unfolding first_of
none_of_lem P z = z

pub last_of : (P : ℕ → Type 0) (k : ℕ) → P k → P (first_of (k ∷ []))
last_of P k p = rw (first_only k) p

pub held : (P : ℕ → Type 0) (b : Bool) (k : ℕ) (ks : List ℕ) → b ≡ true → P (first_of ks)
    → P (first_of (unless b k ∷ ks))
held P b k ks e p = rw (unless_next b k ks e) p

pub next : (P : ℕ → Type 0) (b : Bool) (k : ℕ) (ks : List ℕ) → eqb k done ≡ false → P k
    → (b ≡ true → P (first_of ks)) → P (first_of (unless b k ∷ ks))
unfolding first_of
next P true k ks n p f = f refl
next P false k ks n p f = rw n p
