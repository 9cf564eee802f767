-- Laws of lists: what holds of each element, one element replaced, a list from a place on, and a
-- walk that tests each element. Assumes nothing.
use mathlib.Core.Path.{◌≡◌, refl, sym, ap, ◌∙◌}
use mathlib.Core.Bool.{Bool, true, false}
use mathlib.Core.List.{List, [], ◌∷◌, map}
use Prim.Native.Nat.{ℕ, zero, suc, ◌+◌, ◌≤◌, ◌<◌}
use native.Mathlib.Nat.{add-zero, not-suc-le-zero, le_of_suc-le-suc}
use native.Mathlib.Numerals.{add-one}
use native.Mathlib.Omega.{arith}
use lib.ListN.{length, get_or, set, drop, replicate, length-map, drop_of_length-le}
use lib.Seq.{drop-cons}
use Rattle.std.specs.List.{list_all, enumerate_from}
use Rattle.std.proofs.lemmas.List.{set_comm}
use Rattle.base.specs.Lists.{All, every, all_of}
use Rattle.base.proofs.Tests.{both, and_true}

-- ---- what holds of each element

pub all_map : {A : Type 0} {P Q : A → Type 0} (xs : List A) → ((x : A) → P x → Q x) → All P xs
    → All Q xs
unfolding All
all_map [] f p = tt
all_map (x ∷ xs) f p = (f x p.0, all_map xs f p.1)

pub all_set : {A : Type 0} (P : A → Type 0) (xs : List A) (i : ℕ) (a : A) → All P xs → P a
    → All P (set xs i a)
unfolding All
all_set P [] i a p q = tt
all_set P (x ∷ xs) zero a p q = (q, p.1)
all_set P (x ∷ xs) (suc i) a p q = (p.0, all_set P xs i a p.1 q)

pub all_at : {A : Type 0} (P : A → Type 0) (xs : List A) (i : ℕ) (d : A) → All P xs → P d
    → P (get_or xs i d)
unfolding All
all_at P [] i d p q = q
all_at P (x ∷ xs) zero d p q = p.0
all_at P (x ∷ xs) (suc i) d p q = all_at P xs i d p.1 q

pub all_same : {A : Type 0} (P : A → Type 0) (n : ℕ) (a : A) → P a → All P (replicate n a)
unfolding All
all_same P zero a q = tt
all_same P (suc n) a q = (q, all_same P n a q)

-- ---- one element replaced

pub by_place : {A : Type 0} (P : A → Type 0) (xs : List A) (h : ℕ) (x : A) (k : ℕ) (d : A)
    → (k ≡ h → P x) → P (get_or xs k d) → P (get_or (set xs h x) k d)
by_place P [] h x k d p q = q
by_place P (y ∷ xs) zero x zero d p q = p refl
by_place P (y ∷ xs) zero x (suc k) d p q = q
by_place P (y ∷ xs) (suc h) x zero d p q = q
by_place P (y ∷ xs) (suc h) x (suc k) d p q = by_place P xs h x k d (λ e. p (ap suc e)) q

-- two stores at different places, in either order
pub set_set : {A : Type 0} (xs : List A) (i j : ℕ) (a b : A) → (i ≡ j → ⊥)
    → set (set xs i a) j b ≡ set (set xs j b) i a
set_set xs i j a b d = set_comm xs i j a b d

-- ---- from a place on

-- the elements from i on are element i and the rest
pub from_place : {A : Type 0} (xs : List A) (i : ℕ) (d : A) → i < length xs
    → drop i xs ≡ get_or xs i d ∷ drop (i + 1) xs
from_place xs i d h =
    drop-cons xs i d h ∙ ap (λ (k : ℕ). get_or xs i d ∷ drop k xs) (sym (add-one i))

-- what owning a field that is an array of structs tells of its list
pub length_mapped : {A B : Type 0} (f : A → B) (l : List A) (n : ℕ) → length (map f l) ≡ n
    → length l ≡ n
length_mapped f l n e = sym (length-map l f) ∙ e

-- ---- a walk that tests each element: where it stands before place i, its next turn, a turn that
-- fails, and its end

pub record Walked {A : Type 0} (f : ℕ → A → Bool) (n : ℕ) (xs : List A) (i : ℕ) : Type 0 where
  pub long : length xs ≡ n
  pub rest : every f 0 xs ≡ every f i (drop i xs)

pub walked_first : {A : Type 0} (f : ℕ → A → Bool) (n : ℕ) (xs : List A) → length xs ≡ n
    → Walked f n xs 0
walked_first f n xs e = record { long = e; rest = refl }

module _ {A : Type 0} {f : ℕ → A → Bool} {n : ℕ} {xs : List A} {i : ℕ} (w : Walked f n xs i) where
  module _ (d : A) (h : i < n) where
    split : every f 0 xs ≡ every f i (get_or xs i d ∷ drop (i + 1) xs)
    split = w.rest ∙ ap (every f i) (from_place xs i d (omega (arith, h, w.long)))

    pub walked_next : f i (get_or xs i d) ≡ true → Walked f n xs (i + 1)
    unfolding every
    walked_next e = record { long = w.long; rest = split ∙ rw (e, add-one i) }

    pub walked_fault : f i (get_or xs i d) ≡ false → every f 0 xs ≡ false
    unfolding every
    walked_fault e = split ∙ rw e

  pub walked_end : n ≤ i → every f 0 xs ≡ true
  unfolding every
  walked_end h =
      let b : length xs ≤ i = omega (arith, h, w.long) in
      w.rest ∙ ap (every f i) (drop_of_length-le xs b)

-- what such a walk tells of each place, and from each

pub every_in : {A : Type 0} (f : ℕ → A → Bool) (i : ℕ) (xs : List A) (d : A) → every f i xs ≡ true
    → (k : ℕ) → k < length xs → f (i + k) (get_or xs k d) ≡ true
unfolding every
every_in f i [] d e k b = absurd (not-suc-le-zero b)
every_in f i (x ∷ xs) d e zero b = rw (add-zero i) (both (f i x) (every f (suc i) xs) e).0
every_in f i (x ∷ xs) d e (suc k) b =
    let g : i + suc k ≡ suc i + k = omega arith in
    rw g (every_in f (suc i) xs d (both (f i x) (every f (suc i) xs) e).1 k (le_of_suc-le-suc b))

pub out_every : {A : Type 0} (f : ℕ → A → Bool) (i : ℕ) (xs : List A) (d : A)
    → ((k : ℕ) → k < length xs → f (i + k) (get_or xs k d) ≡ true) → every f i xs ≡ true
unfolding every
out_every f i [] d p = refl
out_every f i (x ∷ xs) d p =
    and_true (f i x) _ (rw (add-zero i) at (p zero (omega arith)))
    (out_every f (suc i) xs d
    (λ k b. let g : i + suc k ≡ suc i + k = omega arith in rw g at (p (suc k) (omega (arith, b)))))

-- what the library's `all` finds of a list, and of the elements with their places

pub all_every : {A : Type 0} (test : A → Bool) (i : ℕ) (xs : List A)
    → list_all test xs ≡ every (λ _ x. test x) i xs
unfolding every
all_every test i [] = refl
all_every test i (x ∷ xs) = rw (all_every test (suc i) xs)

pub all_placed : {A : Type 0} (f : ℕ → A → Bool) (i : ℕ) (xs : List A)
    → list_all (λ (p : ℕ × A). f p.0 p.1) (enumerate_from i xs) ≡ every f i xs
unfolding every
all_placed f i [] = refl
all_placed f i (x ∷ xs) = rw (add-one i, all_placed f (suc i) xs)

-- ---- tests that all have to hold: what they tell of each, and from each

abbrev pub Holding : List Bool → Type 0
Holding bs = All (λ (b : Bool). b ≡ true) bs

pub all_of_in : (bs : List Bool) → all_of bs ≡ true → Holding bs
unfolding all_of All
all_of_in [] e = tt
all_of_in (b ∷ []) e = (e, tt)
all_of_in (b ∷ (d ∷ bs)) e =
    let p = both b (all_of (d ∷ bs)) e in
    (p.0, all_of_in (d ∷ bs) p.1)

pub out_all_of : (bs : List Bool) → Holding bs → all_of bs ≡ true
unfolding all_of All
out_all_of [] p = refl
out_all_of (b ∷ []) p = p.0
out_all_of (b ∷ (d ∷ bs)) p = and_true b (all_of (d ∷ bs)) p.0 (out_all_of (d ∷ bs) p.1)
