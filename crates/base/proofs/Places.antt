-- Laws of the place at which a refusal is found: it is that of a field that gives its number, and
-- where fields that fail are at rising places no lower one gives it. Assumes nothing.
use mathlib.Core.Path.{◌≡◌, refl, sym, ap, subst, ◌∙◌}
use mathlib.Core.Bool.{Bool, true, false, cond, not, ◌&&◌}
use mathlib.Core.List.{List, [], ◌∷◌, ◌++◌, map}
use mathlib.Core.Logic.{◌⊎◌, inl, inr}
use Prim.Native.Nat.{ℕ, ◌+◌, ◌≤◌, ◌<◌}
use native.Mathlib.Omega.{arith}
use lib.Dec.{eqb}
use borrow.Author.Tests.{eq-eqb}
use Rattle.base.specs.Refusals.{done, unless, first_of, Test, Refusal, refusal, all_hold}
use Rattle.base.specs.Refusals.{answer_by, tests_in, fails_at, place_by}
use Rattle.base.specs.Lists.{All, all_of}
use Rattle.base.specs.Claims.{Some, GivenAt, Lowest}
use Rattle.base.proofs.Tests.{true_false}
use Rattle.base.proofs.Lists.{all_map, Holding, all_of_in}

-- ---- tests

hold_cons : {Field : Type 0} (t : Test Field) (ts : List (Test Field))
    → all_hold (t ∷ ts) ≡ (t.holds && all_hold ts)
unfolding all_of
hold_cons t [] = go t.holds
  where
    go : (b : Bool) → b ≡ (b && true)
    go true = refl
    go false = refl
hold_cons t (u ∷ ts) = refl

-- where all hold, none fails
held_none : {Field : Type 0} (P : Test Field → Type 0) (ts : List (Test Field))
    → all_hold ts ≡ true → All (λ t. t.holds ≡ false → P t) ts
unfolding All
held_none P [] e = tt
held_none P (t ∷ ts) e = go t.holds refl (sym (hold_cons t ts) ∙ e) (held_none P ts)
  where
    go : (b : Bool) → t.holds ≡ b → (b && all_hold ts) ≡ true
        → (all_hold ts ≡ true → All (λ u. u.holds ≡ false → P u) ts)
        → (t.holds ≡ false → P t) × All (λ u. u.holds ≡ false → P u) ts
    go true h e f = ((λ n. true_false (sym h ∙ n)), f e)
    go false h e f = true_false (sym e)

-- of two lists, the one with the first test that fails
pub fails_append : {Field : Type 0} (place : Field → ℕ) (ts us : List (Test Field))
    → fails_at place (ts ++ us) ≡ cond (all_hold ts) (fails_at place us) (fails_at place ts)
unfolding fails_at all_of
fails_append place [] us = refl
fails_append place (t ∷ ts) us =
    rw (hold_cons t ts) (go t.holds (fails_append place ts us))
  where
    go : (b : Bool)
        → fails_at place (ts ++ us) ≡ cond (all_hold ts) (fails_at place us) (fails_at place ts)
        → cond b (fails_at place (ts ++ us)) (place t.field)
        ≡ cond (b && all_hold ts) (fails_at place us) (cond b (fails_at place ts) (place t.field))
    go true e = e
    go false e = refl

-- two tables that have these fields at the same places
pub fails_same : {Field : Type 0} (p q : Field → ℕ) (ts : List (Test Field))
    → All (λ t. p t.field ≡ q t.field) ts → fails_at p ts ≡ fails_at q ts
unfolding fails_at All
fails_same p q [] e = refl
fails_same p q (t ∷ ts) e = rw (e.0, fails_same p q ts e.1)

-- the place is that of a test that fails
fails_given : {Field : Type 0} (place : Field → ℕ) (ts : List (Test Field)) → all_hold ts ≡ false
    → Some (λ t. (t.holds ≡ false) × (place t.field ≡ fails_at place ts)) ts
unfolding fails_at all_of Some
fails_given place [] e = true_false e
fails_given place (t ∷ ts) e =
    go t.holds refl (sym (hold_cons t ts) ∙ e) (fails_given place ts)
  where
    go : (b : Bool) → t.holds ≡ b → (b && all_hold ts) ≡ false
        → (all_hold ts ≡ false
        → Some (λ u. (u.holds ≡ false) × (place u.field ≡ fails_at place ts)) ts)
        → let at = cond b (fails_at place ts) (place t.field) in
        ((t.holds ≡ false) × (place t.field ≡ at))
        ⊎ Some (λ u. (u.holds ≡ false) × (place u.field ≡ at)) ts
    go true h e f = inr (f e)
    go false h e f = inl (h, refl)

-- ---- fields at rising places

-- each of these tests holds, or its field is at least as far on as those of the tests before it
-- that may fail, from `low` on, and below `high`
unfoldable pub Rising : {Field : Type 0} → (Field → ℕ) → ℕ → ℕ → List (Test Field) → Type 0
Rising place low high [] = Unit
Rising place low high (t ∷ ts) =
    ((t.holds ≡ true) × Rising place low high ts)
    ⊎ ((low ≤ place t.field)
    × ((place t.field < high) × Rising place (place t.field) high ts))

-- a test by itself
pub lone : {Field : Type 0} (place : Field → ℕ) (t : Test Field)
    → Rising place 0 (place t.field + 1) (t ∷ [])
unfolding Rising
lone place t = inr (omega arith, (omega arith, tt))

-- each field that fails is from `low` on and below `high`
record Between (low high at : ℕ) : Type 0 where
  from : low ≤ at
  below : at < high

rising_between : {Field : Type 0} (place : Field → ℕ) (low high : ℕ) (ts : List (Test Field))
    → Rising place low high ts
    → All (λ t. t.holds ≡ false → Between low high (place t.field)) ts
unfolding Rising All
rising_between place low high [] r = tt
rising_between place low high (t ∷ ts) (inl (h, r)) =
    ((λ n. true_false (sym h ∙ n)), rising_between place low high ts r)
rising_between place low high (t ∷ ts) (inr (l, (b, r))) = (
  (λ _. record { from = l; below = b }),
  all_map ts (λ u f n. record { from = omega (arith, l, (f n).from); below = (f n).below })
      (rising_between place (place t.field) high ts r),
)

-- so the first that fails is at the lowest place, and it is between them too
rising_first : {Field : Type 0} (place : Field → ℕ) (low high : ℕ) (ts : List (Test Field))
    → Rising place low high ts
    → All (λ t. t.holds ≡ false → fails_at place ts ≤ place t.field) ts
unfolding Rising All fails_at
rising_first place low high [] r = tt
rising_first place low high (t ∷ ts) (inl (h, r)) = (
  (λ n. true_false (sym h ∙ n)),
  all_map ts
      (λ u f n. subst (λ (d : Bool). cond d (fails_at place ts) (place t.field) ≤ place u.field)
      (sym h) (f n))
      (rising_first place low high ts r),
)
rising_first place low high (t ∷ ts) (inr (l, (b, r))) =
    go t.holds refl (rising_first place (place t.field) high ts r)
  where
    go : (d : Bool) → t.holds ≡ d
        → All (λ u. u.holds ≡ false → fails_at place ts ≤ place u.field) ts →
        let at = cond d (fails_at place ts) (place t.field) in
        (t.holds ≡ false → at ≤ place t.field)
        × All (λ u. u.holds ≡ false → at ≤ place u.field) ts
    go true h rest = ((λ n. true_false (sym h ∙ n)), rest)
    go false h rest = (
      (λ _. omega arith),
      all_map ts (λ u f n. (f n).from) (rising_between place (place t.field) high ts r),
    )

pub rising_below : {Field : Type 0} (place : Field → ℕ) (low high : ℕ) (ts : List (Test Field))
    → Rising place low high ts → all_hold ts ≡ false → fails_at place ts < high
unfolding Rising fails_at all_of
rising_below place low high [] r e = true_false e
rising_below place low high (t ∷ ts) (inl (h, r)) e =
    rw h (rising_below place low high ts r (go t.holds h (sym (hold_cons t ts) ∙ e)))
  where
    go : (b : Bool) → b ≡ true → (b && all_hold ts) ≡ false → all_hold ts ≡ false
    go true h e = e
    go false h e = true_false (sym h)
rising_below place low high (t ∷ ts) (inr (l, (b, r))) e =
    go t.holds (sym (hold_cons t ts) ∙ e)
    (rising_below place (place t.field) high ts r)
  where
    go : (d : Bool) → (d && all_hold ts) ≡ false → (all_hold ts ≡ false → fails_at place ts < high)
        → cond d (fails_at place ts) (place t.field) < high
    go true e f = f e
    go false e f = b

-- ---- refusals

-- what holds of the number and the place of the first refusal that applies
pub first_place : {Field : Type 0} (place : Field → ℕ) (P : ℕ → ℕ → Type 0) (r : Refusal Field)
    (rs : List (Refusal Field)) → eqb r.number done ≡ false
    → (all_hold r.tests ≡ false → P r.number (fails_at place r.tests))
    → (all_hold r.tests ≡ true → P (answer_by rs) (place_by place rs))
    → P (answer_by (r ∷ rs)) (place_by place (r ∷ rs))
unfolding tests_in first_of
first_place place P r rs n f g =
    rw (fails_append place r.tests (tests_in rs)) (go (all_hold r.tests) f g)
  where
    go : (b : Bool) → (b ≡ false → P r.number (fails_at place r.tests))
        → (b ≡ true → P (answer_by rs) (place_by place rs))
        → P (first_of (unless b r.number ∷ map (λ x. unless (all_hold x.tests) x.number) rs))
        (cond b (place_by place rs) (fails_at place r.tests))
    go true f g = g refl
    go false f g = rw n (f refl)

is_not : (b : Bool) → not b ≡ true → b ≡ false
is_not true e = sym e
is_not false e = refl

-- no refusal of this number
abbrev pub none_of : {Field : Type 0} → ℕ → List (Refusal Field) → Bool
none_of k rs = all_of (map (λ r. not (eqb r.number k)) rs)

apart_each : {Field : Type 0} (place : Field → ℕ) (rs : List (Refusal Field)) (k at : ℕ)
    → Holding (map (λ r. not (eqb r.number k)) rs) → Lowest place rs k at
unfolding All
apart_each place [] k at h = tt
apart_each place (r ∷ rs) k at h = (
  (λ q. true_false (sym h.0 ∙ ap not (eq-eqb r.number k q))),
  apart_each place rs k at h.1,
)

pub apart : {Field : Type 0} (place : Field → ℕ) (rs : List (Refusal Field)) (k at : ℕ)
    → none_of k rs ≡ true → Lowest place rs k at
apart place rs k at e = apart_each place rs k at (all_of_in _ e)

-- the lowest place: of the first refusal, with those of its number after it, or of those after it
pub lowest_first : {Field : Type 0} (place : Field → ℕ) (low high : ℕ) (r : Refusal Field)
    (rs : List (Refusal Field)) → eqb r.number done ≡ false → Rising place low high r.tests
    → (all_hold r.tests ≡ false → Lowest place rs r.number (fails_at place r.tests))
    → (all_hold r.tests ≡ true → Lowest place rs (answer_by rs) (place_by place rs))
    → Lowest place (r ∷ rs) (answer_by (r ∷ rs)) (place_by place (r ∷ rs))
unfolding All
lowest_first place low high r rs n rising f g =
    first_place place (λ k at. Lowest place (r ∷ rs) k at) r rs n
    (λ e. ((λ _. rising_first place low high r.tests rising), f e))
    (λ e. ((λ _. held_none (λ t. _ ≤ place t.field) r.tests e), g e))

-- a refusal of one test, with no other of its number after it
pub lowest_lone : {Field : Type 0} (place : Field → ℕ) (k : ℕ) (t : Test Field)
    (rs : List (Refusal Field)) → eqb k done ≡ false → none_of k rs ≡ true
    → (t.holds ≡ true → Lowest place rs (answer_by rs) (place_by place rs))
    → let all = refusal k (t ∷ []) ∷ rs in Lowest place all (answer_by all) (place_by place all)
unfolding all_of
lowest_lone place k t rs n e g =
    lowest_first place 0 (place t.field + 1) (refusal k (t ∷ [])) rs n (lone place t)
    (λ _. apart place rs k _ e) g

-- some field gives the number, at the place
given_each : {Field : Type 0} (place : Field → ℕ) (rs : List (Refusal Field))
    → Holding (map (λ r. not (eqb r.number done)) rs) → (answer_by rs ≡ done → ⊥)
    → GivenAt place rs (answer_by rs) (place_by place rs)
unfolding Some first_of All
given_each place [] h n = absurd (n refl)
given_each place (r ∷ rs) h n =
    first_place place (λ k at. (k ≡ done → ⊥) → GivenAt place (r ∷ rs) k at) r rs
    (is_not _ h.0) (λ e m. inl (refl, fails_given place r.tests e))
    (λ e m. inr (given_each place rs h.1 m)) n

pub given : {Field : Type 0} (place : Field → ℕ) (rs : List (Refusal Field))
    → none_of done rs ≡ true
    → (answer_by rs ≡ done → ⊥) → GivenAt place rs (answer_by rs) (place_by place rs)
given place rs e n = given_each place rs (all_of_in _ e) n
