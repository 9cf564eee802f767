-- Laws of what the theory says with numbers: a changed function, cases on orders, a list with one
-- more. Assumes nothing.
use Prim.Native.Nat.{ℕ, ◌≤◌, ◌<◌}
use native.Mathlib.Omega.{arith}
use native.Mathlib.Decide.{ℕ_discrete, dec_le}
use mathlib.Core.Path.{◌≡◌, refl}
use mathlib.Core.Logic.{◌⊎◌, inl, inr, ◌≢◌}
use mathlib.Core.Option.{Option, none, some}
use mathlib.Core.List.Memᴰ
use mathlib.Core.List.{List, Memᴰ}
use Rattle.theory.specs.Ballots.{pick, changed, with-one}

-- what a property of the changed function asks: of the new value at the place, of the old ones
-- elsewhere
pub changed-all {ℓ} : {A : Type ℓ} (P : ℕ → A → Type 0) (f : ℕ → A) (h : ℕ) (v : A) → P h v
    → ((x : ℕ) → x ≢ h → P x (f x)) →
    (x : ℕ) → P x (changed f h v x)
unfolding changed
changed-all P f h v new old x = go (ℕ_discrete x h)
  where
    go : (d : Dec (x ≡ h)) → P x (pick d v (f x))
    go (yes p) = rw p new
    go (no p) = old x p

pub changed-here {ℓ} : {A : Type ℓ} (f : ℕ → A) (h : ℕ) (v : A) → changed f h v h ≡ v
unfolding changed
changed-here f h v = go (ℕ_discrete h h)
  where
    go : (d : Dec (h ≡ h)) → pick d v (f h) ≡ v
    go (yes p) = refl
    go (no p) = absurd (p refl)

-- cases on orders, with the fact in hand
pub le_or_lt : (a b : ℕ) → (a ≤ b) ⊎ (b < a)
le_or_lt a b = go (dec_le a b)
  where
    go : Dec (a ≤ b) → (a ≤ b) ⊎ (b < a)
    go (yes p) = inl p
    go (no p) = inr (omega arith)

pub with-old {ℓ} : {A : Type ℓ} {m : A} (o : Option A) {l : List A} → Memᴰ m l
    → Memᴰ m (with-one o l)
with-old none h = h
with-old (some x) h = Memᴰ.tail h

pub with_new {ℓ} : {A : Type ℓ} {m : A} {l : List A} → Memᴰ m (with-one (some m) l)
with_new = Memᴰ.head refl

pub with_cases {ℓ} : {A : Type ℓ} {m : A} (o : Option A) {l : List A} → Memᴰ m (with-one o l)
    → Memᴰ m l ⊎ (o ≡ some m)
with_cases none h = inl h
with_cases {A} {m} (some x) {l} h = go (Memᴰ.cases_cons h)
  where
    go : (m ≡ x) ⊎ Memᴰ m l → Memᴰ m l ⊎ (some x ≡ some m)
    go (inl e) = inr (rw e)
    go (inr t) = inl t
