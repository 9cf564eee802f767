-- What is claimed of the place of a refusal, wherever there is one: that a field there gives its
-- number, and none at a lower place. Assumes nothing.
use Rattle.std.specs.Prelude.{◌≡◌, ◌⊎◌, ℕ, ◌≤◌, false, List, [], ◌∷◌}
use Rattle.base.specs.Lists.{All}
use Rattle.base.specs.Refusals.{Refusal}

-- what holds of one of these elements
unfoldable pub Some : {A : Type 0} → (A → Type 0) → List A → Type 0
Some P [] = ⊥
Some P (x ∷ xs) = P x ⊎ Some P xs

-- a test fails whose field is at this place, of a refusal of this number
abbrev pub GivenAt : {Field : Type 0} → (Field → ℕ) → List (Refusal Field) → ℕ → ℕ → Type 0
GivenAt place rs k at =
    Some (λ r. (r.number ≡ k)
    × Some (λ t. (t.holds ≡ false) × (place t.field ≡ at)) r.tests) rs

-- and none fails whose field is at a lower one
abbrev pub Lowest : {Field : Type 0} → (Field → ℕ) → List (Refusal Field) → ℕ → ℕ → Type 0
Lowest place rs k at =
    All (λ r. r.number ≡ k → All (λ t. t.holds ≡ false → at ≤ place t.field) r.tests) rs
