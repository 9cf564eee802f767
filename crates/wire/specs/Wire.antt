-- Numbers as bytes, lowest first, one and several end to end. Assumes nothing.
use Rattle.std.specs.Prelude.{ℕ, zero, suc, ◌+◌, ◌*◌, ◌/◌, ◌%◌, List, [], ◌∷◌, ◌++◌, get_or}

-- the w bytes of v, lowest first
unfoldable pub le : ℕ → ℕ → List ℕ
le zero v = []
le (suc w) v = v % 256 ∷ le w (v / 256)

-- the number in the w bytes of s from `at` on
unfoldable pub number_at : List ℕ → ℕ → ℕ → ℕ
number_at s at zero = 0
number_at s at (suc w) = get_or s at 0 + 256 * number_at s (suc at) w

-- how many bytes numbers of these widths take
unfoldable pub total : List ℕ → ℕ
total [] = 0
total (w ∷ ws) = w + total ws

-- the numbers of these widths in s from `at` on
unfoldable pub numbers_at : List ℕ → ℕ → List ℕ → List ℕ
numbers_at s at [] = []
numbers_at s at (w ∷ ws) = number_at s at w ∷ numbers_at s (at + w) ws

-- the bytes of numbers of these widths
unfoldable pub packed : List ℕ → List ℕ → List ℕ
packed [] vs = []
packed (w ∷ ws) [] = []
packed (w ∷ ws) (v ∷ vs) = le w v ++ packed ws vs
