-- What is claimed of decimal text, in one place; proofs/Claims.antt proves it. Assumes nothing.
use Rattle.std.specs.Prelude.{ℕ, ◌+◌, ◌-◌, ◌*◌, List, [], ◌∷◌, ◌≡◌}
use Rattle.text.specs.Text.{decimal}

-- the number that these digits say, behind digits that say a
unfoldable pub value_from : ℕ → List ℕ → ℕ
value_from a [] = a
value_from a (d ∷ ds) = value_from (a * 10 + (d - 48)) ds

pub record Claims : Type 0 where
  -- the digits of a number, read back, give the number
  pub read_back : (n : ℕ) → value_from 0 (decimal n) ≡ n
  -- so two numbers never share their text
  pub texts_apart : (m n : ℕ) → decimal m ≡ decimal n → m ≡ n
