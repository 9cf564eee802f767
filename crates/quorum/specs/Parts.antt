-- The next host of a set, as a walk over its hosts has it. No claim rests on it: proofs/Next ties
-- it to the members of the set. Assumes nothing.
use Rattle.std.specs.Prelude.{ℕ, zero, suc, ◌-◌, cond}
use Rattle.quorum.specs.Sets.{is_in}

-- the first of the k hosts from h on that is in a set; the one behind them where none is
unfoldable pub next_from : ℕ → ℕ → ℕ → ℕ
next_from set h zero = h
next_from set h (suc k) = cond (is_in set h) h (next_from set (suc h) k)

abbrev pub next_in : ℕ → ℕ → ℕ → ℕ
next_in set h n = next_from set h (n - h)
