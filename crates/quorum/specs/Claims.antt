-- What is claimed of sets of hosts and majorities, in one place; proofs/Claims.antt proves it.
-- Assumes nothing.
use Rattle.std.specs.Prelude.{ℕ, ◌+◌, ◌≡◌, true, false}
use Rattle.quorum.specs.Sets.{is_in, is_below, with_host, size_of, is_majority, Member}

pub record Claims : Type 0 where
  -- any two majorities of n hosts have a host in common
  pub majorities_meet : (n s t : ℕ) → is_below s n ≡ true → is_below t n ≡ true
      → is_majority n s ≡ true → is_majority n t ≡ true → (h : ℕ) × Member n s h × Member n t h
  -- each host is counted once: one that is in the set does not change it, any other adds one to its
  -- size
  pub counted_again : (set h : ℕ) → is_in set h ≡ true → with_host set h ≡ set
  pub counted_first : (set h : ℕ) → is_in set h ≡ false
      → size_of (with_host set h) ≡ size_of set + 1
  -- and leaves every other host where it was
  pub others_stay : (set h k : ℕ) → (h ≡ k → ⊥) → is_in (with_host set h) k ≡ is_in set k
