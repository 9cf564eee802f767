-- Numbers that are kept beside the hosts: one more of them, and one that is stored to with its
-- host. Assumes nothing.
use mathlib.Core.Path.{◌≡◌, ◌∙◌}
use mathlib.Core.List.{List}
use Prim.Native.Nat.{ℕ, ◌+◌, ◌≤◌, ◌<◌}
use native.Mathlib.Omega.{arith}
use native.Mathlib.Decide.{ℕ_discrete}
use lib.ListN.{length, get_or, set, length-set}
use lib.Seq.{get_or-set_same, get_or-set_other}
use Rattle.host.specs.declared.Host.{Host}
use Rattle.places.specs.Places.{blank_host}
use Rattle.places.specs.Parts.{MirrorsTo, Mirrors}

-- a number that is stored to, beside those that are as they should be
stored_number : (xs : List ℕ) (g : ℕ → ℕ) (n i y : ℕ) → i < length xs → y ≡ g i
    → ((k : ℕ) → k < n → (k ≡ i → ⊥) → get_or xs k 0 ≡ g k) → (k : ℕ) → k < n
    → get_or (set xs i y) k 0 ≡ g k
stored_number xs g n i y l e f k b = go (ℕ_discrete k i)
  where
    go : Dec (k ≡ i) → get_or (set xs i y) k 0 ≡ g k
    go (yes q) = rw (q, get_or-set_same xs i y 0 l) e
    go (no q) = rw (get_or-set_other xs i k y 0 q) (f k b q)

module _ {f : Host → ℕ} {hosts : List Host} {xs : List ℕ} where
  pub mirrors_none : length xs ≡ 9 → MirrorsTo 0 f hosts xs
  mirrors_none l = record { many = l; each = λ k b. absurd (omega (arith, b)) }

  -- one more
  pub mirrors_next : (i y : ℕ) → MirrorsTo i f hosts xs → i < 9 → y ≡ f (get_or hosts i blank_host)
      → MirrorsTo (i + 1) f hosts (set xs i y)
  mirrors_next i y p l e =
      record {
        many = length-set xs i y ∙ p.many;
        each =
            stored_number xs (λ k. f (get_or hosts k blank_host)) (i + 1) i y
            (omega (arith, p.many)) e (λ k b q. p.each k (omega (arith, b, q)));
      }

  -- all that there are
  pub mirrors_all : (i : ℕ) → MirrorsTo i f hosts xs → 9 ≤ i → Mirrors f hosts xs
  mirrors_all i p l = record { many = p.many; each = λ k b. p.each k (omega (arith, b)) }

  -- a host is stored to, and its number
  pub mirrors_set : (i y : ℕ) (x : Host) → Mirrors f hosts xs → length hosts ≡ 9 → i < 9
      → y ≡ f x → Mirrors f (set hosts i x) (set xs i y)
  mirrors_set i y x p h l e =
      record {
        many = length-set xs i y ∙ p.many;
        each =
            stored_number xs (λ k. f (get_or (set hosts i x) k blank_host)) 9 i y
            (omega (arith, p.many))
            (rw (get_or-set_same hosts i x blank_host (omega (arith, h))) e)
            (λ k b q. rw (get_or-set_other hosts i k x blank_host q) (p.each k b));
      }
