-- The next host of a set: where it is found, and what holds of it. Assumes nothing.
use mathlib.Core.Path.{◌≡◌, refl}
use mathlib.Core.Bool.{Bool, true, false, cond}
use Prim.Native.Nat.{ℕ, zero, suc, ◌+◌, ◌-◌, ◌≤◌, ◌<◌}
use native.Mathlib.Decide.{dec_lt}
use native.Mathlib.Omega.{arith}
use Rattle.quorum.specs.Sets.{is_in, members_from}
use Rattle.quorum.specs.Parts.{next_from, next_in}
use Rattle.quorum.proofs.Laws.{members_step}

-- at a host that is in the set, at one that is not, and behind the last
pub next_here : (set h n : ℕ) → h < n → is_in set h ≡ true → next_in set h n ≡ h
unfolding next_from
next_here set h n b e =
    let k : n - h ≡ suc (n - (h + 1)) = omega arith in
    rw (k, e)

pub next_later : (set h n : ℕ) → h < n → is_in set h ≡ false
    → next_in set h n ≡ next_in set (h + 1) n
unfolding next_from
next_later set h n b e =
    let k : n - h ≡ suc (n - (h + 1)) = omega arith in
    let g : h + 1 ≡ suc h = omega arith in
    rw (k, e, g)

pub next_end : (set h n : ℕ) → n ≤ h → next_in set h n ≡ h
unfolding next_from
next_end set h n b = let k : n - h ≡ 0 = omega arith in rw k

-- what holds of the next one from h on: between are none of the set
pub record Next (set h n r : ℕ) : Type 0 where
  pub least : h ≤ r
  pub most : r ≤ n
  pub member : r < n → is_in set r ≡ true
  pub rest : members_from set h (n - h) ≡ members_from set r (n - r)

next_from_lem : (set n k h : ℕ) → h + k ≡ n → Next set h n (next_from set h k)
unfolding next_from
next_from_lem set n zero h e =
    record {
      least = omega arith;
      most = omega arith;
      member = λ b. absurd (omega arith);
      rest = refl;
    }
next_from_lem set n (suc k) h e =
    go (is_in set h) refl (next_from_lem set n k (suc h) (omega arith))
  where
    go : (b : Bool) → is_in set h ≡ b → Next set (suc h) n (next_from set (suc h) k)
        → Next set h n (cond b h (next_from set (suc h) k))
    go true p q =
        record { least = omega arith; most = omega arith; member = λ _. p; rest = refl }
    go false p q =
        let g : h + 1 ≡ suc h = omega arith in
        record {
          least = omega (arith, q.least);
          most = q.most;
          member = q.member;
          rest = rw (members_step set h n (omega arith), p, g) q.rest;
        }

pub next_is : (set h n : ℕ) → h ≤ n → Next set h n (next_in set h n)
next_is set h n b = next_from_lem set n (n - h) h (omega arith)

-- a host from h on that is in the set or behind the last, and none before it is, is the next one
pub next_first : (set h k i : ℕ) → h ≤ i → i ≤ h + k → (i < h + k → is_in set i ≡ true)
    → ((j : ℕ) → h ≤ j → j < i → is_in set j ≡ false) → next_from set h k ≡ i
unfolding next_from
next_first set h zero i a b at none = omega arith
next_first set h (suc k) i a b at none =
    go (dec_lt h i)
    (λ p. next_first set (suc h) k i p (omega arith) (λ q. at (omega arith))
    (λ j q r. none j (omega arith) r))
  where
    go : Dec (h < i) → (h < i → next_from set (suc h) k ≡ i)
        → cond (is_in set h) h (next_from set (suc h) k) ≡ i
    go (yes p) rest = rw (none h (omega arith) p) (rest p)
    go (no q) rest =
        let e : i ≡ h = omega arith in
        rw (rw e at (at (omega arith))) (omega arith)
