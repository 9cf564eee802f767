-- Laws of counting: adding a host to a set, a set's size as a sum over the hosts, and that two
-- majorities share a host, with a weight for each host. Assumes nothing.
use mathlib.Core.Path.{◌≡◌, refl, sym, ap, ap₂, ◌∙◌}
use mathlib.Core.Bool.{Bool, true, false}
use Prim.Native.Nat.{ℕ, zero, suc, ◌+◌, ◌*◌, ◌/◌, ◌%◌, ◌^◌, ◌<◌, max}
use native.Mathlib.Nat.{one-mul, div-one, add_comm, mod-lt, mod-eq_of_lt, not-suc-le-zero, add-zero}
use native.Mathlib.Numerals.{one-add}
use native.Mathlib.Decide.{dec_lt}
use native.Mathlib.Omega.{arith}
use lib.Bits.{bit_or, or_zero_r, or_step, or_lt, shifted_half, shifted_even}
use lib.Count.{ones, ones_in, ones_step, ones_cat}
use lib.Pow.{pow_pos, pow-lt, mod-pow-add}
use lib.Dec.{eqb}
use borrow.Author.Tests.{leb-true, lt-leb, eqb-true, eqb-false, eq-eqb, ne_eqb}
use Rattle.std.proofs.lemmas.Nat.Bits.{bit_at_or}
use Rattle.quorum.specs.Sets.{bit, is_in, single_of, with_host, everyone_of, others_of, size_of}
use Rattle.quorum.specs.Sets.{majority_size, is_majority}
use Rattle.quorum.proofs.Laws.{bit_le, bit_next, single_same, single_other}

-- ---- sums by index

abbrev pub sum : (ℕ → ℕ) → ℕ → ℕ
sum f zero = 0
sum f (suc k) = sum f k + f k

-- two sums that together exceed a third have a place where their parts do
pub meet : (f g w : ℕ → ℕ) (n : ℕ) → sum w n < sum f n + sum g n → (i : ℕ) × (i < n)
    × (w i < f i + g i)
meet f g w zero h = absurd (not-suc-le-zero h)
meet f g w (suc k) h = go (dec_lt (w k) (f k + g k)) (meet f g w k)
  where
    go : Dec (w k < f k + g k)
        → (sum w k < sum f k + sum g k → (i : ℕ) × (i < k) × (w i < f i + g i)) → (i : ℕ)
        × (i < suc k) × (w i < f i + g i)
    go (yes p) e = (k, omega arith, p)
    go (no q) e =
        let r : (i : ℕ) × (i < k) × (w i < f i + g i) = e (omega arith) in
        (r.0, omega arith, r.2)

sum_one : (n : ℕ) → sum (λ i. 1) n ≡ n
sum_one zero = refl
sum_one (suc n) = omega (arith, sum_one n)

-- ---- a set's size is the sum of its bits

ones_bit : (b : ℕ) → b < 2 → ones b ≡ b
unfolding ones
ones_bit zero h = refl
ones_bit (suc zero) h = refl
ones_bit (suc (suc b)) h = absurd (omega arith)

ones_sum : (s n : ℕ) → ones (s % 2 ^ n) ≡ sum (bit s) n
unfolding ones
ones_sum s zero = ap ones (native.Mathlib.Nat.mod-one s)
ones_sum s (suc k) =
    ap (λ (m : ℕ). ones (s % 2 ^ m)) (sym (one-add k))
    ∙ ap ones (mod-pow-add s 1 k)
    ∙ ones_cat k (bit s k) (s % 2 ^ k) (mod-lt s (pow_pos k))
    ∙ ap₂ ◌+◌ (ones_bit (bit s k) (bit_le s k)) (ones_sum s k)
    ∙ add_comm (bit s k) (sum (bit s) k)

pub size_sum : (s n : ℕ) → s < 2 ^ n → size_of s ≡ sum (bit s) n
size_sum s n h = ap ones (sym (mod-eq_of_lt h)) ∙ ones_sum s n

-- ---- two majorities meet

-- with a weight for each host: two sets that together weigh more than all share a host
pub weighed_meet : (w : ℕ → ℕ) (n s t : ℕ)
    → sum w n < sum (λ i. bit s i * w i) n + sum (λ i. bit t i * w i) n
    → (i : ℕ) × (i < n) × (bit s i ≡ 1) × (bit t i ≡ 1)
weighed_meet w n s t h =
    let m = meet (λ i. bit s i * w i) (λ i. bit t i * w i) w n h in
    let b =
    both (bit s m.0) (bit t m.0) (w m.0) (bit_le s m.0) (bit_le t m.0) m.2 in
    (m.0, m.1, b.0, b.1)
  where
    both : (a b v : ℕ) → a < 2 → b < 2 → v < a * v + b * v → (a ≡ 1) × (b ≡ 1)
    both zero zero v ha hb p = absurd (omega arith)
    both zero (suc zero) v ha hb p = absurd (omega arith)
    both zero (suc (suc b)) v ha hb p = absurd (omega arith)
    both (suc zero) zero v ha hb p = absurd (omega arith)
    both (suc zero) (suc zero) v ha hb p = (refl, refl)
    both (suc zero) (suc (suc b)) v ha hb p = absurd (omega arith)
    both (suc (suc a)) b v ha hb p = absurd (omega arith)

sum_weighed : (f : ℕ → ℕ) (n : ℕ) → sum (λ i. f i * 1) n ≡ sum f n
sum_weighed f zero = refl
sum_weighed f (suc n) = omega (arith, sum_weighed f n)

-- two majorities are more than all hosts
majority_half : (n : ℕ) → n < majority_size n + majority_size n
majority_half n = omega arith

-- two majorities of n hosts share a host: the weights are 1
pub majorities_meet : (n s t : ℕ) → s < 2 ^ n → t < 2 ^ n → is_majority n s ≡ true
    → is_majority n t ≡ true → (i : ℕ) × (i < n) × (bit s i ≡ 1) × (bit t i ≡ 1)
unfolding is_majority
majorities_meet n s t hs ht ms mt =
    weighed_meet (λ i. 1) n s t
    (omega (
      arith,
      majority_half n,
      leb-true (majority_size n) (size_of s) ms,
      leb-true (majority_size n) (size_of t) mt,
      size_sum s n hs,
      size_sum t n ht,
      sum_one n,
      sum_weighed (bit s) n,
      sum_weighed (bit t) n,
    ))

-- nobody is no majority
pub nobody_short : (n : ℕ) → is_majority n 0 ≡ false
unfolding is_majority ones ones_in
nobody_short n = lt-leb (majority_size n) 0 (omega arith)

-- ---- adding a host

-- one digit set, by the digits of a number, the lowest first
or_first : (s : ℕ) → bit_or s 1 ≡ s / 2 * 2 + 1
or_first s =
    or_step s 1
    ∙ ap (λ (x : ℕ). x * 2 + max (s % 2) 1) (or_zero_r (s / 2))
    ∙ omega (arith, bit_le s 0)

or_next : (s h : ℕ) → bit_or s (2 ^ suc h) ≡ bit_or (s / 2) (2 ^ h) * 2 + s % 2
or_next s h =
    let half : 2 ^ suc h / 2 ≡ 2 ^ h =
    rw (one-mul (2 ^ suc h), one-mul (2 ^ h)) at (shifted_half 1 h) in
    let even : 2 ^ suc h % 2 ≡ 0 = rw (one-mul (2 ^ suc h)) at (shifted_even 1 h) in
    or_step s (2 ^ suc h)
    ∙ ap₂ (λ (x y : ℕ). bit_or (s / 2) x * 2 + max (s % 2) y) half even
    ∙ omega arith

or_again : (s h : ℕ) → bit s h ≡ 1 → bit_or s (2 ^ h) ≡ s
or_again s zero e = or_first s ∙ omega (arith, rw (div-one s) at e)
or_again s (suc h) e =
    let r = or_again (s / 2) h (bit_next s h ∙ e) in
    or_next s h ∙ omega (arith, r)

ones_pair : (q b : ℕ) → b < 2 → ones (q * 2 + b) ≡ ones q + b
ones_pair q b p = ones_cat 1 q b p ∙ ap (λ (x : ℕ). ones q + x) (ones_bit b p)

or_new : (s h : ℕ) → bit s h ≡ 0 → ones (bit_or s (2 ^ h)) ≡ ones s + 1
or_new s zero e =
    ap ones (or_first s)
    ∙ ones_pair (s / 2) 1 (omega arith)
    ∙ omega (arith, rw (div-one s) at e, ones_step s)
or_new s (suc h) e =
    let r = or_new (s / 2) h (bit_next s h ∙ e) in
    ap ones (or_next s h)
    ∙ ones_pair (bit_or (s / 2) (2 ^ h)) (s % 2) (omega arith)
    ∙ omega (arith, r, ones_step s)

-- a host that is in the set is not added again
pub with_again : (s h : ℕ) → bit s h ≡ 1 → with_host s h ≡ s
with_again s h e = or_again s h e

-- a host that is not in the set makes it larger by one
pub with_new : (s h : ℕ) → bit s h ≡ 0 → size_of (with_host s h) ≡ size_of s + 1
with_new s h e = or_new s h e

-- a bit that is not 1 is 0
pub absent : (s h : ℕ) → is_in s h ≡ false → bit s h ≡ 0
absent s h e =
    let n = eqb-false (bit s h) 1 e in
    omega (arith, n, bit_le s h)

-- so whether a host is in the set is told by whether the set with it is another
pub with_tells : (s h : ℕ) → eqb (with_host s h) s ≡ is_in s h
with_tells s h = go (is_in s h) refl
  where
    go : (b : Bool) → is_in s h ≡ b → eqb (with_host s h) s ≡ b
    go true e = eq-eqb _ _ (with_again s h (eqb-true (bit s h) 1 e))
    go false e =
        ne_eqb (with_host s h) s
        (λ z.
        let larger = with_new s h (absent s h e) in
        let same : size_of (with_host s h) ≡ size_of s = ap ones z in
        omega (arith, larger, same))

pub with_same : (s h : ℕ) → bit (with_host s h) h ≡ 1
with_same s h = bit_at_or s (single_of h) h ∙ omega (arith, single_same h, bit_le s h)

pub with_other : (s h i : ℕ) → (h ≡ i → ⊥) → bit (with_host s h) i ≡ bit s i
with_other s h i e = bit_at_or s (single_of h) i ∙ omega (arith, single_other h i e)

pub with_below : (n s h : ℕ) → s < 2 ^ n → h < n → with_host s h < 2 ^ n
with_below n s h p q = or_lt n s (single_of h) p (pow-lt q)

pub size_single : (h : ℕ) → size_of (single_of h) ≡ 1
unfolding ones
size_single h = ap ones (sym (add-zero (1 * 2 ^ h) ∙ one-mul (2 ^ h))) ∙ ones_cat h 1 0 (pow_pos h)

-- ---- all hosts, and all but one

pub everyone_below : (n : ℕ) → everyone_of n < 2 ^ n
everyone_below n = omega (arith, pow_pos n)

pub others_below : (n h : ℕ) → others_of n h < 2 ^ n
others_below n h = omega (arith, pow_pos n)
