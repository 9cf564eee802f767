-- Laws of sets of hosts: membership, the set of one host, what the hosts that a set names tell of
-- it, and the list of a set's hosts. Assumes nothing.
use mathlib.Core.Path.{◌≡◌, refl, sym, ap, ◌∙◌}
use mathlib.Core.Bool.{Bool, true, false, cond, ◌||◌}
use mathlib.Core.List.{List, [], ◌∷◌}
use Prim.Native.Nat.{ℕ, zero, suc, ◌+◌, ◌-◌, ◌*◌, ◌/◌, ◌%◌, ◌^◌, ◌≤◌, ◌<◌}
use native.Mathlib.Nat.{one-mul, mod-lt, div-eq_of_lt, div-one, zero-div}
use native.Mathlib.Decide.{dec_lt, ℕ_discrete}
use native.Mathlib.Omega.{arith}
use lib.Count.{ones, ones_in, ones_step}
use lib.Dec.{lit<, eqb, ltb}
use lib.ListN.{length}
use lib.Pow.{shl_exact, shr-shr, pow_mono, pow-lt}
use borrow.Author.Tests.{ltb-true, eqb-true, lt-ltb, eq-eqb, ne_eqb}
use Rattle.std.proofs.lemmas.Nat.Bits.{bit_at-lt, bit_at-suc, bit_at-pow_same, bit_at-pow_other}
use Rattle.base.specs.Lists.{All}
use Rattle.base.proofs.Tests.{true_false}
use Rattle.quorum.specs.Sets.{Member, bit, is_in, single_of, is_below, is_only, members_from}
use Rattle.quorum.specs.Sets.{members}

-- a bit of a `u16` by a shift
pub shifted : (i : ℕ) → i < 16 → (1 * 2 ^ i) % 2 ^ 16 ≡ 2 ^ i
shifted i h = shl_exact {a = 1} 1 i 16 (lit< tt) (omega arith) ∙ one-mul (2 ^ i)

pub bit_le : (s i : ℕ) → bit s i < 2
bit_le s i = bit_at-lt s i

pub bit_next : (s i : ℕ) → bit (s / 2) i ≡ bit s (suc i)
bit_next s i = sym (bit_at-suc s i)

-- a `u16` is below 2^n from n = 16 on, and so not one host's set
pub below_beyond : (s n : ℕ) → s < 2 ^ 16 → 16 ≤ n → ltb s (2 ^ n) ≡ true
below_beyond s n h k = lt-ltb s (2 ^ n) (omega (arith, pow_mono {i = 16} {j = n} k))

pub other_beyond : (s n : ℕ) → s < 2 ^ 16 → 16 ≤ n → eqb s (2 ^ n) ≡ false
other_beyond s n h k =
    let p = pow_mono {i = 16} {j = n} k in
    ne_eqb s (2 ^ n) (λ e. omega arith)

-- ---- the set of one host

pub single_same : (i : ℕ) → bit (single_of i) i ≡ 1
single_same i = bit_at-pow_same i

pub single_other : (h i : ℕ) → (h ≡ i → ⊥) → bit (single_of h) i ≡ 0
single_other h i e = bit_at-pow_other h i (λ d. e (sym d))

-- ---- what the hosts that a set names tell of it

-- a set that is not empty names a host; w is at least the set
some_named : (w set : ℕ) → set ≤ w → 0 < set → (h : ℕ) × (bit set h ≡ 1)
some_named zero set l p = absurd (omega arith)
some_named (suc w) set l p =
    go (set % 2) refl (mod-lt set (lit< tt)) (λ q. some_named w (set / 2) (omega arith) q)
  where
    go : (b : ℕ) → set % 2 ≡ b → b < 2 → (0 < set / 2 → (h : ℕ) × (bit (set / 2) h ≡ 1))
        → (h : ℕ) × (bit set h ≡ 1)
    go zero e b f =
        let r = f (omega arith) in
        (suc r.0, bit_at-suc set r.0 ∙ r.1)
    go (suc zero) e b f = (0, rw (div-one set) e)
    go (suc (suc j)) e b f = absurd (omega arith)

pub some_host : (set : ℕ) → 0 < set → (h : ℕ) × (is_in set h ≡ true)
some_host set p =
    let r = some_named set set (omega arith) p in
    (r.0, eq-eqb (bit set r.0) 1 r.1)

-- a set whose hosts are all below n
bits_below : (n set : ℕ) → ((h : ℕ) → bit set h ≡ 1 → h < n) → set < 2 ^ n
bits_below zero set f = go (dec_lt 0 set)
  where
    go : Dec (0 < set) → set < 2 ^ 0
    go (yes p) =
        let r = some_named set set (omega arith) p in
        absurd (omega (arith, f r.0 r.1))
    go (no q) = omega arith
bits_below (suc n) set f =
    let r = bits_below n (set / 2) (λ h e. omega (arith, f (suc h) (bit_at-suc set h ∙ e))) in
    omega arith

-- a set whose hosts are all h
bits_single : (h set : ℕ) → 0 < set → ((i : ℕ) → bit set i ≡ 1 → i ≡ h) → set ≡ 2 ^ h
bits_single zero set p f =
    let r = bits_below 1 set (λ i e. omega (arith, f i e)) in
    omega arith
bits_single (suc h) set p f = go (set % 2) refl (mod-lt set (lit< tt)) (bits_single h (set / 2))
  where
    go : (b : ℕ) → set % 2 ≡ b → b < 2
        → (0 < set / 2 → ((i : ℕ) → bit (set / 2) i ≡ 1 → i ≡ h) → set / 2 ≡ 2 ^ h)
        → set ≡ 2 ^ suc h
    go zero e b g =
        let r = g (omega arith) (λ i q. omega (arith, f (suc i) (bit_at-suc set i ∙ q))) in
        omega arith
    go (suc zero) e b g = absurd (omega (arith, f 0 (rw (div-one set) e)))
    go (suc (suc j)) e b g = absurd (omega arith)

-- so the tests of a set refuse none that names only hosts below n, and none that names only h

pub named_below : (n set : ℕ) → ((h : ℕ) → is_in set h ≡ true → h < n) → is_below set n ≡ true
named_below n set f =
    lt-ltb set (2 ^ n) (bits_below n set (λ h e. f h (eq-eqb (bit set h) 1 e)))

pub named_only : (set h : ℕ) → ((i : ℕ) → is_in set i ≡ true → i ≡ h) → is_only set h ≡ true
named_only set h f = go (dec_lt 0 set)
  where
    go : Dec (0 < set) → is_only set h ≡ true
    go (yes p) =
        let one : set ≡ single_of h =
        bits_single h set p (λ i e. f i (eq-eqb (bit set i) 1 e)) in
        rw (ne_eqb set 0 (λ z. omega arith), eq-eqb set (single_of h) one)
    go (no q) = rw (eq-eqb set 0 (omega arith))

-- who is in a set that names no host but one is that one
pub only_one : (set h i : ℕ) → is_only set h ≡ true → is_in set i ≡ true → i ≡ h
only_one set h i o m = go (eqb set 0) (eqb set (single_of h)) refl refl o (ℕ_discrete h i)
  where
    one : bit set i ≡ 1
    one = eqb-true (bit set i) 1 m

    go : (a b : Bool) → eqb set 0 ≡ a → eqb set (single_of h) ≡ b → (a || b) ≡ true → Dec (h ≡ i)
        → i ≡ h
    go a b p q o (yes e) = sym e
    go true b p q o (no e) =
        let z : bit set i ≡ 0 = ap (λ (s : ℕ). bit s i) (eqb-true set 0 p)
        ∙ ap (λ (x : ℕ). x % 2) (zero-div (2 ^ i)) in
        absurd (omega (arith, one))
    go false true p q o (no e) =
        let z : bit set i ≡ 0 = ap (λ (s : ℕ). bit s i) (eqb-true set (single_of h) q)
        ∙ single_other h i e in
        absurd (omega (arith, one))
    go false false p q o (no e) = true_false (sym o)

-- ---- the list of a set's hosts

pub members_step : (set h n : ℕ) → h < n
    → members_from set h (n - h)
    ≡ cond (is_in set h) (h ∷ members_from set (h + 1) (n - (h + 1)))
    (members_from set (h + 1) (n - (h + 1)))
unfolding members_from
members_step set h n k =
    let e : n - h ≡ suc (n - (h + 1)) = omega arith in
    let g : h + 1 ≡ suc h = omega arith in
    rw (e, g)

members_from_lem : (n set h k : ℕ) → h + k ≤ n → All (Member n set) (members_from set h k)
unfolding members_from All
members_from_lem n set h zero e = tt
members_from_lem n set h (suc k) e =
    go (is_in set h) refl (members_from_lem n set (suc h) k (omega arith))
  where
    go : (b : Bool) → is_in set h ≡ b → All (Member n set) (members_from set (suc h) k)
        → All (Member n set) (cond b (h ∷ members_from set (suc h) k) (members_from set (suc h) k))
    go true p rest = (record { below = omega arith; within = p }, rest)
    go false p rest = rest

pub members_all : (n set : ℕ) → All (Member n set) (members n set)
members_all n set = members_from_lem n set 0 n (omega arith)

pub ones_zero : ones 0 ≡ 0
unfolding ones ones_in
ones_zero = refl

-- a set has as many hosts as ones
members_ones : (set h k : ℕ) → set / 2 ^ h < 2 ^ k
    → length (members_from set h k) ≡ ones (set / 2 ^ h)
unfolding members_from
members_ones set h zero e =
    let z : set / 2 ^ h ≡ 0 = omega arith in
    sym (ap ones z ∙ ones_zero)
members_ones set h (suc k) e =
    let x = set / 2 ^ h in
    let half : x / 2 ≡ set / 2 ^ suc h = shr-shr set h 1
    ∙ ap (λ (j : ℕ). set / 2 ^ j) (omega arith) in
    let rest : length (members_from set (suc h) k) ≡ ones (x / 2) =
    members_ones set (suc h) k (rw (← half) (omega arith)) ∙ ap ones (sym half) in
    go (x % 2) refl (mod-lt x (lit< tt)) (length (members_from set (suc h) k)) rest
    (members_from set (suc h) k) refl
  where
    go : (b : ℕ) → set / 2 ^ h % 2 ≡ b → b < 2 → (r : ℕ) → r ≡ ones (set / 2 ^ h / 2) → (l : List ℕ)
        → length l ≡ r → length (cond (eqb (set / 2 ^ h % 2) 1) (h ∷ l) l) ≡ ones (set / 2 ^ h)
    go zero p b r q l i = rw p (i ∙ q ∙ omega (arith, ones_step (set / 2 ^ h)))
    go (suc zero) p b r q l i = rw p (omega (arith, ones_step (set / 2 ^ h)))
    go (suc (suc j)) p b r q l i = absurd (omega arith)

pub members_length : (n set : ℕ) → set < 2 ^ n → length (members n set) ≡ ones set
members_length n set e =
    let d : set / 2 ^ 0 ≡ set = div-one set in
    members_ones set 0 n (rw d e) ∙ ap ones d

-- ---- a walk that halves the set until nothing is left

-- what is left after one host more
pub half_set : (set h : ℕ) → set / 2 ^ h / 2 ≡ set / 2 ^ (h + 1)
half_set set h = shr-shr set h 1

-- while something is left, the walk is below n
pub walk_below : (set h n : ℕ) → set < 2 ^ n → (set / 2 ^ h ≡ 0 → ⊥) → h < n
walk_below set h n b e = go (dec_lt h n)
  where
    go : Dec (h < n) → h < n
    go (yes p) = p
    go (no q) =
        let m : 2 ^ n ≤ 2 ^ h = pow_mono {i = n} {j = h} (omega arith) in
        absurd (e (div-eq_of_lt {n = set} {m = 2 ^ h} (omega arith)))

-- a host of a set that names none of n or more is below n
pub below_named : (n set h : ℕ) → is_below set n ≡ true → is_in set h ≡ true → h < n
below_named n set h b i =
    walk_below set h n (ltb-true set (2 ^ n) b)
    (λ e. let one = eqb-true (bit set h) 1 i in omega (arith, one, e))

-- once nothing is left, no host is
pub members_none : (set h k : ℕ) → set / 2 ^ h ≡ 0 → members_from set h k ≡ []
unfolding members_from
members_none set h zero e = refl
members_none set h (suc k) e =
    let s : h + 1 ≡ suc h = omega arith in
    let z : set / 2 ^ suc h ≡ 0 = rw s at (sym (half_set set h) ∙ ap (λ (x : ℕ). x / 2) e) in
    rw (e, members_none set (suc h) k z)

-- hosts beyond a set's reach add nothing
members_more : (set h n k : ℕ) → set / 2 ^ (h + n) ≡ 0
    → members_from set h (n + k) ≡ members_from set h n
unfolding members_from
members_more set h zero k e =
    let a : h + 0 ≡ h = omega arith in
    let b : 0 + k ≡ k = omega arith in
    rw b (members_none set h k (rw a at e))
members_more set h (suc n) k e =
    let a : h + suc n ≡ suc h + n = omega arith in
    let b : suc n + k ≡ suc (n + k) = omega arith in
    rw (b, members_more set (suc h) n k (rw a at e))

pub members_below : (set n m : ℕ) → set < 2 ^ n → n ≤ m → members m set ≡ members n set
members_below set n m b l =
    let e : n + (m - n) ≡ m = omega arith in
    let z : 0 + n ≡ n = omega arith in
    rw e at (members_more set 0 n (m - n) (rw z (div-eq_of_lt b)))

-- the set of one host has that host and no other
members_lone : (t h k : ℕ) → h ≤ t → t < h + k → members_from (single_of t) h k ≡ t ∷ []
unfolding members_from
members_lone t h zero a b = absurd (omega arith)
members_lone t h (suc k) a b =
    go (ℕ_discrete t h) (λ d. members_lone t (suc h) k (omega arith) (omega arith))
  where
    go : Dec (t ≡ h) → ((t ≡ h → ⊥) → members_from (single_of t) (suc h) k ≡ t ∷ [])
        → cond (is_in (single_of t) h) (h ∷ members_from (single_of t) (suc h) k)
        (members_from (single_of t) (suc h) k) ≡ t ∷ []
    go (yes e) f =
        let one : bit (single_of t) h ≡ 1 = rw e (single_same h) in
        let none =
        members_none (single_of t) (suc h) k
        (div-eq_of_lt (pow-lt {i = t} {j = suc h} (omega arith))) in
        rw (one, none, e)
    go (no d) f = rw (single_other t h d) (f d)

pub members_single : (n t : ℕ) → t < n → members n (single_of t) ≡ t ∷ []
members_single n t b = members_lone t 0 n (omega arith) (omega arith)
