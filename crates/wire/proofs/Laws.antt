-- Laws of numbers as bytes, over the width and the offset. Assumes nothing.
use mathlib.Core.Path.{◌≡◌, refl, ap, ◌∙◌}
use mathlib.Core.List.{List, [], ◌∷◌, ◌++◌, reverse, append-nil, append_assoc}
use Prim.Native.Nat.{ℕ, zero, suc, ◌+◌, ◌-◌, ◌*◌, ◌/◌, ◌%◌, ◌^◌, ◌≤◌, ◌<◌}
use native.Mathlib.Nat.{lt_of_lt_of_le}
use native.Mathlib.Omega.{arith}
use lib.ListN.{length, get_or, take, drop, length-append, get_or-append}
use lib.Seq.{get_or-append-add, sets, drop-cons, drop-drop, take-add}
use lib.Pow.{pow-add, pow_mono}
use lib.Bits.{bit_or}
use lib.Dec.{lit<}
use Rattle.base.proofs.Stores.{sets_append}
use Rattle.std.specs.List.{fold}
use Rattle.std.proofs.lemmas.List.{reverse-append}
use Rattle.std.proofs.lemmas.List.Sums.{fold-append}
use Rattle.std.proofs.lemmas.Nat.{or_shifted}
use Rattle.wire.specs.Wire.{le, number_at, total, numbers_at, packed}

-- 2 ^ (8 * w), one byte more
pow_byte : (w : ℕ) → 2 ^ (8 * suc w) ≡ 256 * 2 ^ (8 * w)
pow_byte w =
    let e : 8 * suc w ≡ 8 + 8 * w = omega arith in
    ap (λ (k : ℕ). 2 ^ k) e ∙ pow-add 2 8 (8 * w)

pub le_length : (w v : ℕ) → length (le w v) ≡ w
unfolding le
le_length zero v = refl
le_length (suc w) v = ap suc (le_length w (v / 256))

-- ---- reading

-- the number in w bytes is below 2 ^ (8 * w)
pub number_below : (s : List ℕ) (at w : ℕ) → ((i : ℕ) → get_or s i 0 < 256)
    → number_at s at w < 2 ^ (8 * w)
unfolding number_at
number_below s at zero h = lit< tt
number_below s at (suc w) h = rw (pow_byte w) (omega (arith, h at, number_below s (suc at) w h))

-- and fits 64 bits where w is at most 8
pub number_fits : (s : List ℕ) (at w : ℕ) → ((i : ℕ) → get_or s i 0 < 256) → w ≤ 8
    → number_at s at w < 2 ^ 64
number_fits s at w h k =
    lt_of_lt_of_le (number_below s at w h) (pow_mono {i = 8 * w} {j = 64} (omega arith))

-- the byte in front of a number makes it one byte longer
pub number_front : (s : List ℕ) (at w i : ℕ) → 0 < i → i ≤ w
    → get_or s (at + (i - 1)) 0 + 256 * number_at s (at + i) (w - i)
    ≡ number_at s (at + (i - 1)) (w - (i - 1))
unfolding number_at
number_front s at w i p q =
    let e : w - (i - 1) ≡ suc (w - i) = omega arith in
    let f : at + i ≡ suc (at + (i - 1)) = omega arith in
    rw (e, f)

-- a number of one byte is that byte
pub number_one : (s : List ℕ) (at : ℕ) → number_at s at 1 ≡ get_or s at 0
unfolding number_at
number_one s at = omega arith

-- a number past a list's first part stands in the second
pub number_past : (p q : List ℕ) (at w : ℕ)
    → number_at (p ++ q) (length p + at) w ≡ number_at q at w
unfolding number_at
number_past p q at zero = refl
number_past p q at (suc w) =
    let e : suc (length p + at) ≡ length p + suc at = omega arith in
    rw (get_or-append-add p q at 0, e, number_past p q (suc at) w)

-- a number within a list's first part does not depend on the rest
pub number_within : (p q : List ℕ) (at w : ℕ) → at + w ≤ length p
    → number_at (p ++ q) at w ≡ number_at p at w
unfolding number_at
number_within p q at zero h = refl
number_within p q at (suc w) h =
    let k : at < length p = omega arith in
    rw (get_or-append p q 0 at k, number_within p q (suc at) w (omega arith))

-- bytes taken from the last to the first, each below those before, make their number
abbrev pub taken : ℕ → ℕ → ℕ
taken v byte = bit_or (v * 2 ^ 8 % 2 ^ 64) byte

pub number_taken : (s : List ℕ) (at w : ℕ) → ((i : ℕ) → get_or s i 0 < 256) → at + w ≤ length s
    → w ≤ 8 → fold taken 0 (reverse (take w (drop at s))) ≡ number_at s at w
unfolding number_at
number_taken s at zero h k l = refl
number_taken s at (suc w) h k l =
    let b = get_or s at 0 in
    let v = number_at s (suc at) w in
    let rest = take w (drop (suc at) s) in
    let within : at < length s = omega arith in
    let top : 2 ^ (8 * w) ≤ 2 ^ 56 = pow_mono {i = 8 * w} {j = 56} (omega arith) in
    let fits : v * 2 ^ 8 % 2 ^ 64 ≡ v * 2 ^ 8 = omega (arith, number_below s (suc at) w h) in
    rw (
      drop-cons s at 0 within,
      reverse-append (b ∷ []) rest,
      fold-append taken 0 (reverse rest) (b ∷ []),
      number_taken s (suc at) w h (omega arith) (omega arith),
      fits,
      or_shifted v 8 b (h at),
    )
    (omega arith)

-- ---- there and back

-- what was written is read
pub number_le : (w v : ℕ) (t : List ℕ) → v < 2 ^ (8 * w) → number_at (le w v ++ t) 0 w ≡ v
unfolding number_at le
number_le zero v t h = omega (arith, h)
number_le (suc w) v t h =
    let k : v < 256 * 2 ^ (8 * w) = rw pow_byte at h in
    rw (number_past (v % 256 ∷ []) (le w (v / 256) ++ t) 0 w, number_le w (v / 256) t (omega arith))
    (omega arith)

-- what was read is written: the bytes of the number at a place are the bytes there
pub le_number : (s : List ℕ) (at w : ℕ) → ((i : ℕ) → get_or s i 0 < 256) → at + w ≤ length s
    → le w (number_at s at w) ≡ take w (drop at s)
unfolding le number_at
le_number s at zero h k = refl
le_number s at (suc w) h k =
    let b = get_or s at 0 in
    let v = number_at s (suc at) w in
    let l : at < length s = omega arith in
    let e : (b + 256 * v) % 256 ≡ b = omega (arith, h at) in
    let f : (b + 256 * v) / 256 ≡ v = omega (arith, h at) in
    rw (e, f, drop-cons s at 0 l, le_number s (suc at) w h (omega arith))

-- a number's bytes and a run of stores after them are one run
pub sets_le : (l : List ℕ) (at w v : ℕ) (b : List ℕ)
    → sets (sets l at (le w v)) (at + w) b ≡ sets l at (le w v ++ b)
sets_le l at w v b = rw le_length at (sets_append l at (le w v) b)

-- ---- several numbers end to end

pub packed_length : (ws vs : List ℕ) → length ws ≡ length vs → length (packed ws vs) ≡ total ws
unfolding packed total
packed_length [] vs e = refl
packed_length (w ∷ ws) [] e = absurd (omega arith)
packed_length (w ∷ ws) (v ∷ vs) e =
    let f : length ws ≡ length vs = omega arith in
    rw (length-append, le_length, packed_length ws vs f)

-- each number fits its width
abbrev pub Fits : List ℕ → List ℕ → Type 0
Fits [] [] = Unit
Fits [] (v ∷ vs) = ⊥
Fits (w ∷ ws) [] = ⊥
Fits (w ∷ ws) (v ∷ vs) = (v < 2 ^ (8 * w)) × Fits ws vs

numbers_past : (p s ws : List ℕ) (at : ℕ)
    → numbers_at (p ++ s) (length p + at) ws ≡ numbers_at s at ws
unfolding numbers_at
numbers_past p s [] at = refl
numbers_past p s (w ∷ ws) at =
    let e : length p + at + w ≡ length p + (at + w) = omega arith in
    rw (number_past p s at w, e, numbers_past p s ws (at + w))

-- what was packed is read
pub numbers_packed : (ws vs t : List ℕ) → Fits ws vs → numbers_at (packed ws vs ++ t) 0 ws ≡ vs
unfolding numbers_at packed
numbers_packed [] [] t f = refl
numbers_packed [] (v ∷ vs) t f = absurd f
numbers_packed (w ∷ ws) [] t f = absurd f
numbers_packed (w ∷ ws) (v ∷ vs) t f =
    let r = packed ws vs ++ t in
    let e : 0 + w ≡ length (le w v) + 0 = omega (arith, le_length w v) in
    ap (λ (s : List ℕ). numbers_at s 0 (w ∷ ws)) (append_assoc (le w v) (packed ws vs) t) ∙ rw (
      number_le w v r f.0,
      e,
      numbers_past (le w v) r ws 0,
      numbers_packed ws vs t f.1,
    )

-- what was read is packed: the bytes that were there
pub packed_numbers : (s : List ℕ) (at : ℕ) (ws : List ℕ) → ((i : ℕ) → get_or s i 0 < 256)
    → at + total ws ≤ length s → packed ws (numbers_at s at ws) ≡ take (total ws) (drop at s)
unfolding numbers_at packed total
packed_numbers s at [] h k = refl
packed_numbers s at (w ∷ ws) h k =
    let j : at + w + total ws ≤ length s = omega arith in
    rw (
      packed_numbers s (at + w) ws h j,
      le_number s at w h (omega arith),
      take-add w (total ws) (drop at s),
      drop-drop w at s,
    )

-- numbers within a list's first part do not depend on the rest
pub numbers_within : (p q : List ℕ) (at : ℕ) (ws : List ℕ) → at + total ws ≤ length p
    → numbers_at (p ++ q) at ws ≡ numbers_at p at ws
unfolding numbers_at total
numbers_within p q at [] h = refl
numbers_within p q at (w ∷ ws) h =
    let k : at + w + total ws ≤ length p = omega arith in
    rw (number_within p q at w (omega arith), numbers_within p q (at + w) ws k)

-- two numbers stored one after the other are the two packed
pub sets_two : (l : List ℕ) (at w v u x : ℕ)
    → sets (sets l at (le w v)) (at + w) (le u x) ≡ sets l at (packed (w ∷ u ∷ []) (v ∷ x ∷ []))
unfolding packed
sets_two l at w v u x = rw (append-nil (le u x)) (sets_le l at w v (le u x))
