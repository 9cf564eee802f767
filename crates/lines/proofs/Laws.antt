-- How long the parts of a listing's lines are at most, the walk over names, and lines after lines.
-- Assumes nothing.
use Rattle.std.specs.Prelude.{Option, Some, None}
use mathlib.Core.Path.{◌≡◌, refl, sym, ap, ◌∙◌}
use mathlib.Core.List.{List, [], ◌∷◌, ◌++◌, append_assoc}
use Prim.Native.Nat.{ℕ, zero, suc, ◌+◌, ◌-◌, ◌*◌, ◌^◌, ◌≤◌, ◌<◌}
use native.Mathlib.Omega.{arith}
use native.Mathlib.Nat.{lt_of_lt_of_le}
use native.Mathlib.Numerals.{add-one}
use lib.Dec.{lit≤}
use borrow.Author.Tests.{lt-ltb}
use lib.ListN.{length, length-append, get_or}
use Rattle.text.specs.Text.{decimal}
use Rattle.text.proofs.Laws.{decimal_one, decimal_most}
use Rattle.message.specs.Leases.{Holder}
use Rattle.host.specs.declared.Host.{Host}
use Rattle.places.specs.Places.{blank_host}
use Rattle.lines.specs.Lines.{Line, last_of, name_text, names_from, names_text, line_text, text_of}
use Rattle.lines.specs.Parts.{digit_of, name_byte, bytes_text}

-- ---- how long numbers are

-- bytes, an event's kind, its place, and longer numbers
pub most_8 : (n : ℕ) → n < 2 ^ 8 → length (decimal n) ≤ 3
most_8 n h = decimal_most 2 n (lt_of_lt_of_le h (lit≤ tt))

pub most_kind : (n : ℕ) → n < 1000 → length (decimal n) ≤ 3
most_kind n h = decimal_most 2 n (lt_of_lt_of_le h (lit≤ tt))

pub most_place : (n : ℕ) → n < 100000 → length (decimal n) ≤ 5
most_place n h = decimal_most 4 n (lt_of_lt_of_le h (lit≤ tt))

pub most_32 : (n : ℕ) → n < 2 ^ 32 → length (decimal n) ≤ 10
most_32 n h = decimal_most 9 n (lt_of_lt_of_le h (lit≤ tt))

pub most_64 : (n : ℕ) → n < 2 ^ 64 → length (decimal n) ≤ 20
most_64 n h = decimal_most 19 n (lt_of_lt_of_le h (lit≤ tt))

-- between a space and the line's end
pub last_length : (n : ℕ) → length (last_of n) ≡ length (decimal n) + 2
unfolding last_of
last_length n = omega (arith, length-append (decimal n) (10 ∷ []))

pub last_64 : (n : ℕ) → n < 2 ^ 64 → length (last_of n) ≤ 22
last_64 n h = omega (arith, last_length n, most_64 n h)

-- ---- names

-- whom host i names, and whom those after it name
pub names_step : (hs : List Host) (n i : ℕ) → i < n
    → names_text (names_from hs (n - i) i)
    ≡ (32 ∷ name_text (get_or hs i blank_host).state.named)
    ++ names_text (names_from hs (n - (i + 1)) (i + 1))
unfolding names_from names_text
names_step hs n i h =
    let e : n - i ≡ suc (n - (i + 1)) = omega arith in
    rw (e, add-one i)

pub names_end : (hs : List Host) (n i : ℕ) → n ≤ i → names_text (names_from hs (n - i) i) ≡ []
unfolding names_from names_text
names_end hs n i h =
    let e : n - i ≡ 0 = omega arith in
    rw e

-- ---- lines

pub text_then : (ls ms : List Line) → text_of (ls ++ ms) ≡ text_of ls ++ text_of ms
unfolding text_of
text_then [] ms = refl
text_then (l ∷ ls) ms =
    ap (λ (bytes : List ℕ). line_text l ++ bytes) (text_then ls ms)
    ∙ sym (append_assoc (line_text l) (text_of ls) (text_of ms))

-- ---- names as bytes that are lent

-- whom host i names, and whom those after it name
pub bytes_step : (names : List ℕ) (n i : ℕ) → i < n
    → bytes_text names (n - i) i
    ≡ (32 ∷ get_or names i 0 ∷ []) ++ bytes_text names (n - (i + 1)) (i + 1)
unfolding bytes_text
bytes_step names n i h =
    let e : n - i ≡ suc (n - (i + 1)) = omega arith in
    rw (e, add-one i)

pub bytes_end : (names : List ℕ) (n i : ℕ) → n ≤ i → bytes_text names (n - i) i ≡ []
unfolding bytes_text
bytes_end names n i h =
    let e : n - i ≡ 0 = omega arith in
    rw e

-- one name more
pub bytes_next : (names : List ℕ) (k i j : ℕ) → j ≡ i + k
    → bytes_text names (k + 1) i ≡ bytes_text names k i ++ (32 ∷ get_or names j 0 ∷ [])
unfolding bytes_text
bytes_next names zero i j e = let same : j ≡ i = omega arith in rw same refl
bytes_next names (suc k) i j e =
    let f : suc k + 1 ≡ suc (k + 1) = omega arith in
    rw f
    (ap (λ (bytes : List ℕ). 32 ∷ get_or names i 0 ∷ bytes)
    (bytes_next names k (suc i) j (omega arith)))

pub bytes_length : (names : List ℕ) (k i : ℕ) → length (bytes_text names k i) ≡ 2 * k
unfolding bytes_text
bytes_length names zero i = refl
bytes_length names (suc k) i = omega (arith, bytes_length names k (suc i))

-- what the parts of a line take
pub ruleset parts =
    (most_8, most_kind, most_place, most_32, most_64, last_length, last_64, bytes_length)

-- the number of a host below 10 is its digit
pub name_text_lem : (m : Option Holder) → ((k : Holder) → m ≡ Some k → k.owner < 10)
    → name_text m ≡ name_byte m ∷ []
unfolding name_text digit_of
name_text_lem None b = refl
name_text_lem (Some k) b = rw (lt-ltb k.owner 10 (b k refl)) (decimal_one k.owner (b k refl))

pub names_text_lem : (names : List ℕ) (hosts : List Host) (k i : ℕ)
    → ((h : ℕ) → i ≤ h → h < i + k
    → name_text (get_or hosts h blank_host).state.named ≡ get_or names h 0 ∷ [])
    → bytes_text names k i ≡ names_text (names_from hosts k i)
unfolding bytes_text names_text names_from
names_text_lem names hosts zero i f = refl
names_text_lem names hosts (suc k) i f =
    rw (
      f i (omega arith) (omega arith),
      names_text_lem names hosts k (suc i) (λ h a b. f h (omega (arith, a)) (omega (arith, b))),
    )
