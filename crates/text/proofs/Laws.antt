-- Laws of digits, and of text that is put at an offset, one part after the other. Assumes nothing.
use mathlib.Core.Path.{◌≡◌, refl, sym, ap, ◌∙◌}
use mathlib.Core.Bool.{Bool, true, false, cond}
use mathlib.Core.List.{List, [], ◌∷◌, ◌++◌, append_assoc}
use Prim.Native.Nat.{ℕ, zero, suc, ◌+◌, ◌*◌, ◌/◌, ◌%◌, ◌^◌, ◌≤◌, ◌<◌}
use native.Mathlib.Omega.{arith}
use lib.Dec.{ltb, lit≤}
use lib.ListN.{length, length-append, take, drop, set, take-append-drop}
use lib.Pow.{pow-add}
use lib.Seq.{sets, sets-eq, length-sets}
use borrow.Rule.Slice.PartMut.{put_mid}
use borrow.Author.Tests.{lt-ltb, le-ltb, ltb-false}
use Rattle.std.specs.Fmt as Fmt
use Rattle.std.proofs.lemmas.Fmt.{decimal_by_steps, length-decimal-le}
use Rattle.std.proofs.lemmas.List.Edits.{paste_all}
use Rattle.std.proofs.lemmas.Slice.{put_mid-paste}
use Rattle.base.proofs.Stores.{sets_append, sets_front}
use Rattle.text.specs.Text.{digits_of, decimal}
use Rattle.text.specs.declared.Page.{Page}
use Rattle.text.specs.Parts.{Put, Wrote}

-- ---- digits

-- the digits of n, of which the test tells whether it has but one, where these come before the last
abbrev behind : List ℕ → ℕ → Bool → List ℕ
behind tens n one = cond one ((48 + n) ∷ []) (tens ++ ((48 + n % 10) ∷ []))

-- any bound above n gives the same digits
digits_same : (k m n : ℕ) → n < k → n < m → digits_of k n ≡ digits_of m n
unfolding digits_of
digits_same zero m n h l = absurd (omega arith)
digits_same (suc k) zero n h l = absurd (omega arith)
digits_same (suc k) (suc m) n h l =
    go (ltb n 10) refl (λ b.
    let some = ltb-false n 10 b in
    digits_same k m (n / 10) (omega arith) (omega arith))
  where
    go : (b : Bool) → ltb n 10 ≡ b
        → (ltb n 10 ≡ false → digits_of k (n / 10) ≡ digits_of m (n / 10))
        → behind (digits_of k (n / 10)) n b ≡ behind (digits_of m (n / 10)) n b
    go true e f = refl
    go false e f = rw (f e)

-- one digit
pub decimal_one : (n : ℕ) → n < 10 → decimal n ≡ (48 + n) ∷ []
unfolding decimal digits_of
decimal_one n h = rw (lt-ltb n 10 h)

-- the last digit, and those before it
pub decimal_more : (n : ℕ) → 10 ≤ n → decimal n ≡ decimal (n / 10) ++ ((48 + n % 10) ∷ [])
unfolding decimal digits_of
decimal_more n h =
    rw (le-ltb n 10 h, digits_same n (suc (n / 10)) (n / 10) (omega arith) (omega arith))

-- two digits, three, and the last three behind the others
pub decimal_two : (n : ℕ) → 10 ≤ n → n < 100
    → decimal n ≡ (48 + n / 10 % 10) ∷ (48 + n % 10) ∷ []
decimal_two n h l =
    let e : 48 + n / 10 ≡ 48 + n / 10 % 10 = omega arith in
    decimal_more n h
    ∙ ap (λ (ds : List ℕ). ds ++ ((48 + n % 10) ∷ [])) (decimal_one (n / 10) (omega arith))
    ∙ ap (λ (x : ℕ). x ∷ (48 + n % 10) ∷ []) e

pub decimal_three : (n : ℕ) → 100 ≤ n → n < 1000
    → decimal n ≡ (48 + n / 100 % 10) ∷ (48 + n / 10 % 10) ∷ (48 + n % 10) ∷ []
decimal_three n h l =
    let e : n / 10 / 10 % 10 ≡ n / 100 % 10 = omega arith in
    decimal_more n (omega arith)
    ∙ ap (λ (ds : List ℕ). ds ++ ((48 + n % 10) ∷ []))
    (decimal_two (n / 10) (omega arith) (omega arith))
    ∙ ap (λ (x : ℕ). (48 + x) ∷ (48 + n / 10 % 10) ∷ (48 + n % 10) ∷ []) e

pub decimal_thousand : (n : ℕ) → 1000 ≤ n
    → decimal n
    ≡ decimal (n / 1000) ++ ((48 + n / 100 % 10) ∷ (48 + n / 10 % 10) ∷ (48 + n % 10) ∷ [])
decimal_thousand n h =
    let hundreds : n / 10 / 10 ≡ n / 100 = omega arith in
    let thousands : n / 100 / 10 ≡ n / 1000 = omega arith in
    let ds = decimal (n / 1000) in
    decimal_more n (omega arith)
    ∙ ap (λ (xs : List ℕ). xs ++ ((48 + n % 10) ∷ [])) (decimal_more (n / 10) (omega arith))
    ∙ ap (λ (k : ℕ). (decimal k ++ ((48 + n / 10 % 10) ∷ [])) ++ ((48 + n % 10) ∷ [])) hundreds
    ∙ ap (λ (xs : List ℕ). (xs ++ ((48 + n / 10 % 10) ∷ [])) ++ ((48 + n % 10) ∷ []))
    (decimal_more (n / 100) (omega arith))
    ∙ ap (λ (k : ℕ).
    ((decimal k ++ ((48 + n / 100 % 10) ∷ [])) ++ ((48 + n / 10 % 10) ∷ []))
    ++ ((48 + n % 10) ∷ [])) thousands
    ∙ append_assoc (ds ++ ((48 + n / 100 % 10) ∷ [])) ((48 + n / 10 % 10) ∷ [])
    ((48 + n % 10) ∷ [])
    ∙ append_assoc ds ((48 + n / 100 % 10) ∷ []) ((48 + n / 10 % 10) ∷ (48 + n % 10) ∷ [])

-- what the library writes for a number of 64 bits
pub decimal_std : (n : ℕ) → n < 2 ^ 64 → decimal n ≡ Fmt.decimal n
decimal_std =
    decimal_by_steps (λ n ds. decimal n ≡ ds) decimal_one
    (λ n ds h e. decimal_more n h ∙ ap (λ (l : List ℕ). l ++ ((48 + n % 10) ∷ [])) e)

pow_ten : (j : ℕ) → 10 ^ suc j ≡ 10 * 10 ^ j
pow_ten j =
    let e : suc j ≡ 1 + j = omega arith in
    ap (λ (k : ℕ). 10 ^ k) e ∙ pow-add 10 1 j

digits_most : (j k n : ℕ) → n < 10 ^ suc j → length (digits_of k n) ≤ suc j
unfolding digits_of
digits_most j zero n h = omega arith
digits_most zero (suc k) n h = rw (lt-ltb n 10 (omega arith)) (lit≤ tt)
digits_most (suc j) (suc k) n h =
    let p : n < 10 * 10 ^ suc j = rw (pow_ten (suc j)) at h in
    go (ltb n 10) (digits_most j k (n / 10) (omega arith))
  where
    go : (b : Bool) → length (digits_of k (n / 10)) ≤ suc j
        → length (behind (digits_of k (n / 10)) n b) ≤ suc (suc j)
    go true f = omega arith
    go false f = simp length-append (omega arith)

-- a number below 10 ^ (j + 1) has at most j + 1 digits
pub decimal_most : (j n : ℕ) → n < 10 ^ suc j → length (decimal n) ≤ suc j
unfolding decimal
decimal_most j n h = digits_most j (suc n) n h

pub length_one : (n : ℕ) → n < 10 → length (decimal n) ≡ 1
length_one n h = ap length (decimal_one n h)

pub length_more : (n : ℕ) → 10 ≤ n → length (decimal n) ≡ length (decimal (n / 10)) + 1
length_more n h =
    ap length (decimal_more n h) ∙ length-append (decimal (n / 10)) ((48 + n % 10) ∷ [])

ten_some : (j : ℕ) → 0 < 10 ^ j
ten_some zero = lit≤ tt
ten_some (suc j) = rw (pow_ten j) (omega (arith, ten_some j))

-- these digits are one more than its highest power of ten
abbrev Counted : ℕ → List ℕ → Type 0
Counted n ds = (k : ℕ) → 10 ^ k ≤ n → n < 10 * 10 ^ k → k + 1 ≡ length ds

counted_one : (n : ℕ) → n < 10 → Counted n ((48 + n) ∷ [])
counted_one n h zero l m = refl
counted_one n h (suc k) l m =
    absurd (omega (arith, ten_some k, rw (pow_ten k) at l))

counted_more : (n : ℕ) (ds : List ℕ) → 10 ≤ n → Counted (n / 10) ds
    → Counted n (ds ++ ((48 + n % 10) ∷ []))
counted_more n ds h f zero l m = absurd (omega arith)
counted_more n ds h f (suc k) l m =
    let least : 10 * 10 ^ k ≤ n = rw (pow_ten k) at l in
    let most : n < 10 * (10 * 10 ^ k) = rw (pow_ten k) at m in
    simp length-append (omega (arith, f k (omega arith) (omega arith)))

pub decimal_count : (k n : ℕ) → 10 ^ k ≤ n → n < 10 * 10 ^ k → n < 2 ^ 64
    → k + 1 ≡ length (decimal n)
decimal_count k n l m f =
    rw (decimal_std n f) (decimal_by_steps Counted counted_one counted_more n f k l m)

-- a number below that power has room before where so many digits end
pub digits_fit : (at k n : ℕ) → n < 10 * 10 ^ k → n < 2 ^ 64
    → length (Fmt.decimal n) ≤ at + k + 1
digits_fit at k n h f =
    omega (arith, length-decimal-le (suc k) n (omega arith) (rw (pow_ten k) h) f)

-- ---- text put at an offset

-- one byte
pub put_one : (o : List ℕ) (at b : ℕ) → at + 1 ≤ length o → Put o at (b ∷ []) (at + 1) (set o at b)
put_one o at b h = record { past = refl; stored = refl; within = h }

-- bytes in the place of as many from an offset on
pub put_over : (o o₁ bytes : List ℕ) (at : ℕ) → at + length bytes ≤ length o
    → o₁ ≡ take at o ++ (bytes ++ drop (at + length bytes) o)
    → Put o at bytes (at + length bytes) o₁
put_over o o₁ bytes at h e = record {
  past = refl;
  stored = e ∙ (sym (append_assoc (take at o) bytes _) ∙ sym (sets-eq bytes o at h));
  within = h;
}

-- what a copy to a part of their length leaves
pub put_part : (o : List ℕ) (at k : ℕ) (bytes part : List ℕ) → k ≡ length bytes
    → at + length bytes ≤ length o → part ≡ bytes
    → Put o at bytes (at + length bytes) (put_mid at k o part)
put_part o at k bytes part e h q =
    put_over o _ bytes at h
    (put_mid-paste at k o part bytes (length bytes) q (sym e) refl
    ∙ paste_all o at bytes (length bytes) refl)

-- what the library's digits leave, where the room for them ends, and it was handed n
pub put_digits : (o o₁ : List ℕ) (at n m end start : ℕ) → n < 2 ^ 64 → m ≡ n
    → at + length (decimal n) ≤ length o → end ≡ at + length (decimal n)
    → start + length (Fmt.decimal m) ≡ end → drop start o₁ ≡ Fmt.decimal m ++ drop end o
    → take start o₁ ≡ take start o → Put o at (decimal n) end o₁
put_digits o o₁ at n m end start f q h e g d t =
    let same = decimal_std n f in
    let there : start ≡ at = omega (arith, ap length same, rw q at g) in
    let back : drop at o₁ ≡ decimal n ++ drop (at + length (decimal n)) o =
    rw (q, there, e, ← same) at d in
    rw e
    (put_over o o₁ (decimal n) at h
    (sym (take-append-drop at o₁)
    ∙ (ap (λ (l : List ℕ). take at o₁ ++ l) back
    ∙ ap (λ (l : List ℕ). l ++ (decimal n ++ drop (at + length (decimal n)) o))
    (rw there at t))))

-- it leaves the length as it was
pub put_length : {o o₁ a : List ℕ} {at r : ℕ} → Put o at a r o₁ → length o₁ ≡ length o
put_length {o} {o₁} {a} {at} p = ap length p.stored ∙ length-sets o at a

-- text put where other text ended is put after it
pub put_then : {o o₁ o₂ a b : List ℕ} {at r₁ r₂ : ℕ} → Put o at a r₁ o₁ → Put o₁ r₁ b r₂ o₂
    → Put o at (a ++ b) r₂ o₂
put_then {o} {o₁} {o₂} {a} {b} {at} p q = record {
  past = omega (arith, length-append a b, p.past, q.past);
  stored = q.stored ∙ (rw (p.stored, p.past) (sets_append o at a b));
  within = omega (arith, length-append a b, p.past, q.within, put_length p);
}

-- the digits but the last leave room for it
pub last_room : {o o₁ : List ℕ} {at r : ℕ} (n : ℕ) → 10 ≤ n → Put o at (decimal (n / 10)) r o₁
    → at + length (decimal n) ≤ length o → r + 1 ≤ length o₁
last_room n h p w = omega (arith, length_more n h, p.past, put_length p)

-- the last digit, put behind the others
pub put_last_digit : {o o₁ : List ℕ} {at r : ℕ} (n : ℕ) → 10 ≤ n → Put o at (decimal (n / 10)) r o₁
    → at + length (decimal n) ≤ length o → Put o at (decimal n) (r + 1) (set o₁ r (48 + n % 10))
put_last_digit {o} {o₁} {at} {r} n h p w =
    rw (decimal_more n h) (put_then p (put_one o₁ r (48 + n % 10) (last_room n h p w)))

-- on a page
pub wrote : {p q : Page} {a : List ℕ} → Put p.out.now p.at a q.at q.out.now
    → q.out.ghost_name ≡ p.out.ghost_name → Wrote p a q
wrote x e = record { put = x; many = put_length x; same = e }

pub wrote_none : {p : Page} → p.at ≤ length p.out.now → Wrote p [] p
wrote_none h = wrote (record { past = omega arith; stored = refl; within = omega arith }) refl

-- and there one after the other
pub wrote_then : {p q r : Page} {a b : List ℕ} → Wrote p a q → Wrote q b r → Wrote p (a ++ b) r
wrote_then x y =
    record { put = put_then x.put y.put; many = y.many ∙ x.many; same = y.same ∙ x.same }

-- text put at the start, and what follows it
pub put_front : {o o₁ a : List ℕ} {r : ℕ} → Put o 0 a r o₁ → o₁ ≡ a ++ drop (length a) o
put_front {o} {o₁} {a} p = p.stored ∙ sets_front a o (omega (arith, p.within))

pub put_size : {o o₁ a : List ℕ} {r : ℕ} → Put o 0 a r o₁ → r ≡ length a
put_size p = omega (arith, p.past)

-- ---- text put in turns

-- what is still to be put at an offset, put now, gives what the whole gives
pub record Todo (out : List ℕ) (end : ℕ) (rest out₀ : List ℕ) (at : ℕ) (whole : List ℕ) : Type 0
  where
    pub past : end + length rest ≡ at + length whole
    pub stored : sets out end rest ≡ sets out₀ at whole

pub todo_begin : (out : List ℕ) (at : ℕ) (whole : List ℕ) → Todo out at whole out at whole
todo_begin out at whole = record { past = refl; stored = refl }

-- a part of it is put
pub todo_step : {out out₁ a b rest out₀ whole : List ℕ} {end r at : ℕ}
    → Todo out end rest out₀ at whole → rest ≡ a ++ b → Put out end a r out₁
    → Todo out₁ r b out₀ at whole
todo_step {out} {out₁} {a} {b} {rest} {out₀} {whole} {end} {r} {at} t e p = record {
  past = omega (arith, t.past, p.past, ap length e, length-append a b);
  stored =
      rw (p.stored, p.past)
      (sets_append out end a b ∙ (ap (sets out end) (sym e) ∙ t.stored));
}

-- nothing is left
pub todo_end : {out rest out₀ whole : List ℕ} {end at : ℕ} → Todo out end rest out₀ at whole
    → rest ≡ [] → end ≤ length out → Put out₀ at whole end out
todo_end {out} {rest} {out₀} {whole} {end} {at} t e h =
    let none = ap length e in
    let same = ap length t.stored in
    record {
      past = omega (arith, t.past, none);
      stored = sym (ap (sets out end) e) ∙ t.stored;
      within =
          omega (
            arith,
            none,
            same,
            t.past,
            length-sets out end rest,
            length-sets out₀ at whole,
          );
    }
