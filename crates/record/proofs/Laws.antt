-- Laws of the records: their lengths, what one that is not refused tells, that it is read alike in
-- a longer file and in a shorter one, what is tested of one, in its order, and of a T that opening
-- refuses. Assumes nothing.
use mathlib.Core.Path.{◌≡◌, refl, sym, ap, ◌∙◌}
use mathlib.Core.Bool.{Bool, true, false, cond, ◌&&◌, ◌||◌}
use mathlib.Core.List.{List, [], ◌∷◌, ◌++◌}
use Prim.Native.Nat.{ℕ, ◌+◌, ◌^◌, ◌≤◌, ◌<◌}
use native.Mathlib.Nat.{min-le_left, le-min}
use native.Mathlib.Omega.{arith}
use lib.ListN.{length, get_or, take, drop, length-append, length-take, take-append-drop}
use lib.Dec.{lit<, lit≤, ltb, leb, eqb}
use borrow.Author.Tests.{ltb-true, ltb-false, leb-true, eqb-true, lt-ltb, le-ltb, le-leb}
use borrow.Author.Tests.{lt-leb, ne_eqb}
use borrow.Author.Rules.{rules}
use Rattle.base.specs.declared.Refusal.{Refusal}
use Rattle.base.specs.Answers.{refusal_number}
use Rattle.base.specs.Refusals.{done, refused_cut, refused_kind, refused_length, refused_short}
use Rattle.base.specs.Refusals.{first_of, answer_by, tests_in, fails_at}
use Rattle.base.specs.Lists.{all_of}
use Rattle.base.proofs.Tests.{true_false, by_test, unless_passed}
use Rattle.wire.specs.Wire.{number_at, total, numbers_at}
use Rattle.wire.proofs.Laws.{number_within, numbers_within}
use Rattle.quorum.specs.Sets.{cell_fits}
use Rattle.message.specs.Message.{last_tick}
use Rattle.layout.specs.Layout.{offset_in, length_offset, kind_offset, fore_length}
use Rattle.layout.proofs.Laws.{short_refused, long_refused}
use Rattle.state.specs.declared.Settings.{Settings}
use Rattle.state.specs.StateLimits.{last_longest}
use Rattle.cell.specs.declared.Event.{Event}
use Rattle.cell.specs.declared.Event.TheVariants.{AdvanceAll, AdvanceOne, Start, Deliver}
use Rattle.cell.specs.declared.Event.TheVariants.{Lose, Repeat, Restart, Release}
use Rattle.record.specs.Read.{Head, Record, First}
use Rattle.record.specs.Record.{settings_kind, advance_all_kind, start_kind, kind_of, is_allowed}
use Rattle.record.specs.Record.{widths_of, record_length, left_at, told_length_at, told_kind_at}
use Rattle.record.specs.Record.{record_refusals, record_fault, fault_offset, head_of, values_at}
use Rattle.record.specs.Record.{record_with, record_at, first_with, first_record, opening_offset}

-- ---- kinds and lengths

pub kind_small : (e : Event) → kind_of e < 1000
unfolding kind_of
kind_small (AdvanceAll d) = lit< tt
kind_small (AdvanceOne h d) = lit< tt
kind_small (Start h d) = lit< tt
kind_small (Deliver i) = lit< tt
kind_small (Lose i) = lit< tt
kind_small (Repeat i) = lit< tt
kind_small (Restart h) = lit< tt
kind_small (Release h) = lit< tt

-- what holds of the four forms of a record holds of each kind's
by_form : (P : List ℕ → Type 0) (k : ℕ) → P (1 ∷ 4 ∷ 4 ∷ 8 ∷ []) → P (4 ∷ []) → P (1 ∷ 4 ∷ [])
    → P (1 ∷ []) → P (widths_of k)
by_form P k a b c d =
    by_test P (eqb k settings_kind) _ _ (λ _. a)
    (λ _.
    by_test P (eqb k advance_all_kind) _ _ (λ _. b)
    (λ _. by_test P (leb k start_kind) _ _ (λ _. c) (λ _. d)))

pub length_least : (k : ℕ) → 5 ≤ record_length k
unfolding total
length_least k =
    by_form (λ ws. 5 ≤ fore_length + total ws) k (lit≤ tt) (lit≤ tt) (lit≤ tt) (lit≤ tt)

pub length_most : (k : ℕ) → record_length k ≤ 21
unfolding total
length_most k =
    by_form (λ ws. fore_length + total ws ≤ 21) k (lit≤ tt) (lit≤ tt) (lit≤ tt) (lit≤ tt)

-- in every record but an advance of all the first field is one byte
pub first_value : (s : List ℕ) (at k : ℕ) → eqb k advance_all_kind ≡ false
    → get_or (values_at s at k) 0 0 ≡ number_at s (at + fore_length) 1
unfolding numbers_at
first_value s at k n =
    let P : List ℕ → Type 0 =
    λ ws. get_or (numbers_at s (at + fore_length) ws) 0 0 ≡ number_at s (at + fore_length) 1 in
    by_test P (eqb k settings_kind) _ _ (λ _. refl)
    (λ _. rw n (by_test P (leb k start_kind) _ _ (λ _. refl) (λ _. refl)))

-- ticks stand after a host
pub after_host : (at : ℕ) → at + fore_length + 1 ≡ at + 5
after_host at = omega arith

-- ---- a record that is not refused

-- its kind is allowed there, and its bytes are there; n is the offset past them
pub record WholeAt (first : Bool) (s : List ℕ) (at k n : ℕ) : Type 0 where
  pub told : told_kind_at s at ≡ k
  pub allowed : is_allowed first k ≡ true
  pub there : at + record_length k ≤ length s
  pub next : at + record_length k ≡ n

fault_passed : (first : Bool) (s : List ℕ) (at : ℕ) → record_fault first s at ≡ done
    → WholeAt first s at (told_kind_at s at) (at + record_length (told_kind_at s at))
unfolding record_fault all_of
fault_passed first s at e =
    let k = told_kind_at s at in
    let p1 = unless_passed (leb fore_length (left_at s at)) refused_cut _ refl e in
    let p2 = unless_passed (is_allowed first k) refused_kind _ refl p1.1 in
    let told = told_length_at s at in
    let p3 = unless_passed (leb (record_length k) told) refused_short _ refl p2.1 in
    let p4 = unless_passed (leb told (record_length k)) refused_length _ refl p3.1 in
    let p5 = unless_passed (leb (record_length k) (left_at s at)) refused_cut [] refl p4.1 in
    let l = leb-true (record_length k) (left_at s at) p5.0 in
    record {
      told = refl;
      allowed = p2.0;
      there = omega (arith, l, length_least k);
      next = refl;
    }

pub head_whole : (first : Bool) (s : List ℕ) (at k n : ℕ) → head_of first s at ≡ Head.Whole k n
    → WholeAt first s at k n
head_whole first s at k n e =
    let f = record_fault first s at in
    go f (fault_offset first s at) (fault_passed first s at) (eqb f done) refl e
  where
    go : (f o : ℕ)
        → (f ≡ done → WholeAt first s at (told_kind_at s at)
        (at + record_length (told_kind_at s at)))
        → (b : Bool) → eqb f done ≡ b
        → cond b (Head.Whole (told_kind_at s at) (at + record_length (told_kind_at s at)))
        (Head.Fault f o)
        ≡ Head.Whole k n → WholeAt first s at k n
    go f o passed true t e =
        let w = passed (eqb-true f done t) in
        let told : told_kind_at s at ≡ k = cc in
        let next : at + record_length (told_kind_at s at) ≡ n = cc in
        record {
          told = told;
          allowed = rw told at w.allowed;
          there = rw told at w.there;
          next = rw told at next;
        }
    go f o passed false t e = absurd (let z : ◌≡◌ {A = ℕ} 0 1 = cc in omega arith)

-- an event was given, so its record is whole
pub event_whole : (s : List ℕ) (at : ℕ) (e : Event) (next : ℕ)
    → record_at s at ≡ Record.Event e next → WholeAt false s at (told_kind_at s at) next
unfolding record_at
event_whole s at e next r = test (ltb at (length s)) r
  where
    go : (h : Head) → head_of false s at ≡ h → record_with s at h ≡ Record.Event e next
        → WholeAt false s at (told_kind_at s at) next
    go (Head.Fault f o) q r = absurd (let z : ◌≡◌ {A = ℕ} 0 1 = cc in omega arith)
    go (Head.Whole k n) q r =
        let w = head_whole false s at k n q in
        let m : n ≡ next = cc in
        rw (w.told, ← m) w

    test : (b : Bool)
        → cond b (record_with s at (head_of false s at)) Record.End ≡ Record.Event e next
        → WholeAt false s at (told_kind_at s at) next
    test true r = go (head_of false s at) refl r
    test false r = absurd (let z : ◌≡◌ {A = ℕ} 0 1 = cc in omega arith)

-- its record has five bytes at least, and the next starts where it ends
pub record_next : (s : List ℕ) (at : ℕ) (e : Event) (next : ℕ)
    → record_at s at ≡ Record.Event e next → (at + 5 ≤ next) × (next ≤ length s)
record_next s at e next r =
    let w = event_whole s at e next r in (
      omega (arith, w.next, length_least (told_kind_at s at)),
      omega (arith, w.next, w.there),
    )

-- a first record that is whole has 21 bytes
pub first_whole : (s : List ℕ) (k n : ℕ) → head_of true s 0 ≡ Head.Whole k n → 21 ≤ length s
unfolding total
first_whole s k n e =
    let w = head_whole true s 0 k n e in
    let l = rw (eqb-true k settings_kind w.allowed) at w.there in
    omega (arith, l)

-- settings were given, so their 21 bytes are there
pub first_there : (s : List ℕ) (g : Settings) (clock : ℕ) → first_record s ≡ First.Given g clock
    → 21 ≤ length s
unfolding first_record
first_there s g clock r = go (head_of true s 0) refl r
  where
    go : (h : Head) → head_of true s 0 ≡ h → first_with s h ≡ First.Given g clock → 21 ≤ length s
    go (Head.Fault f o) q r = absurd (let z : ◌≡◌ {A = ℕ} 0 1 = cc in omega arith)
    go (Head.Whole k n) q r = first_whole s k n q

-- ---- settings stand first, and only there

pub settings_again : (s : List ℕ) (at : ℕ) → fore_length ≤ left_at s at
    → told_kind_at s at ≡ settings_kind → record_fault false s at ≡ refused_kind
unfolding record_fault first_of all_of
settings_again s at l e = rw (le-leb fore_length (left_at s at) l, e)

pub settings_missing : (s : List ℕ) (at : ℕ) → fore_length ≤ left_at s at
    → (told_kind_at s at ≡ settings_kind → ⊥) → record_fault true s at ≡ refused_kind
unfolding record_fault first_of all_of
settings_missing s at l n =
    rw (le-leb fore_length (left_at s at) l, ne_eqb (told_kind_at s at) settings_kind n)

-- ---- a length that is not the kind's

-- with 4 bytes and an allowed kind, the length field is looked at next
module _ (first : Bool) (s : List ℕ) (at : ℕ) (l : fore_length ≤ left_at s at)
    (k : is_allowed first (told_kind_at s at) ≡ true) where
  length_next : record_fault first s at ≡ answer_by (drop 2 (record_refusals first s at))
  unfolding record_fault first_of all_of
  length_next = rw (le-leb fore_length (left_at s at) l, k)

  pub too_short : told_length_at s at < record_length (told_kind_at s at)
      → record_fault first s at ≡ refused_short
  too_short t = length_next ∙ short_refused _ _ (drop 4 (record_refusals first s at)) t

  pub too_long : record_length (told_kind_at s at) < told_length_at s at
      → record_fault first s at ≡ refused_length
  too_long t = length_next ∙ long_refused _ _ (drop 4 (record_refusals first s at)) t

-- ---- reading alike

-- the record at an offset lies within p, as far as its kind tells
record Within (p : List ℕ) (at : ℕ) : Type 0 where
  pub fore : at + fore_length ≤ length p
  pub whole : at + record_length (told_kind_at p at) ≤ length p

-- its head and its fields do not depend on what follows

kind_within : (p q : List ℕ) (at : ℕ) → at + fore_length ≤ length p
    → told_kind_at (p ++ q) at ≡ told_kind_at p at
kind_within p q at l = number_within p q (at + kind_offset) 2 (omega arith)

values_within : (p q : List ℕ) (at k : ℕ) → at + record_length k ≤ length p
    → values_at (p ++ q) at k ≡ values_at p at k
values_within p q at k l = numbers_within p q (at + fore_length) (widths_of k) (omega arith)

left_within : (p q : List ℕ) (at n : ℕ) → at + n ≤ length p
    → (leb n (left_at (p ++ q) at) ≡ true) × (leb n (left_at p at) ≡ true)
left_within p q at n l =
    let e = length-append p q in
    (le-leb n (left_at (p ++ q) at) (omega arith), le-leb n (left_at p at) (omega arith))

fault_within : (first : Bool) (p q : List ℕ) (at : ℕ) → Within p at
    → (record_fault first (p ++ q) at ≡ record_fault first p at)
    × (fault_offset first (p ++ q) at ≡ fault_offset first p at)
unfolding record_fault fault_offset first_of all_of tests_in fails_at
fault_within first p q at w =
    let k = told_kind_at p at in
    let four = left_within p q at fore_length w.fore in
    let all = left_within p q at (record_length k) w.whole in
    let f = w.fore in
    let e = number_within p q (at + length_offset) 2 (omega arith) in (
      rw (kind_within p q at f, e, four.0, four.1, all.0, all.1),
      rw (kind_within p q at f, e, four.0, four.1, all.0, all.1),
    )

head_within : (first : Bool) (p q : List ℕ) (at : ℕ) → Within p at
    → head_of first (p ++ q) at ≡ head_of first p at
head_within first p q at w =
    let f = fault_within first p q at w in
    rw (f.0, f.1, kind_within p q at w.fore)

record_within : (p q : List ℕ) (at : ℕ) → Within p at → record_at (p ++ q) at ≡ record_at p at
unfolding record_at
record_within p q at w =
    let f = w.fore in
    let e = length-append p q in
    rw (
      lt-ltb at (length (p ++ q)) (omega arith),
      lt-ltb at (length p) (omega arith),
      head_within false p q at w,
    )
    (go (head_of false p at) refl)
  where
    go : (h : Head) → head_of false p at ≡ h → record_with (p ++ q) at h ≡ record_with p at h
    go (Head.Fault f o) e = refl
    go (Head.Whole k n) e = rw (values_within p q at k (head_whole false p at k n e).there)

first_within : (p q : List ℕ) → 21 ≤ length p → first_record (p ++ q) ≡ first_record p
unfolding first_record
first_within p q l =
    let w : Within p 0 =
    record { fore = omega arith; whole = omega (arith, length_most (told_kind_at p 0)) } in
    rw (head_within true p q 0 w) (go (head_of true p 0))
  where
    go : (h : Head) → first_with (p ++ q) h ≡ first_with p h
    go (Head.Fault f o) = refl
    go (Head.Whole k n) =
        rw (values_within p q 0 settings_kind (omega (arith, l, length_most settings_kind)))

pub read_longer : (s t : List ℕ) (at : ℕ) (e : Event) (next : ℕ)
    → record_at s at ≡ Record.Event e next → record_at (s ++ t) at ≡ Record.Event e next
read_longer s t at e next r =
    let w = event_whole s at e next r in
    let l = w.there in
    record_within s t at
    (record { fore = omega (arith, l, length_least (told_kind_at s at)); whole = l })
    ∙ r

-- the first p bytes, and those after them
length_cut : (s : List ℕ) (n p : ℕ) → n ≤ length s → n ≤ p → n ≤ length (take p s)
length_cut s n p l m = rw (length-take p s) (le-min m l)

pub read_shorter : (s : List ℕ) (at : ℕ) (e : Event) (next p : ℕ)
    → record_at s at ≡ Record.Event e next → next ≤ p
    → record_at (take p s) at ≡ Record.Event e next
read_shorter s at e next p r m =
    let a = take p s in
    let b = drop p s in
    let w = event_whole s at e next r in
    let k = told_kind_at s at in
    let end : at + record_length k ≤ p = omega (arith, w.next) in
    let l : at + record_length k ≤ length a = length_cut s (at + record_length k) p w.there end in
    let f : at + fore_length ≤ length a = omega (arith, l, length_least k) in
    let same : k ≡ told_kind_at a at =
    ap (λ (x : List ℕ). told_kind_at x at) (sym (take-append-drop p s)) ∙ kind_within a b at f in
    sym (record_within a b at (record { fore = f; whole = rw same at l }))
    ∙ ap (λ (x : List ℕ). record_at x at) (take-append-drop p s)
    ∙ r

pub read_end : (s : List ℕ) (p : ℕ) → record_at (take p s) p ≡ Record.End
unfolding record_at
read_end s p =
    let l : length (take p s) ≤ p = rw (length-take p s) (min-le_left p (length s)) in
    rw (le-ltb p (length (take p s)) l)

pub first_longer : (s t : List ℕ) (g : Settings) (clock : ℕ) → first_record s ≡ First.Given g clock
    → first_record (s ++ t) ≡ First.Given g clock
first_longer s t g clock r = first_within s t (first_there s g clock r) ∙ r

pub first_shorter : (s : List ℕ) (g : Settings) (clock p : ℕ) → first_record s ≡ First.Given g clock
    → 21 ≤ p → first_record (take p s) ≡ First.Given g clock
first_shorter s g clock p r m =
    let a = take p s in
    let l : 21 ≤ length a = length_cut s 21 p (first_there s g clock r) m in
    sym (first_within a (drop p s) l) ∙ ap first_record (take-append-drop p s) ∙ r

-- ---- what is tested, one thing after the other

-- four bytes, the kind, the length and the record's bytes
pub head_steps : (first : Bool) (s : List ℕ) (at : ℕ)
    → let left = left_at s at in
    let kind = told_kind_at s at in
    let len = record_length kind in
    let told = told_length_at s at in
    let cut = Head.Fault (refusal_number Refusal.Cut) left in
    head_of first s at
    ≡ cond (leb fore_length left)
    (cond (is_allowed first kind)
    (cond (leb len told)
    (cond (leb told len)
    (cond (leb len left) (Head.Whole kind (at + len)) cut)
    (Head.Fault (refusal_number Refusal.Length) length_offset))
    (Head.Fault (refusal_number Refusal.Short) length_offset))
    (Head.Fault (refusal_number Refusal.Kind) kind_offset))
    cut
unfolding record_fault fault_offset first_of all_of tests_in fails_at offset_in refusal_number
head_steps first s at = search rules

-- n, T, S and the clock
pub opening_steps : (g : Settings) (clock : ℕ)
    → opening_offset g clock
    ≡ cond (cell_fits g.n)
    (cond (leb 1 g.longest && leb g.longest (2 ^ 31))
    (cond (ltb g.spread g.longest) (cond (leb clock (2 ^ 48)) 0 13) 9) 5) 4
unfolding opening_offset tests_in fails_at total last_longest last_tick
opening_steps g clock = grind (arith, rules)

-- ---- settings that opening refuses

-- T is below 1 or above its limit, or it is neither
pub longest_refused : (t x y : ℕ) → (ltb t 1 || ltb last_longest t) ≡ true
    → cond (leb 1 t) (cond (leb t last_longest) x y) y ≡ y
longest_refused t x y e = go (ltb t 1) refl e
  where
    go : (b : Bool) → ltb t 1 ≡ b → (b || ltb last_longest t) ≡ true
        → cond (leb 1 t) (cond (leb t last_longest) x y) y ≡ y
    go true p q = rw (lt-leb 1 t (ltb-true t 1 p))
    go false p q =
        rw (
          le-leb 1 t (ltb-false t 1 p),
          lt-leb t last_longest (ltb-true last_longest t q),
        )

pub longest_fits : (t : ℕ) → (ltb t 1 || ltb last_longest t) ≡ false
    → (leb 1 t ≡ true) × (leb t last_longest ≡ true)
longest_fits t e = go (ltb t 1) refl e
  where
    go : (b : Bool) → ltb t 1 ≡ b → (b || ltb last_longest t) ≡ false
        → (leb 1 t ≡ true) × (leb t last_longest ≡ true)
    go true p q = true_false q
    go false p q =
        (le-leb 1 t (ltb-false t 1 p), le-leb t last_longest (ltb-false last_longest t q))
