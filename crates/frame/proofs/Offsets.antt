-- Where a refusal of reading is found: at a field that gives its number, the lowest one, and within
-- the lent bytes but for 1 and 2; and with 17 taken as 4 it is the reading of before. Assumes
-- nothing.
use mathlib.Core.Path.{◌≡◌, refl}
use mathlib.Core.Bool.{Bool, true, false, cond, not}
use mathlib.Core.List.{List, [], ◌∷◌, ◌++◌, map}
use mathlib.Core.Logic.{◌⊎◌, inl, inr}
use Prim.Native.Nat.{ℕ, ◌+◌, ◌≤◌, ◌<◌}
use native.Mathlib.Omega.{arith}
use lib.ListN.{length, take, drop}
use lib.Dec.{lit<, lit≤, ltb, leb, eqb}
use borrow.Author.Tests.{leb-true, leb-false, eqb-true, eqb-false, lt-ltb, le-leb, eq-eqb}
use borrow.Author.Tests.{ne_eqb, not-true}
use Rattle.base.specs.Refusals.{done, refused_cell, refused_cut, refused_kind, refused_length}
use Rattle.base.specs.Refusals.{refused_host, refused_tick, refused_short, unless}
use Rattle.base.specs.Refusals.{refused_party, test, Refusal, refusal, answer_by, place_by}
use Rattle.base.specs.Refusals.{first_of, tests_in, fails_at, all_hold}
use Rattle.base.specs.Claims.{GivenAt, Lowest}
use Rattle.base.specs.Lists.{All, all_of}
use Rattle.base.proofs.Tests.{both}
use Rattle.base.proofs.Places.{Rising, rising_below, first_place, apart, lowest_first, lowest_lone}
use Rattle.base.proofs.Places.{given, lone}
use Rattle.base.proofs.Lists.{Holding}
use Rattle.wire.specs.Wire.{total, numbers_at}
use Rattle.message.specs.declared.Sizes.{Sizes}
use Rattle.message.specs.declared.Numbers.{Numbers}
use Rattle.message.specs.declared.Message.{Message}
use Rattle.message.specs.Message.{last_tick, last_end, prepare_request, prepare_response_lease}
use Rattle.message.specs.Message.{propose_request, learn, known_kind, is_response, message_of}
use Rattle.message.specs.Faults.{Field, settings, lent_bytes, frame_length, kind_number, sender}
use Rattle.message.specs.Faults.{target, sizes_fit, host_tests, tick_tests, party_field, party_fits}
use Rattle.message.specs.Faults.{refusals_of}
use Rattle.message.proofs.Laws.{by_kind}
use Rattle.layout.specs.Layout.{more_of, kind_length, offset_in, place_in, length_refusals}
use Rattle.layout.specs.Layout.{value_in}
use Rattle.layout.specs.Layout.{numbers_in}
use Rattle.layout.proofs.Laws.{length_least}
use Rattle.frame.specs.Reading.{Whole, Refused}
use Rattle.frame.specs.Reading.{told_length, told_kind, read_refusals, read_answer, read_offset}
use Rattle.frame.specs.Reading.{read_with, read_of}
use Rattle.frame.specs.Claims.{former_refusals, former_of, former_number, as_former, places_in}
use Rattle.frame.proofs.Round.{by_length}

-- ---- the fields of a message that may fail stand at rising places, before the frame's end

some_host : (z : Sizes) → sizes_fit z ≡ true → ltb 0 z.n ≡ true
some_host z e =
    lt-ltb 0 z.n (omega (arith, leb-true 1 z.n (both (leb 1 z.n) _ e).0))

-- a test that holds, and one that may fail, before the others
held : {A B C : Type 0} → A → B → (A × B) ⊎ C
held h rest = inl (h, rest)

placed : {A B C D : Type 0} → B → C → D → A ⊎ (B × (C × D))
placed low high rest = inr (low, (high, rest))

-- frames that have the head alone, a lease, or an owner and an end

hosts_rise : (z : Sizes) (s : List ℕ) (lent : ℕ) → sizes_fit z ≡ true → (k : ℕ)
    → known_kind k ≡ true →
    let f = numbers_in s k in
    Rising (place_in lent k) 0 (kind_length k) (host_tests z f (ltb f.target z.n))
unfolding Rising more_of kind_length total offset_in numbers_in value_in numbers_at
hosts_rise z s lent c = by_kind P head head lease value head value head
  where
    P : ℕ → Type 0
    P k =
        let f = numbers_in s k in
        Rising (place_in lent k) 0 (kind_length k) (host_tests z f (ltb f.target z.n))

    n : ltb 0 z.n ≡ true
    n = some_host z c

    head : P prepare_request
    head =
        placed (lit≤ tt) (lit< tt) (placed (lit≤ tt) (lit< tt) (placed (lit≤ tt) (lit< tt)
        (held n (held n tt))))

    lease : P prepare_response_lease
    lease =
        placed (lit≤ tt) (lit< tt) (placed (lit≤ tt) (lit< tt) (placed (lit≤ tt) (lit< tt)
        (placed (lit≤ tt) (lit< tt) (placed (lit≤ tt) (lit< tt) tt))))

    value : P propose_request
    value =
        placed (lit≤ tt) (lit< tt) (placed (lit≤ tt) (lit< tt) (placed (lit≤ tt) (lit< tt)
        (held n (placed (lit≤ tt) (lit< tt) tt))))

ticks_rise : (s : List ℕ) (lent k : ℕ) → known_kind k ≡ true
    → Rising (place_in lent k) 0 (kind_length k) (tick_tests (numbers_in s k))
unfolding Rising more_of kind_length total offset_in numbers_in value_in numbers_at
ticks_rise s lent = by_kind P head head lease proposal head learnt head
  where
    P : ℕ → Type 0
    P k = Rising (place_in lent k) 0 (kind_length k) (tick_tests (numbers_in s k))

    t : leb 0 last_tick ≡ true
    t = le-leb 0 last_tick (omega arith)

    e : leb 0 last_end ≡ true
    e = le-leb 0 last_end (omega arith)

    head : P prepare_request
    head = placed (lit≤ tt) (lit< tt) (held t (held e (held e tt)))

    lease : P prepare_response_lease
    lease =
        placed (lit≤ tt) (lit< tt) (placed (lit≤ tt) (lit< tt) (placed (lit≤ tt) (lit< tt)
        (held e tt)))

    proposal : P propose_request
    proposal = placed (lit≤ tt) (lit< tt) (held t (placed (lit≤ tt) (lit< tt) (held e tt)))

    learnt : P learn
    learnt = placed (lit≤ tt) (lit< tt) (held t (held e (placed (lit≤ tt) (lit< tt) tt)))

-- ---- the claims

-- both forms of 2 are found past all the bytes that were lent

lent_first : (s : List ℕ) → leb 4 (length s) ≡ false
    → fails_at (places_in s) (test lent_bytes (leb 4 (length s)) ∷ []) ≤ length s
unfolding fails_at
lent_first s e = rw e (omega arith)

cut_again : (z : Sizes) (s : List ℕ) → leb 4 (length s) ≡ false
    → Lowest (places_in s) (drop 2 (read_refusals z s)) refused_cut
    (fails_at (places_in s) (test lent_bytes (leb 4 (length s)) ∷ []))
unfolding All all_of
cut_again z s e = (
  (λ q. absurd (omega (arith, q))),
  (
    (λ q. absurd (omega (arith, q))),
    (
      (λ q. absurd (omega (arith, q))),
      (
        (λ _. ((λ _. lent_first s e), tt)),
        apart (places_in s) (refusals_of z (numbers_in s (told_kind s))) refused_cut _ refl,
      ),
    ),
  ),
)

module _ (z : Sizes) (s : List ℕ) where
  pub offset_given : (read_answer z s ≡ done → ⊥)
      → GivenAt (places_in s) (read_refusals z s) (read_answer z s) (read_offset z s)
  unfolding read_answer read_offset all_of
  offset_given n = given (places_in s) (read_refusals z s) refl n

  pub offset_lowest : Lowest (places_in s) (read_refusals z s) (read_answer z s) (read_offset z s)
  unfolding read_answer read_offset all_of
  offset_lowest =
      lowest_lone at refused_cell (test settings (sizes_fit z)) (drop 1 rs) refl refl
      (λ c.
      lowest_first at 0 (length s + 1) _ (drop 2 rs) refl
      (lone at (test lent_bytes (leb 4 (length s)))) (cut_again z s)
      (λ _.
      lowest_lone at refused_kind (test kind_number (known_kind (told_kind s))) (drop 3 rs) refl
      refl
      (λ k.
      lowest_lone at refused_short (test frame_length (leb len told)) (drop 4 rs) refl refl
      (λ _.
      lowest_lone at refused_length (test frame_length (leb told len)) (drop 5 rs) refl refl
      (λ _.
      lowest_lone at refused_cut (test lent_bytes (leb len (length s))) (drop 6 rs) refl refl
      (λ _.
      lowest_first at 0 len _ (drop 7 rs) refl (hosts_rise z s (length s) c (told_kind s) k)
      (λ _. apart at (drop 7 rs) refused_host _ refl)
      (λ _.
      lowest_first at 0 len _ (drop 8 rs) refl (ticks_rise s (length s) (told_kind s) k)
      (λ _. apart at (drop 8 rs) refused_tick _ refl)
      (λ _.
      lowest_lone at refused_party (test (party_field f) (party_fits f)) [] refl refl
      (λ _. apart at [] _ _ refl)))))))))
    where
      f : Numbers
      f = numbers_in s (told_kind s)

      told : ℕ
      told = told_length s

      at : Field → ℕ
      at = places_in s

      len : ℕ
      len = kind_length (told_kind s)

      rs : List (Refusal Field)
      rs = read_refusals z s

-- what is claimed of a number and its offset
record Placed (s : List ℕ) (k at : ℕ) : Type 0 where
  settings : k ≡ refused_cell → at ≡ 0
  cut : k ≡ refused_cut → at ≡ length s
  party : k ≡ refused_party → at ≡ cond (is_response (told_kind s)) 5 4
  within : (k ≡ done → ⊥) → (k ≡ refused_cell → ⊥) → (k ≡ refused_cut → ⊥) → at < length s

-- a number for which only that is claimed
others : (s : List ℕ) (k at : ℕ) → eqb k refused_cell ≡ false → eqb k refused_cut ≡ false
    → eqb k refused_party ≡ false → at < length s → Placed s k at
others s k at a b c l =
    record {
      settings = λ e. absurd (eqb-false k refused_cell a e);
      cut = λ e. absurd (eqb-false k refused_cut b e);
      party = λ e. absurd (eqb-false k refused_party c e);
      within = λ _ _ _. l;
    }

cuts : (s : List ℕ) (at : ℕ) → at ≡ length s → Placed s refused_cut at
cuts s at l =
    record {
      settings = λ e. absurd (omega (arith, e));
      cut = λ _. l;
      party = λ e. absurd (omega (arith, e));
      within = λ _ _ n. absurd (n refl);
    }

party_place : (s : List ℕ) → kind_length (told_kind s) ≤ length s
    → Placed s refused_party (places_in s (party_field (numbers_in s (told_kind s))))
unfolding numbers_in offset_in
party_place s m =
    let e = go (is_response (told_kind s)) in
    record {
      settings = λ q. absurd (omega (arith, q));
      cut = λ q. absurd (omega (arith, q));
      party = λ _. e.0;
      within = λ _ _ _. omega (arith, m, length_least (told_kind s), e.1);
    }
  where
    go : (b : Bool) → let at = places_in s (cond b target sender) in (at ≡ cond b 5 4) × (at ≤ 5)
    go true = (refl, lit≤ tt)
    go false = (refl, lit≤ tt)

none : (s : List ℕ) → Placed s (answer_by {Field = Field} []) (place_by (places_in s) [])
unfolding first_of tests_in fails_at
none s =
    record {
      settings = λ e. absurd (omega (arith, e));
      cut = λ e. absurd (omega (arith, e));
      party = λ e. absurd (omega (arith, e));
      within = λ n. absurd (n refl);
    }

module _ (z : Sizes) (s : List ℕ) where
  places : Placed s (read_answer z s) (read_offset z s)
  unfolding read_answer read_offset all_of fails_at offset_in
  places =
      first_place at P _ _ refl
      (λ e. rw e (record {
        settings = λ _. refl;
        cut = λ q. absurd (omega (arith, q));
        party = λ q. absurd (omega (arith, q));
        within = λ _ n. absurd (n refl);
      }))
      (λ c.
      first_place at P _ _ refl (λ e. rw e (cuts s _ refl))
      (λ four.
      let l : 4 ≤ length s = leb-true 4 (length s) four in
      first_place at P _ _ refl (λ e. rw e (others s refused_kind _ refl refl refl (omega arith)))
      (λ k.
      first_place at P _ _ refl (λ e. rw e (others s refused_short _ refl refl refl (omega arith)))
      (λ _.
      first_place at P _ _ refl (λ e. rw e (others s refused_length _ refl refl refl (omega arith)))
      (λ _.
      first_place at P _ _ refl (λ e. rw e (cuts s _ refl))
      (λ r.
      let m : len ≤ length s = leb-true len (length s) r in
      first_place at P _ _ refl
      (λ e.
      others s refused_host _ refl refl refl
      (omega (arith, m, rising_below at 0 len _ (hosts_rise z s (length s) c (told_kind s) k) e)))
      (λ _.
      first_place at P _ _ refl
      (λ e.
      others s refused_tick _ refl refl refl
      (omega (arith, m, rising_below at 0 len _ (ticks_rise s (length s) (told_kind s) k) e)))
      (λ _. first_place at P _ [] refl (λ e. rw e (party_place s m)) (λ _. none s)))))))))
    where
      at : Field → ℕ
      at = places_in s

      P : ℕ → ℕ → Type 0
      P = Placed s

      len : ℕ
      len = kind_length (told_kind s)

  pub offset_settings : read_answer z s ≡ refused_cell → read_offset z s ≡ 0
  offset_settings e = places.settings e

  pub offset_cut : read_answer z s ≡ refused_cut → read_offset z s ≡ length s
  offset_cut e = places.cut e

  pub offset_party : read_answer z s ≡ refused_party
      → read_offset z s ≡ cond (is_response (told_kind s)) 5 4
  offset_party e = places.party e

  pub offset_within : 0 < length s → (read_answer z s ≡ done → ⊥)
      → (read_answer z s ≡ refused_cut → ⊥) → read_offset z s < length s
  offset_within l a b = go (eqb (read_answer z s) refused_cell) refl
    where
      go : (c : Bool) → eqb (read_answer z s) refused_cell ≡ c → read_offset z s < length s
      go true e = rw (offset_settings (eqb-true _ refused_cell e)) l
      go false e = places.within a (eqb-false _ refused_cell e) b

-- ---- the reading of before

abbrev is_other : ℕ → Refusal Field → Bool
is_other k r = not (eqb r.number k)

abbrev numbers_by : List (Refusal Field) → List ℕ
numbers_by rs = map (λ r. unless (all_hold r.tests) r.number) rs

-- refusals of other numbers than 17, before two lists that are alike so far
former_append : (rs xs ys : List (Refusal Field)) → Holding (map (is_other refused_short) rs)
    → Holding (map (is_other done) rs) → former_number (answer_by xs) ≡ answer_by ys
    → former_number (answer_by (rs ++ xs)) ≡ answer_by (rs ++ ys)
unfolding All first_of
former_append [] xs ys h n e = e
former_append (r ∷ rs) xs ys h n e =
    go (all_hold r.tests) (former_append rs xs ys h.1 n.1 e)
  where
    go : (b : Bool) → former_number (answer_by (rs ++ xs)) ≡ answer_by (rs ++ ys)
        → former_number (first_of (unless b r.number ∷ numbers_by (rs ++ xs)))
        ≡ first_of (unless b r.number ∷ numbers_by (rs ++ ys))
    go true i = i
    go false i =
        let number = r.number in
        rw (
          not-true (eqb number done) n.0,
          not-true (eqb number refused_short) h.0,
        )

-- the length field's
lengths : (told len : ℕ) (rs : List (Refusal Field)) → former_number (answer_by rs) ≡ answer_by rs
    → former_number (answer_by (length_refusals told len ++ rs))
    ≡ answer_by (refusal refused_length (test frame_length (eqb told len) ∷ []) ∷ rs)
unfolding first_of all_of
lengths told len rs e =
    by_length _ told len
    (λ p. rw (p, ne_eqb told len (λ q. omega (arith, leb-false len told p, q))))
    (λ p q. rw (p, q, ne_eqb told len (λ r. omega (arith, leb-false told len q, r))))
    (λ q. rw (q, le-leb len len (omega arith), eq-eqb len len refl) e)

former_number_lem : (z : Sizes) (s : List ℕ)
    → former_number (read_answer z s) ≡ answer_by (former_refusals z s)
unfolding read_answer All first_of
former_number_lem z s =
    let rs = read_refusals z s in
    let rest =
    former_append (drop 5 rs) [] [] (refl, (refl, (refl, (refl, tt))))
    (refl, (refl, (refl, (refl, tt)))) refl in
    former_append (take 3 rs) (drop 3 rs) (drop 3 (former_refusals z s)) (refl, (refl, (refl, tt)))
    (refl, (refl, (refl, tt)))
    (lengths (told_length s) (kind_length (told_kind s)) (drop 5 rs) rest)

-- a refusal stays one
former_refused : (a : ℕ) → eqb a done ≡ false → eqb (former_number a) done ≡ false
former_refused a e = go (eqb a refused_short)
  where
    go : (b : Bool) → eqb (cond b refused_length a) done ≡ false
    go true = refl
    go false = e

pub former : (z : Sizes) (s : List ℕ) → as_former (read_of z s) ≡ former_of z s
unfolding read_of
former z s = rw (← former_number_lem z s) (go (eqb a done) refl)
  where
    a : ℕ
    a = read_answer z s

    m : Message
    m = message_of (numbers_in s (told_kind s))

    l : ℕ
    l = kind_length (told_kind s)

    go : (b : Bool) → eqb a done ≡ b
        → as_former (cond b (Whole m l) (Refused a (read_offset z s)))
        ≡ read_with (former_number a) 0 m l
    go true e = rw (eqb-true a done e)
    go false e = rw (former_refused a e)
