-- The walk that places, from one empty slot to the next, and where the slots end before it.
-- Assumes nothing.
use mathlib.Core.Path.{◌≡◌, refl, ap, ◌∙◌}
use mathlib.Core.Bool.{Bool, true, false, cond}
use mathlib.Core.List.{List, [], ◌∷◌}
use Prim.Native.Nat.{ℕ, zero, suc, ◌+◌, ◌≤◌, ◌<◌}
use native.Mathlib.Numerals.{add-one}
use native.Mathlib.Omega.{arith}
use lib.ListN.{length, get_or, set, drop, length-set, drop_of_length-le}
use lib.Seq.{drop-set-lt}
use Rattle.base.proofs.Lists.{from_place}
use Rattle.message.specs.declared.Message.{Message}
use Rattle.message.specs.Message.{addressed_to}
use Rattle.slots.specs.declared.Slot.{Slot}
use Rattle.slots.specs.Slots.{slot_count, empty_slot, slot_with, is_empty, empties, lowest}
use Rattle.slots.specs.Slots.{placed, placed_each, looked_for}
use Rattle.slots.proofs.Laws.{filled_counts}

-- ---- the slots from i on, by slot i

module _ (ss : List Slot) (i : ℕ) (h : i < length ss) where
  split : drop i ss ≡ get_or ss i empty_slot ∷ drop (i + 1) ss
  split = from_place ss i empty_slot h

  module _ (e : is_empty (get_or ss i empty_slot).content ≡ true) where
    lowest_here : lowest (drop i ss) ≡ 0
    unfolding lowest
    lowest_here = ap lowest split ∙ rw e

    looked_here : (k : ℕ)
        → looked_for (suc k) (drop i ss) ≡ suc (looked_for k (drop (i + 1) ss))
    unfolding looked_for
    looked_here k = ap (looked_for (suc k)) split ∙ rw e

  module _ (e : is_empty (get_or ss i empty_slot).content ≡ false) where
    lowest_later : lowest (drop i ss) ≡ suc (lowest (drop (i + 1) ss))
    unfolding lowest
    lowest_later = ap lowest split ∙ rw e

    looked_later : (k : ℕ)
        → looked_for (suc k) (drop i ss) ≡ suc (looked_for (suc k) (drop (i + 1) ss))
    unfolding looked_for
    looked_later k = ap (looked_for (suc k)) split ∙ rw e

-- past the last slot nothing is looked at
looked_none : (k : ℕ) → looked_for k [] ≡ 0
unfolding looked_for
looked_none zero = refl
looked_none (suc k) = refl

-- and where all slots are taken none is empty
empties_full : (ss : List Slot) → length ss ≤ lowest ss → empties ss ≡ 0
unfolding lowest empties
empties_full [] h = refl
empties_full (s ∷ ss) h = go (is_empty s.content) h (λ l. empties_full ss l)
  where
    go : (b : Bool) → suc (length ss) ≤ cond b 0 (suc (lowest ss))
        → (length ss ≤ lowest ss → empties ss ≡ 0)
        → cond b (suc (empties ss)) (empties ss) ≡ 0
    go true l f = absurd (omega arith)
    go false l f = f (omega arith)

-- ---- filling the lowest empty slot

placed_here : (ss : List Slot) (i : ℕ) (m : Message) → lowest ss ≡ i
    → placed ss m ≡ set ss i (slot_with m)
unfolding placed
placed_here ss i m e = rw e

-- then the slots up to it are taken
filled : (ss : List Slot) (i : ℕ) (m : Message) → i < length ss → lowest ss ≡ i
    → lowest (set ss i (slot_with m)) ≡ suc i + lowest (drop (suc i) (set ss i (slot_with m)))
unfolding lowest is_empty
filled [] i m h e = absurd (omega arith)
filled (s ∷ ss) zero m h e = omega arith
filled (s ∷ ss) (suc i) m h e = go (is_empty s.content) e (λ q. filled ss i m (omega arith) q)
  where
    after : List Slot
    after = set ss i (slot_with m)

    go : (b : Bool) → cond b 0 (suc (lowest ss)) ≡ suc i
        → (lowest ss ≡ i → lowest after ≡ suc i + lowest (drop (suc i) after))
        → cond b 0 (suc (lowest after)) ≡ suc (suc i) + lowest (drop (suc i) after)
    go true q f = absurd (omega arith)
    go false q f = omega (arith, f (omega arith))

lowest_filled : (ss : List Slot) (i : ℕ) (m : Message) → i < length ss → lowest ss ≡ i
    → lowest (set ss i (slot_with m)) ≡ (i + 1) + lowest (drop (i + 1) (set ss i (slot_with m)))
lowest_filled ss i m h e = rw add-one (filled ss i m h e)

-- ---- the walk that places to all, of whom hs are left: the slots below i were looked at and are
-- taken, k of them filled by the walk

pub record Placing (m : Message) (start ss : List Slot) (all hs : List ℕ) (i k : ℕ) : Type 0 where
  pub places : i ≤ slot_count
  pub long : length ss ≡ slot_count
  pub taken : lowest ss ≡ i + lowest (drop i ss)
  pub rest : placed_each ss m hs ≡ placed_each start m all
  -- how many slots are filled, how many are still to be, and how many are empty
  pub due : k + length hs ≡ length all
  pub left : k + empties ss ≡ empties start
  -- how many slots were looked at, and are still to be
  pub looked : i + looked_for (length hs) (drop i ss) ≡ looked_for (length all) start

pub placing_first : (m : Message) (ss : List Slot) (all : List ℕ) → length ss ≡ slot_count
    → Placing m ss ss all all 0 0
placing_first m ss all e =
    record {
      places = omega arith;
      long = e;
      taken = omega arith;
      rest = refl;
      due = omega arith;
      left = omega arith;
      looked = omega arith;
    }

module _ {m : Message} {start ss : List Slot} {all : List ℕ} {h : ℕ} {hs : List ℕ} {k : ℕ} where
  -- a slot that is taken is passed over
  placing_on : (i : ℕ) → i < slot_count → is_empty (get_or ss i empty_slot).content ≡ false
      → Placing m start ss all (h ∷ hs) i k → Placing m start ss all (h ∷ hs) (i + 1) k
  placing_on i c f p =
      let l : i < length ss = omega (arith, p.long) in
      record {
        places = omega arith;
        long = p.long;
        taken = omega (arith, p.taken, lowest_later ss i l f);
        rest = p.rest;
        due = p.due;
        left = p.left;
        looked = omega (arith, p.looked, looked_later ss i l f (length hs));
      }

  -- and so are several
  pub placing_past : (d i : ℕ) → i + d ≤ slot_count
      → ((x : ℕ) → i ≤ x → x < i + d → is_empty (get_or ss x empty_slot).content ≡ false)
      → Placing m start ss all (h ∷ hs) i k → Placing m start ss all (h ∷ hs) (i + d) k
  placing_past zero i l f p = let z : i + 0 ≡ i = omega arith in rw z p
  placing_past (suc d) i l f p =
      let z : (i + 1) + d ≡ i + suc d = omega arith in
      rw z at
      (placing_past d (i + 1) (omega arith) (λ x u v. f x (omega arith) (omega arith))
      (placing_on i (omega arith) (f i (omega arith) (omega arith)) p))

  module _ {i : ℕ} (p : Placing m start ss all (h ∷ hs) i k) where
    -- the message goes into a slot that is empty
    pub placing_fill : i < slot_count → is_empty (get_or ss i empty_slot).content ≡ true
        → Placing m start (set ss i (slot_with (addressed_to m h))) all hs (i + 1) (k + 1)
    unfolding placed_each
    placing_fill c f =
        let x = addressed_to m h in
        let l : i < length ss = omega (arith, p.long) in
        let low : lowest ss ≡ i = omega (arith, p.taken, lowest_here ss i l f) in
        record {
          places = omega arith;
          long = length-set ss i (slot_with x) ∙ p.long;
          taken = lowest_filled ss i x l low;
          rest = rw (← placed_here ss i x low) p.rest;
          due = omega (arith, p.due);
          left = omega (arith, p.left, filled_counts ss i x l f);
          looked =
              rw (drop-set-lt (i + 1) ss i (slot_with x) (omega arith))
              (omega (arith, p.looked, looked_here ss i l f (length hs)));
        }

    -- with a receiver left, the slots end
    pub placing_ended : slot_count ≤ i → (slot_count ≡ looked_for (length all) start)
        × (empties start < length all)
    placing_ended b =
        let past : length ss ≤ i = omega (arith, p.long) in
        let full : length ss ≤ lowest ss = omega (arith, p.taken, p.long) in
        let none : i + 0 ≡ looked_for (length all) start =
        rw (drop_of_length-le ss past, looked_none (suc (length hs))) at p.looked in
        (omega (arith, none, p.places), omega (arith, p.left, p.due, empties_full ss full))
