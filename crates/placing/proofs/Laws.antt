-- The walk over free slots is the walk that places over every list of slots that are free so.
-- Assumes nothing.
use mathlib.Core.Path.{◌≡◌, refl, sym, ap, ◌∙◌}
use mathlib.Core.Bool.{Bool, true, false, ◌&&◌, not}
use mathlib.Core.Logic.{⊎_elim}
use mathlib.Core.List.{List, ◌∷◌}
use Prim.Native.Nat.{ℕ, zero, suc, ◌+◌, ◌-◌, ◌≤◌, ◌<◌}
use native.Mathlib.Decide.{ℕ_discrete}
use native.Mathlib.Omega.{arith}
use lib.Dec.{leb}
use lib.ListN.{length, get_or, set, length-set}
use lib.Seq.{get_or-set_same, get_or-set_other}
use borrow.Author.Tests.{le-leb, leb-true, not-true}
use Rattle.std.specs.Prelude.{Option, Some, None}
use Rattle.std.specs.Option.{unwrap_or}
use Rattle.std.specs.declared.result.Result.{Result}
use Rattle.base.specs.declared.Refusal.{Refusal}
use Rattle.base.proofs.Tests.{both}
use Rattle.quorum.specs.Sets.{is_in, members_from, members}
use Rattle.quorum.specs.Parts.{next_in}
use Rattle.quorum.proofs.Laws.{members_step, members_none}
use Rattle.quorum.proofs.Next.{next_is}
use Rattle.message.specs.declared.Message.{Message}
use Rattle.message.specs.Message.{addressed_to}
use Rattle.slots.specs.declared.Slot.{Slot}
use Rattle.slots.specs.Slots.{slot_count, empty_slot, slot_with, is_empty, placed_each, looked_for}
use Rattle.slots.specs.Slots.{freed}
use Rattle.slots.proofs.Walks.{Placing, placing_first, placing_past, placing_fill, placing_ended}
use Rattle.placing.specs.declared.Fill.{Fill}
use Rattle.placing.specs.declared.Placed.{Placed}
use Rattle.placing.specs.Parts.{Frees, with_freed, taken_from, eight_taken, Passed, FreeAfter}
use Rattle.placing.specs.Parts.{NextFree}
use Rattle.placing.specs.Parts.{no_fill, pushed, stored, Fills, Lacks, Outcome}

-- ---- which slots are free

abbrev pub FreeAt : List Slot → List Bool → ℕ → Type 0
FreeAt ss free x = get_or free x false ≡ is_empty (get_or ss x empty_slot).content

-- one slot is told anew
pub free_set : (ss : List Slot) (free : List Bool) (i x : ℕ) (y : Bool) → i < length free
    → y ≡ is_empty (get_or ss i empty_slot).content → ((x ≡ i → ⊥) → FreeAt ss free x)
    → FreeAt ss (set free i y) x
free_set ss free i x y l e f = go (ℕ_discrete x i)
  where
    go : Dec (x ≡ i) → FreeAt ss (set free i y) x
    go (yes q) = rw (q, get_or-set_same free i y false l) e
    go (no q) = rw (get_or-set_other free i x y false q) (f q)

-- a slot that is stored to
pub frees_set : {ss : List Slot} {free : List Bool} (i : ℕ) (x : Bool) (s : Slot) → Frees ss free
    → i < slot_count → x ≡ is_empty s.content → Frees (set ss i s) (set free i x)
frees_set {ss = ss} {free = free} i x s p l e =
    let a : i < length ss = omega (arith, p.slots) in
    record {
      slots = length-set ss i s ∙ p.slots;
      many = length-set free i x ∙ p.many;
      empty = λ j u.
          free_set (set ss i s) free i j x (omega (arith, p.many))
          (rw (get_or-set_same ss i s empty_slot a) e)
          (λ q. rw (get_or-set_other ss i j s empty_slot q) (p.empty j u));
    }

-- one that is freed
pub frees_free : {ss : List Slot} {free : List Bool} (i : ℕ) → Frees ss free → i < slot_count
    → Frees (freed ss i) (set free i true)
unfolding is_empty
frees_free i p l = frees_set i true empty_slot p l refl

-- an event's slot, freed or not
pub frees_freed : (o : Option ℕ) (ss after : List Slot) {free : List Bool} → Frees ss free
    → ((i : ℕ) → o ≡ Some i → (i < slot_count) × (after ≡ freed ss i)) → (o ≡ None → after ≡ ss)
    → Frees after (with_freed o free)
unfolding with_freed
frees_freed None ss after p f n = rw (n refl) p
frees_freed (Some i) ss after p f n = let q = f i refl in rw q.1 (frees_free i p q.0)

-- ---- the next free slot

pub passed_first : (free : List Bool) (from : ℕ) → from ≤ slot_count → Passed free from from
passed_first free from l =
    record { least = omega arith; most = l; taken = λ x a b. absurd (omega arith) }

module _ {free : List Bool} {from j : ℕ} (p : Passed free from j) where
  -- one more, and several
  pub passed_on : j < slot_count → get_or free j false ≡ false → Passed free from (j + 1)
  passed_on l e =
      record {
        least = omega (arith, p.least);
        most = omega arith;
        taken = λ x a b. go x a b (ℕ_discrete x j);
      }
    where
      go : (x : ℕ) → from ≤ x → x < j + 1 → Dec (x ≡ j) → get_or free x false ≡ false
      go x a b (yes q) = rw q e
      go x a b (no q) = p.taken x a (omega (arith, b, q))

passed_more : {free : List Bool} {from j : ℕ} (k : ℕ) → Passed free from j → j + k ≤ slot_count
    → taken_from k free j ≡ true → Passed free from (j + k)
unfolding taken_from
passed_more {j = j} zero p l e = let z : j + 0 ≡ j = omega arith in rw z p
passed_more {free = free} {j = j} (suc k) p l e =
    let t = both (taken_from k free j) (not (get_or free (j + k) false)) e in
    let z : (j + k) + 1 ≡ j + suc k = omega arith in
    rw z at
    (passed_on (passed_more k p (omega arith) t.0) (omega arith) (not-true _ t.1))

pub passed_eight : {free : List Bool} {from j : ℕ} → Passed free from j → eight_taken free j ≡ true
    → Passed free from (j + 8)
unfolding eight_taken
passed_eight {free = free} {j = j} p e =
    let t = both (leb (j + 8) slot_count) (taken_from 8 free j) e in
    passed_more 8 p (leb-true (j + 8) slot_count t.0) t.1

-- the tests of eight slots
abbrev Taken : List Bool → ℕ → Bool
Taken free x = not (get_or free x false)

pub eight_is : (free : List Bool) (j : ℕ) → j + 8 ≤ slot_count
    → (Taken free j && Taken free (j + 1) && Taken free (j + 2) && Taken free (j + 3)
    && Taken free (j + 4) && Taken free (j + 5) && Taken free (j + 6) && Taken free (j + 7))
    ≡ eight_taken free j
unfolding eight_taken taken_from
eight_is free j l =
    let z : j + 0 ≡ j = omega arith in
    rw (le-leb (j + 8) slot_count l, z)

-- ---- the same where a slot is freed

module _ (free : List Bool) (from i : ℕ) where
  stays : (x : ℕ) → (x ≡ i → ⊥) → get_or (set free i true) x false ≡ get_or free x false
  stays x n = get_or-set_other free i x true false n

  passes : (r : ℕ) → Passed free from r → (from ≤ i → r ≤ i) → Passed (set free i true) from r
  passes r p f =
      record {
        least = p.least;
        most = p.most;
        taken = λ x u v. rw (stays x (λ z. omega (arith, f (omega arith)))) (p.taken x u v);
      }

  -- it comes first
  pub freed_first : (at : Option ℕ) → length free ≡ slot_count → NextFree free from at → from ≤ i
      → i < unwrap_or at slot_count → FreeAfter (set free i true) from i
  unfolding NextFree
  freed_first at long q a b =
      let p = below at q b in
      record {
        passed = passes i p.0 (λ z. omega arith);
        within = p.1;
        here = get_or-set_same free i true false (omega (arith, p.1));
      }
    where
      upto : (r : ℕ) → Passed free from r → i < r → Passed free from i × (i < slot_count)
      upto r p l = (
        record {
          least = a;
          most = omega (arith, p.most);
          taken = λ x u v. p.taken x u (omega arith);
        },
        omega (arith, p.most),
      )

      below : (o : Option ℕ) → NextFree free from o → i < unwrap_or o slot_count
          → Passed free from i × (i < slot_count)
      below None p l = upto slot_count p l
      below (Some r) p l = upto r p.passed l

  -- it does not
  pub freed_later : (at : Option ℕ) → length free ≡ slot_count → NextFree free from at
      → (from ≤ i → unwrap_or at slot_count ≤ i) → NextFree (set free i true) from at
  unfolding NextFree
  freed_later None long p f = passes slot_count p f
  freed_later (Some r) long p f =
      record { passed = passes r p.passed f; within = p.within; here = go (ℕ_discrete r i) }
    where
      go : Dec (r ≡ i) → get_or (set free i true) r false ≡ true
      go (yes z) = rw (z, get_or-set_same free i true false (omega (arith, long, z, p.within)))
      go (no z) = rw (stays r z) p.here

-- ---- what is stored

-- what is remembered from place j on does not matter for the first k
stored_below : (k j : ℕ) (f : Fill) (fills : List Fill) (m : Message) (ss : List Slot) → k ≤ j
    → stored k (set fills j f) m ss ≡ stored k fills m ss
unfolding stored
stored_below zero j f fills m ss h = refl
stored_below (suc k) j f fills m ss h =
    rw (
      get_or-set_other fills j k f no_fill (λ e. absurd (omega (arith, e))),
      stored_below k j f fills m ss (omega arith),
    )

-- one slot more is stored to
stored_next : (k : ℕ) (f : Fill) (fills : List Fill) (m : Message) (ss : List Slot)
    → k < length fills
    → stored (k + 1) (set fills k f) m ss
    ≡ set (stored k fills m ss) f.slot (slot_with (addressed_to m f.host))
unfolding stored
stored_next k f fills m ss l =
    let g : k + 1 ≡ suc k = omega arith in
    rw (g, get_or-set_same fills k f no_fill l, stored_below k k f fills m ss (omega arith))

-- the slots from j on are as they were, where all that was stored is below
stored_above : (k j x : ℕ) (fills : List Fill) (m : Message) (ss : List Slot)
    → ((y : ℕ) → y < k → (get_or fills y no_fill).slot < j) → j ≤ x
    → get_or (stored k fills m ss) x empty_slot ≡ get_or ss x empty_slot
unfolding stored
stored_above zero j x fills m ss f h = refl
stored_above (suc k) j x fills m ss f h =
    let b = f k (omega arith) in
    get_or-set_other (stored k fills m ss) (get_or fills k no_fill).slot x _ empty_slot
    (λ e. absurd (omega (arith, e, b)))
    ∙ stored_above k j x fills m ss (λ y l. f y (omega arith)) h

-- ---- the walk

-- facts of the walk that do not speak of the message hold of any
any : Message
any =
    Message.PrepareRequest
    (record { sender = 0; target = 0; ballot = record { tick = 0; host = 0 } })

-- at host h and slot j
pub record Walking (free : List Bool) (receivers n : ℕ) (p : Placed) (h j : ℕ) : Type 0
  where
    pub nine : length p.fills ≡ 9
    pub few : p.count ≤ h
    pub most : h ≤ n
    pub member : h < n → is_in receivers h ≡ true
    pub below : (x : ℕ) → x < p.count → (get_or p.fills x no_fill).slot < j
    pub places : j ≤ slot_count
    pub placing : (ss : List Slot) (m : Message) → Frees ss free
        → Placing m ss (stored p.count p.fills m ss) (members n receivers)
        (members_from receivers h (n - h)) j p.count

pub walking_first : (free : List Bool) (receivers n : ℕ) (p : Placed) → length p.fills ≡ 9
    → p.count ≡ 0 → Walking free receivers n p (next_in receivers 0 n) 0
unfolding stored
walking_first free receivers n p e none =
    let x = next_is receivers 0 n (omega arith) in
    let z : n - 0 ≡ n = omega arith in
    record {
      nine = e;
      few = omega (arith, none);
      most = x.most;
      member = x.member;
      below = λ y l. absurd (omega (arith, l, none));
      places = omega arith;
      placing = λ ss m q.
          rw (none, ← x.rest, z) (placing_first m ss (members n receivers) q.slots);
    }

-- no receiver, none to place to
pub fills_none : (free : List Bool) (n : ℕ) (fills : List Fill)
    → Fills free 0 n (record { fills = fills; count = 0; looked = 0 })
unfolding stored placed_each looked_for
fills_none free n fills =
    let none = members_none 0 0 n refl in
    record {
      few = omega arith;
      within = λ x l. absurd (omega (arith, l));
      placed_is = λ ss m q. rw none;
      looked_is = λ ss q. rw none;
      enough = λ ss q. rw none (omega arith);
    }

module _ {free : List Bool} {receivers n : ℕ} {p : Placed} {h j : ℕ}
    (w : Walking free receivers n p h j) where
  -- whether a slot from j on holds anything is told
  told_by : (ss : List Slot) (m : Message) → Frees ss free → (x : ℕ) (b : Bool) → j ≤ x
      → x < slot_count → get_or free x false ≡ b
      → is_empty (get_or (stored p.count p.fills m ss) x empty_slot).content ≡ b
  told_by ss m q x b l u e =
      ap (λ (s : Slot). is_empty s.content) (stored_above p.count j x p.fills m ss w.below l)
      ∙ sym (q.empty x u) ∙ e

  -- no receiver is left: all is placed
  pub walking_done : n ≤ h → Fills free receivers n (record p { looked = j })
  unfolding members_from placed_each looked_for
  walking_done b =
      let z : n - h ≡ 0 = omega arith in
      record {
        few = omega (arith, w.few, w.most);
        within = λ x l. omega (arith, w.below x l, w.places);
        placed_is = λ ss m q. rw z at (w.placing ss m q).rest;
        looked_is = λ ss q.
            let e : j + 0 ≡ looked_for (length (members n receivers)) ss =
            rw z at (w.placing ss any q).looked in
            omega (arith, e);
        enough = λ ss q.
            let d = w.placing ss any q in
            let e : p.count + 0 ≡ length (members n receivers) = rw z at d.due in
            omega (arith, e, d.left);
      }

  module _ (b : h < n) (at : ℕ) (q : Passed free j at) where
    -- up to the next free slot, or the last
    reached : (ss : List Slot) (m : Message) → Frees ss free
        → Placing m ss (stored p.count p.fills m ss) (members n receivers)
        (h ∷ members_from receivers (h + 1) (n - (h + 1))) at p.count
    reached ss m r =
        let z : j + (at - j) ≡ at = omega (arith, q.least) in
        rw z at
        (placing_past (at - j) j (omega (arith, q.least, q.most))
        (λ x u v.
        told_by ss m r x false u (omega (arith, q.least, q.most))
        (q.taken x u (omega (arith, q.least))))
        (rw (members_step receivers h n b, w.member b) at (w.placing ss m r)))

    -- the slot that was found is remembered, and the walk goes on from there
    pub walking_fills : at < slot_count → get_or free at false ≡ true → n ≤ 9
        → Walking free receivers n (pushed p (record { slot = at; host = h }))
        (next_in receivers (h + 1) n) (at + 1)
    walking_fills l e few =
        let x = next_is receivers (h + 1) n (omega arith) in
        let f : p.count < length p.fills = omega (arith, w.few, w.nine) in
        record {
          nine = length-set p.fills p.count _ ∙ w.nine;
          few = omega (arith, x.least, w.few);
          most = x.most;
          member = x.member;
          below = λ y u. go y u (ℕ_discrete y p.count) f;
          places = omega arith;
          placing = λ ss m r.
              rw (stored_next p.count (record { slot = at; host = h }) p.fills m ss f, ← x.rest)
              (placing_fill (reached ss m r) l
              (told_by ss m r at true q.least l e));
        }
      where
        go : (y : ℕ) → y < p.count + 1 → Dec (y ≡ p.count) → p.count < length p.fills
            → (get_or (set p.fills p.count (record { slot = at; host = h })) y no_fill).slot
            < at + 1
        go y d (yes e) f =
            rw (e, get_or-set_same p.fills p.count (record { slot = at; host = h }) no_fill f)
            (omega arith)
        go y d (no e) f =
            rw (get_or-set_other p.fills p.count y (record { slot = at; host = h }) no_fill e)
            (omega (arith, w.below y (omega (arith, d, e)), q.least))

    -- a receiver is left, and no slot is free
    pub walking_ended : slot_count ≤ at → Lacks free receivers n
    walking_ended l =
        record {
          looked_is = λ ss r. (placing_ended (reached ss any r) l).0;
          too_few = λ ss r. (placing_ended (reached ss any r) l).1;
        }

-- ---- what is to be filled, with room and without

module _ (free : List Bool) (receivers n : ℕ) (r : Result Unit Refusal) (p : Placed)
    (w : Outcome free receivers n r p)
  where
    pub count_few : p.count ≤ n
    unfolding Outcome
    count_few = ⊎_elim (λ x. x.1.few) (λ x. omega (arith, x.1.0)) w

    pub filled_few : (x : ℕ) → x < p.count → (get_or p.fills x no_fill).slot < slot_count
    unfolding Outcome
    filled_few x b = ⊎_elim (λ y. y.1.within x b) (λ y. absurd (omega (arith, b, y.1.0))) w
