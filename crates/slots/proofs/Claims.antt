-- The claims of specs/Claims.antt, proved. Assumes nothing.
use mathlib.Core.Path.{◌≡◌, refl, sym, ap, ◌∙◌}
use mathlib.Core.Bool.{Bool, true, false, cond}
use mathlib.Core.List.{List, [], ◌∷◌}
use Prim.Native.Nat.{ℕ, zero, suc, ◌+◌, ◌≤◌, ◌<◌}
use native.Mathlib.Decide.{dec_lt}
use native.Mathlib.Omega.{arith}
use lib.ListN.{length, set}
use lib.Seq.{get_or-set_same, get_or-set_other}
use Rattle.base.proofs.Tests.{true_false}
use Rattle.message.specs.declared.Message.{Message}
use Rattle.message.specs.Message.{addressed_to}
use Rattle.slots.specs.declared.Slot.{Slot}
use Rattle.slots.specs.Slots.{empty_slot, slot_with, is_empty, empties, lowest, placed}
use Rattle.slots.specs.Slots.{placed_each, looked_for}
use Rattle.slots.specs.Claims.{Empty, FilledUpTo, Claims}
use Rattle.slots.proofs.Laws.{filled_counts, lowest_is}

pub nothing : (ss : List Slot) → looked_for 0 ss ≡ 0
unfolding looked_for
nothing ss = refl

-- the first message goes into the lowest empty slot
first : (ss : List Slot) → 0 < empties ss → looked_for 1 ss ≡ suc (lowest ss)
unfolding looked_for empties lowest
first [] h = absurd (omega arith)
first (s ∷ ss) h = go (is_empty s.content) h (λ l. first ss l)
  where
    go : (b : Bool) → 0 < cond b (suc (empties ss)) (empties ss)
        → (0 < empties ss → looked_for 1 ss ≡ suc (lowest ss))
        → suc (cond b (looked_for 0 ss) (looked_for 1 ss)) ≡ suc (cond b 0 (suc (lowest ss)))
    go true l f = refl
    go false l f = ap suc (f l)

-- once it is placed, the others are looked for from slot 0 on to the same end
after_first : (ss : List Slot) (m : Message) (k : ℕ) → 0 < empties ss
    → looked_for (suc (suc k)) ss ≡ looked_for (suc k) (placed ss m)
unfolding looked_for empties lowest placed is_empty
after_first [] m k h = absurd (omega arith)
after_first (s ∷ ss) m k h = go (is_empty s.content) refl h (λ l. after_first ss m k l)
  where
    go : (b : Bool) → is_empty s.content ≡ b → 0 < cond b (suc (empties ss)) (empties ss)
        → (0 < empties ss → looked_for (suc (suc k)) ss ≡ looked_for (suc k) (placed ss m))
        → suc (cond b (looked_for (suc k) ss) (looked_for (suc (suc k)) ss))
        ≡ looked_for (suc k) (set (s ∷ ss) (cond b 0 (suc (lowest ss))) (slot_with m))
    go true e l f = refl
    go false e l f = rw e (ap suc (f l))

-- and one empty slot less is left
one_less : (ss : List Slot) (m : Message) → 0 < empties ss
    → suc (empties (placed ss m)) ≡ empties ss
unfolding placed
one_less ss m h = let p = lowest_is ss h in filled_counts ss (lowest ss) m p.0 p.1

last : (ss : List Slot) (m : Message) (hs : List ℕ) → length hs < empties ss
    → looked_for (suc (length hs)) ss ≡ suc (lowest (placed_each ss m hs))
unfolding placed_each
last ss m [] h = first ss h
last ss m (k ∷ hs) h =
    let x = addressed_to m k in
    let some : 0 < empties ss = omega arith in
    after_first ss x (length hs) some
    ∙ last (placed ss x) m hs (omega (arith, one_less ss x some))

as_many : (ss : List Slot) (m : Message) (hs : List ℕ) → length hs ≤ empties ss
    → length hs + empties (placed_each ss m hs) ≡ empties ss
unfolding placed_each
as_many ss m [] h = omega arith
as_many ss m (k ∷ hs) h =
    let x = addressed_to m k in
    let less = one_less ss x (omega arith) in
    omega (arith, less, as_many (placed ss x) m hs (omega (arith, less)))

-- ---- the slots before and after

-- with nothing to place
pub filled_none : (ss : List Slot) → FilledUpTo 0 ss ss
filled_none ss =
    record { last = λ i e. absurd (omega (arith, e)); past = λ _ _. refl; none = λ _. refl }

-- one message goes into the lowest empty slot
pub filled_one : (ss : List Slot) (m : Message) → 0 < empties ss
    → FilledUpTo (looked_for 1 ss) ss (placed ss m)
unfolding placed is_empty
filled_one ss m h =
    let p = lowest_is ss h in
    rw (first ss h)
    (record {
      last = λ i e.
          let q : i ≡ lowest ss = omega (arith, e) in
          rw q (
            p.1,
            ap (λ (s : Slot). is_empty s.content)
                (get_or-set_same ss (lowest ss) (slot_with m) empty_slot p.0),
          );
      past = λ i b.
          get_or-set_other ss (lowest ss) i (slot_with m) empty_slot
          (λ e. absurd (omega (arith, b, e)));
      none = λ e. absurd (omega (arith, e));
    })

-- one walk and then another that looks no less far
then : (k l : ℕ) (ss ts us : List Slot) → k ≤ l → FilledUpTo k ss ts → FilledUpTo l ts us
    → FilledUpTo l ss us
then k l ss ts us b p q = record {
  last = λ i e. (go i e (dec_lt i k), (q.last i e).1);
  past = λ i d. q.past i d ∙ p.past i (omega (arith, b, d));
  none = λ e. q.none e ∙ p.none (omega (arith, b, e));
}
  where
    go : (i : ℕ) → l ≡ suc i → Dec (i < k) → Empty ss i
    go i e (yes d) =
        true_false (sym (q.last i e).0 ∙ (p.last i (omega (arith, b, d, e))).1)
    go i e (no d) =
        ap (λ (s : Slot). is_empty s.content) (sym (p.past i (omega (arith, d))))
        ∙ (q.last i e).0

-- for more messages than one a walk looks no less far
no_less : (ss : List Slot) (k : ℕ) → looked_for 1 ss ≤ looked_for (suc k) ss
unfolding looked_for
no_less [] k = omega arith
no_less (s ∷ ss) k = go (is_empty s.content) (no_less ss k)
  where
    go : (b : Bool) → looked_for 1 ss ≤ looked_for (suc k) ss
        → suc (cond b (looked_for 0 ss) (looked_for 1 ss))
        ≤ suc (cond b (looked_for k ss) (looked_for (suc k) ss))
    go true l = omega arith
    go false l = omega (arith, l)

pub filled : (ss : List Slot) (m : Message) (hs : List ℕ) → length hs ≤ empties ss
    → FilledUpTo (looked_for (length hs) ss) ss (placed_each ss m hs)
unfolding placed_each
filled ss m [] h = rw (nothing ss) (filled_none ss)
filled ss m (k ∷ []) h = filled_one ss (addressed_to m k) h
filled ss m (k ∷ j ∷ hs) h =
    let x = addressed_to m k in
    let some : 0 < empties ss = omega arith in
    let same = after_first ss x (length hs) some in
    rw same
    (then (looked_for 1 ss) _ ss (placed ss x) _
    (omega (arith, same, no_less ss (suc (length hs)))) (filled_one ss x some)
    (filled (placed ss x) m (j ∷ hs) (omega (arith, h, one_less ss x some))))

-- ---- where too few are empty

pub full : (ss : List Slot) (k : ℕ) → empties ss < k → looked_for k ss ≡ length ss
unfolding looked_for empties
full ss zero h = absurd (omega arith)
full [] (suc k) h = refl
full (s ∷ ss) (suc k) h = go (is_empty s.content) h (λ l. full ss k l) (λ l. full ss (suc k) l)
  where
    go : (b : Bool) → cond b (suc (empties ss)) (empties ss) < suc k
        → (empties ss < k → looked_for k ss ≡ length ss)
        → (empties ss < suc k → looked_for (suc k) ss ≡ length ss)
        → suc (cond b (looked_for k ss) (looked_for (suc k) ss)) ≡ suc (length ss)
    go true l f g = ap suc (f (omega arith))
    go false l f g = ap suc (g (omega arith))

pub claims : Claims
claims = record {
  nothing = nothing;
  last = last;
  filled = filled;
  as_many = as_many;
  full = full;
}
