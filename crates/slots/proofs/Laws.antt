-- Laws of the messages under way: what holds of each of them stays so when a slot is freed or a
-- message placed, the slots stay as many, and a filled one is left alone. Assumes nothing.
use Rattle.std.specs.Prelude.{Option, Some, None}
use mathlib.Core.Path.{◌≡◌, refl, ap, ◌∙◌}
use mathlib.Core.Bool.{Bool, true, false, cond}
use mathlib.Core.List.{List, [], ◌∷◌}
use Prim.Native.Nat.{ℕ, zero, suc, ◌≤◌, ◌<◌}
use native.Mathlib.Omega.{arith}
use lib.ListN.{length, get_or, set, length-set}
use lib.Seq.{get_or-set_other}
use borrow.Author.Tests.{eqb-true, eq-eqb}
use Rattle.base.specs.Refusals.{done}
use Rattle.base.specs.Lists.{All, every}
use Rattle.base.proofs.Lists.{all_map, all_set, all_at, all_same}
use Rattle.base.proofs.Tests.{true_false, both, by_test}
use Rattle.message.specs.declared.Sizes.{Sizes}
use Rattle.message.specs.declared.Message.{Message}
use Rattle.message.specs.Message.{numbers_of, addressed_to}
use Rattle.message.specs.Faults.{fault_of}
use Rattle.slots.specs.declared.Slot.{Slot}
use Rattle.slots.specs.Slots.{slot_count, empty_slot, slot_with, no_messages, is_empty, content_ok}
use Rattle.slots.specs.Slots.{slot_ok, slots_ok, empties, lowest, placed, placed_each, freed}
use Rattle.slots.specs.Claims.{Empty, Filled}

-- ---- as many slots

pub length_placed : (ss : List Slot) (m : Message) → length (placed ss m) ≡ length ss
unfolding placed
length_placed ss m = length-set ss (lowest ss) (slot_with m)

pub length_placed_each : (ss : List Slot) (m : Message) (hs : List ℕ)
    → length (placed_each ss m hs) ≡ length ss
unfolding placed_each
length_placed_each ss m [] = refl
length_placed_each ss m (h ∷ hs) = length_placed_each (placed ss (addressed_to m h)) m hs
    ∙ length_placed ss (addressed_to m h)

pub length_freed : (ss : List Slot) (i : ℕ) → length (freed ss i) ≡ length ss
length_freed ss i = length-set ss i empty_slot

-- a freed slot is counted as an empty one
pub freed_counts : (ss : List Slot) (i : ℕ) → i < length ss → 1 ≤ empties (freed ss i)
unfolding empties is_empty
freed_counts [] i h = absurd (omega arith)
freed_counts (s ∷ ss) zero h = omega arith
freed_counts (s ∷ ss) (suc i) h = go (is_empty s.content) (freed_counts ss i (omega arith))
  where
    go : (b : Bool) → 1 ≤ empties (freed ss i)
        → 1 ≤ cond b (suc (empties (freed ss i))) (empties (freed ss i))
    go true p = omega arith
    go false p = p

-- an empty slot that is filled is one empty slot less
pub filled_counts : (ss : List Slot) (i : ℕ) (m : Message) → i < length ss
    → is_empty (get_or ss i empty_slot).content ≡ true
    → suc (empties (set ss i (slot_with m))) ≡ empties ss
unfolding empties is_empty
filled_counts [] i m h e = absurd (omega arith)
filled_counts (s ∷ ss) zero m h e = rw e
filled_counts (s ∷ ss) (suc i) m h e =
    go (is_empty s.content) _ _ (filled_counts ss i m (omega arith) e)
  where
    go : (b : Bool) (x y : ℕ) → suc x ≡ y → suc (cond b (suc x) x) ≡ cond b (suc y) y
    go true x y q = omega (arith, q)
    go false x y q = q

-- where one is empty, the lowest of them is there, and is empty
pub lowest_is : (ss : List Slot) → 0 < empties ss → (lowest ss < length ss) × Empty ss (lowest ss)
unfolding empties lowest
lowest_is [] h = absurd (omega arith)
lowest_is (s ∷ ss) h = go (is_empty s.content) refl h (λ l. lowest_is ss l)
  where
    go : (b : Bool) → is_empty s.content ≡ b → 0 < cond b (suc (empties ss)) (empties ss)
        → (0 < empties ss → (lowest ss < length ss) × Empty ss (lowest ss))
        → (cond b 0 (suc (lowest ss)) < suc (length ss))
        × Empty (s ∷ ss) (cond b 0 (suc (lowest ss)))
    go true e l f = (omega arith, e)
    go false e l f = let p = f l in (omega (arith, p.0), p.1)

-- ---- a slot that holds a message is left alone by placing, to any receivers, and by freeing
-- another

-- the lowest empty slot holds no message
not_lowest : (ss : List Slot) (j : ℕ) → Filled ss j → j ≡ lowest ss → ⊥
unfolding lowest is_empty
not_lowest [] j f q = true_false f
not_lowest (s ∷ ss) zero f q = let n : 0 ≡ suc (lowest ss) = rw f at q in absurd (omega arith)
not_lowest (s ∷ ss) (suc j) f q =
    by_test (λ (k : ℕ). suc j ≡ k → ⊥) (is_empty s.content) 0 (suc (lowest ss))
    (λ _ e. omega (arith, e)) (λ _ e. not_lowest ss j f (omega (arith, e))) q

placed_leaves : (ss : List Slot) (m : Message) (j : ℕ) → Filled ss j
    → get_or (placed ss m) j empty_slot ≡ get_or ss j empty_slot
unfolding placed
placed_leaves ss m j f =
    get_or-set_other ss (lowest ss) j (slot_with m) empty_slot (not_lowest ss j f)

pub placed_each_leaves : (ss : List Slot) (m : Message) (hs : List ℕ) (j : ℕ) → Filled ss j
    → get_or (placed_each ss m hs) j empty_slot ≡ get_or ss j empty_slot
unfolding placed_each
placed_each_leaves ss m [] j f = refl
placed_each_leaves ss m (h ∷ hs) j f =
    let e = placed_leaves ss (addressed_to m h) j f in
    placed_each_leaves (placed ss (addressed_to m h)) m hs j
    (ap (λ (s : Slot). is_empty s.content) e ∙ f) ∙ e

pub freed_leaves : (ss : List Slot) (i j : ℕ) → (j ≡ i → ⊥)
    → get_or (freed ss i) j empty_slot ≡ get_or ss j empty_slot
freed_leaves ss i j d = get_or-set_other ss i j empty_slot empty_slot d

-- ---- what holds of each message under way

unfoldable pub Carries : (Message → Type 0) → Option Message → Type 0
Carries P None = Unit
Carries P (Some m) = P m

abbrev CarriedBy : (Message → Type 0) → Slot → Type 0
CarriedBy P s = Carries P s.content

unfoldable pub Holds : (Message → Type 0) → List Slot → Type 0
Holds P ss = All (CarriedBy P) ss

carries_map : (P Q : Message → Type 0) → ((m : Message) → P m → Q m) → (c : Option Message)
    → Carries P c → Carries Q c
unfolding Carries
carries_map P Q f None p = tt
carries_map P Q f (Some m) p = f m p

pub holds_map : (P Q : Message → Type 0) (ss : List Slot) → ((m : Message) → P m → Q m) → Holds P ss
    → Holds Q ss
unfolding Holds
holds_map P Q ss f p = all_map ss (λ s q. carries_map P Q f s.content q) p

pub holds_none : (P : Message → Type 0) → Holds P no_messages
unfolding Holds Carries
holds_none P = all_same (CarriedBy P) slot_count empty_slot tt

pub holds_freed : (P : Message → Type 0) (ss : List Slot) (i : ℕ) → Holds P ss
    → Holds P (freed ss i)
unfolding Holds Carries
holds_freed P ss i p = all_set (CarriedBy P) ss i empty_slot p tt

pub holds_placed : (P : Message → Type 0) (ss : List Slot) (m : Message) → Holds P ss → P m
    → Holds P (placed ss m)
unfolding Holds Carries placed
holds_placed P ss m p q = all_set (CarriedBy P) ss (lowest ss) (slot_with m) p q

pub holds_placed_each : (P : Message → Type 0) (ss : List Slot) (m : Message) (hs : List ℕ)
    → Holds P ss → All (λ h. P (addressed_to m h)) hs → Holds P (placed_each ss m hs)
unfolding placed_each All
holds_placed_each P ss m [] p q = p
holds_placed_each P ss m (h ∷ hs) p q =
    holds_placed_each P (placed ss (addressed_to m h)) m hs
    (holds_placed P ss (addressed_to m h) p q.0) q.1

carried : (P : Message → Type 0) (c : Option Message) (m : Message) → Carries P c → c ≡ Some m → P m
unfolding Carries
carried P c m p e = rw e at p

-- of the message in a slot
pub holds_at : (P : Message → Type 0) (ss : List Slot) (i : ℕ) (m : Message) → Holds P ss
    → (get_or ss i empty_slot).content ≡ Some m → P m
unfolding Holds Carries
holds_at P ss i m p e =
    carried P (get_or ss i empty_slot).content m (all_at (CarriedBy P) ss i empty_slot p tt) e

-- ---- slots within their limits: writing refuses no message under way

abbrev pub Sendable : Sizes → Message → Type 0
Sendable z m = fault_of z (numbers_of m) ≡ done

content_in_lem : (z : Sizes) (c : Option Message) → content_ok z c ≡ true → Carries (Sendable z) c
unfolding content_ok Carries
content_in_lem z None e = tt
content_in_lem z (Some m) e = eqb-true (fault_of z (numbers_of m)) done e

out_content : (z : Sizes) (c : Option Message) → Carries (Sendable z) c → content_ok z c ≡ true
unfolding content_ok Carries
out_content z None p = refl
out_content z (Some m) p = eq-eqb (fault_of z (numbers_of m)) done p

slots_from : (z : Sizes) (i : ℕ) (ss : List Slot) → every (slot_ok z) i ss ≡ true
    → Holds (Sendable z) ss
unfolding every Holds All
slots_from z i [] e = tt
slots_from z i (s ∷ ss) e =
    let p = both (content_ok z s.content) (every (slot_ok z) (suc i) ss) e in
    (content_in_lem z s.content p.0, slots_from z (suc i) ss p.1)

pub slots_in : (z : Sizes) (ss : List Slot) → slots_ok z ss ≡ true → Holds (Sendable z) ss
unfolding slots_ok
slots_in z ss e = slots_from z 0 ss e

out_from : (z : Sizes) (i : ℕ) (ss : List Slot) → Holds (Sendable z) ss
    → every (slot_ok z) i ss ≡ true
unfolding every Holds All
out_from z i [] p = refl
out_from z i (s ∷ ss) p = rw (out_content z s.content p.0) (out_from z (suc i) ss p.1)

pub out_slots : (z : Sizes) (ss : List Slot) → Holds (Sendable z) ss → slots_ok z ss ≡ true
unfolding slots_ok
out_slots z ss p = out_from z 0 ss p
