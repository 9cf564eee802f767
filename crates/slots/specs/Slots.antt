-- The messages under way: which slots are empty, the lowest of them, placing a message, how many
-- slots that looks at, and freeing a slot. Assumes nothing.
use Rattle.std.specs.Prelude.{ℕ, zero, suc, Bool, true, false, cond, ◌&&◌, not, List, [], ◌∷◌, ltb}
use Rattle.std.specs.Prelude.{leb, eqb, set, replicate, Option, Some, None}
use Rattle.base.specs.Refusals.{done, unless, refused_slot, refused_full}
use Rattle.base.specs.Lists.{every}
use Rattle.quorum.specs.Sets.{members}
use Rattle.message.specs.declared.Sizes.{Sizes}
use Rattle.message.specs.declared.Message.{Message}
use Rattle.message.specs.Message.{numbers_of, addressed_to}
use Rattle.message.specs.Faults.{fault_of}
use Rattle.slots.specs.declared.Slot.{Slot}

abbrev pub slot_count : ℕ
slot_count = 96

abbrev pub empty_slot : Slot
empty_slot = record { content = None }

abbrev pub slot_with : Message → Slot
slot_with m = record { content = Some m }

-- 'under way are 96 slots, all empty when the cell opens'
abbrev pub no_messages : List Slot
no_messages = replicate slot_count empty_slot

unfoldable pub is_empty : Option Message → Bool
is_empty None = true
is_empty (Some m) = false

-- ---- refusals

-- 1 where it does not hold: 'a slot holds a message that writing to its target would refuse'
unfoldable pub content_ok : Sizes → Option Message → Bool
content_ok z None = true
content_ok z (Some m) = eqb (fault_of z (numbers_of m)) done

abbrev pub slot_ok : Sizes → ℕ → Slot → Bool
slot_ok z i s = content_ok z s.content

unfoldable pub slots_ok : Sizes → List Slot → Bool
slots_ok z ss = every (slot_ok z) 0 ss

-- 12: 'slot 96 or more, or empty'
abbrev pub slot_refusal : ℕ → Option Message → ℕ
slot_refusal i content = unless (ltb i slot_count && not (is_empty content)) refused_slot

-- how many slots are empty
unfoldable pub empties : List Slot → ℕ
empties [] = 0
empties (s ∷ ss) = cond (is_empty s.content) (suc (empties ss)) (empties ss)

-- 13: 'fewer empty slots than messages to send', of k messages
abbrev pub full_refusal : ℕ → List Slot → ℕ
full_refusal k ss = unless (leb k (empties ss)) refused_full

-- ---- placing and freeing

-- the lowest empty slot; the number of slots where there is none
unfoldable pub lowest : List Slot → ℕ
lowest [] = 0
lowest (s ∷ ss) = cond (is_empty s.content) 0 (suc (lowest ss))

-- 'a message sent takes the lowest empty slot'
unfoldable pub placed : List Slot → Message → List Slot
placed ss m = set ss (lowest ss) (slot_with m)

-- to each of these hosts, in their order
unfoldable pub placed_each : List Slot → Message → List ℕ → List Slot
placed_each ss m [] = ss
placed_each ss m (h ∷ hs) = placed_each (placed ss (addressed_to m h)) m hs

-- 'receivers in rising order'
abbrev pub placed_to : ℕ → List Slot → Message → ℕ → List Slot
placed_to n ss m receivers = placed_each ss m (members n receivers)

-- how many slots a walk looks at that fills k empty ones (02): up to the last that it fills, none
-- for no message, and all of them where there are fewer than k
unfoldable pub looked_for : ℕ → List Slot → ℕ
looked_for zero ss = 0
looked_for (suc k) [] = 0
looked_for (suc k) (s ∷ ss) =
    suc (cond (is_empty s.content) (looked_for k ss) (looked_for (suc k) ss))

-- a slot is emptied: it then equals one that was never used
abbrev pub freed : List Slot → ℕ → List Slot
freed ss i = set ss i empty_slot
