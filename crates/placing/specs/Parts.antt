-- The walk that places, as the code has it: over a list that says which slots are free. It gives
-- the slots to fill and their receivers. No claim rests on it: each fact is said of every list of
-- slots that are free so. Assumes nothing.
use Rattle.std.specs.Prelude.{ℕ, zero, suc, ◌+◌, ◌≤◌, ◌<◌, ◌≡◌, Bool, true, false, ◌&&◌, not}
use Rattle.std.specs.Prelude.{◌⊎◌, List, leb, length, get_or, set, replicate, Option, Some, None}
use Rattle.std.specs.declared.result.Result.{Result}
use Rattle.base.specs.declared.Refusal.{Refusal}
use Rattle.quorum.specs.Sets.{members}
use Rattle.message.specs.declared.Message.{Message}
use Rattle.message.specs.Message.{addressed_to}
use Rattle.slots.specs.declared.Slot.{Slot}
use Rattle.slots.specs.Slots.{slot_count, empty_slot, slot_with, is_empty, placed_each, looked_for}
use Rattle.slots.specs.Slots.{empties}
use Rattle.placing.specs.declared.Fill.{Fill}
use Rattle.placing.specs.declared.Placed.{Placed}

-- these slots are free so
pub record Frees (ss : List Slot) (free : List Bool) : Type 0 where
  pub slots : length ss ≡ slot_count
  pub many : length free ≡ slot_count
  pub empty : (i : ℕ) → i < slot_count
      → get_or free i false ≡ is_empty (get_or ss i empty_slot).content

-- the slot that an event frees, if it frees one, is free too; past the last there is none to free
unfoldable pub with_freed : Option ℕ → List Bool → List Bool
with_freed None free = free
with_freed (Some i) free = set free i true

-- the k slots from j on are taken
unfoldable pub taken_from : ℕ → List Bool → ℕ → Bool
taken_from zero free j = true
taken_from (suc k) free j = taken_from k free j && not (get_or free (j + k) false)

-- there are eight slots from j on, and they are taken
unfoldable pub eight_taken : List Bool → ℕ → Bool
eight_taken free j = leb (j + 8) slot_count && taken_from 8 free j

-- the slots from one on up to another are taken
pub record Passed (free : List Bool) (from r : ℕ) : Type 0 where
  pub least : from ≤ r
  pub most : r ≤ slot_count
  pub taken : (x : ℕ) → from ≤ x → x < r → get_or free x false ≡ false

-- and that one is free
pub record FreeAfter (free : List Bool) (from r : ℕ) : Type 0 where
  pub passed : Passed free from r
  pub within : r < slot_count
  pub here : get_or free r false ≡ true

-- the first one that is free, where one is
unfoldable pub NextFree : List Bool → ℕ → Option ℕ → Type 0
NextFree free from None = Passed free from slot_count
NextFree free from (Some r) = FreeAfter free from r

abbrev pub no_fill : Fill
no_fill = record { slot = 0; host = 0 }

abbrev pub nothing_placed : Placed
nothing_placed = record { fills = replicate 9 no_fill; count = 0; looked = 0 }

-- one slot more is to be filled
abbrev pub pushed : Placed → Fill → Placed
pushed p f = record p { fills = set p.fills p.count f; count = p.count + 1 }

-- the first k of these slots filled, each with the message to its receiver
unfoldable pub stored : ℕ → List Fill → Message → List Slot → List Slot
stored zero fills m ss = ss
stored (suc k) fills m ss =
    let f = get_or fills k no_fill in
    set (stored k fills m ss) f.slot (slot_with (addressed_to m f.host))

-- there is room: these slots are to be filled
pub record Fills (free : List Bool) (receivers n : ℕ) (p : Placed) : Type 0 where
  pub few : p.count ≤ n
  pub within : (x : ℕ) → x < p.count → (get_or p.fills x no_fill).slot < slot_count
  pub placed_is : (ss : List Slot) (m : Message) → Frees ss free
      → stored p.count p.fills m ss ≡ placed_each ss m (members n receivers)
  pub looked_is : (ss : List Slot) → Frees ss free
      → p.looked ≡ looked_for (length (members n receivers)) ss
  pub enough : (ss : List Slot) → Frees ss free → length (members n receivers) ≤ empties ss

-- there is none
pub record Lacks (free : List Bool) (receivers n : ℕ) : Type 0 where
  pub looked_is : (ss : List Slot) → Frees ss free
      → slot_count ≡ looked_for (length (members n receivers)) ss
  pub too_few : (ss : List Slot) → Frees ss free → empties ss < length (members n receivers)

-- what a walk over these finds: room, or 13, with nothing to be filled and every slot looked at
unfoldable pub Outcome : List Bool → ℕ → ℕ → Result Unit Refusal → Placed → Type 0
Outcome free receivers n r p =
    ((r ≡ Result.Ok tt) × Fills free receivers n p)
    ⊎ ((r ≡ Result.Err Refusal.Full) × ((p.count ≡ 0) × ((p.looked ≡ slot_count)
    × Lacks free receivers n)))
