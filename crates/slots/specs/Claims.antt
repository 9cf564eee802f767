-- What is claimed of the walk that places, for every list of slots: how many it looks at, in the
-- words of document 02. proofs/Claims.antt proves it. Assumes nothing.
use Rattle.std.specs.Prelude.{◌≡◌, true, false, List, ℕ, suc, ◌+◌, ◌≤◌, ◌<◌, length, get_or}
use Rattle.message.specs.declared.Message.{Message}
use Rattle.slots.specs.declared.Slot.{Slot}
use Rattle.slots.specs.Slots.{empty_slot, is_empty, empties, lowest, placed_each, looked_for}

abbrev pub slot_at : List Slot → ℕ → Slot
slot_at ss i = get_or ss i empty_slot

abbrev pub Empty : List Slot → ℕ → Type 0
Empty ss i = is_empty (slot_at ss i).content ≡ true

abbrev pub Filled : List Slot → ℕ → Type 0
Filled ss i = is_empty (slot_at ss i).content ≡ false

-- how many slots a walk looked at, with the slots before and after it
pub record FilledUpTo (looked : ℕ) (before after : List Slot) : Type 0 where
  -- 'one past the last it filled': slot looked - 1 was empty, and is filled,
  pub last : (i : ℕ) → looked ≡ suc i → Empty before i × Filled after i
  -- and from slot looked on every slot is what it was
  pub past : (i : ℕ) → looked ≤ i → slot_at after i ≡ slot_at before i
  -- with 0, all are what they were
  pub none : looked ≡ 0 → after ≡ before

pub record Claims : Type 0 where
  -- '0 with nothing to place', also when every slot is full
  pub nothing : (ss : List Slot) → looked_for 0 ss ≡ 0
  -- 'one past the last it filled': that is the lowest slot that is empty once all but the last
  -- message are placed
  pub last : (ss : List Slot) (m : Message) (hs : List ℕ) → length hs < empties ss
      → looked_for (suc (length hs)) ss ≡ suc (lowest (placed_each ss m hs))
  -- the same, by the slots before and after
  pub filled : (ss : List Slot) (m : Message) (hs : List ℕ) → length hs ≤ empties ss
      → FilledUpTo (looked_for (length hs) ss) ss (placed_each ss m hs)
  -- as many slots are filled as there are messages
  pub as_many : (ss : List Slot) (m : Message) (hs : List ℕ) → length hs ≤ empties ss
      → length hs + empties (placed_each ss m hs) ≡ empties ss
  -- '96 when it ends in 13': all slots, where fewer are empty than there are messages to place
  pub full : (ss : List Slot) (k : ℕ) → empties ss < k → looked_for k ss ≡ length ss
