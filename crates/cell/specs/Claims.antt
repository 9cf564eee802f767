-- What is claimed of opening and of one event, for every cell, in one place; proofs/Claims.antt
-- proves it. What holds of whole runs is claimed in the crate `agreement`. Assumes nothing.
use Rattle.std.specs.Prelude.{ℕ, ◌≡◌, true, List, length}
use Rattle.base.specs.Refusals.{done, refused_full}
use Rattle.state.specs.declared.Settings.{Settings}
use Rattle.slots.specs.declared.Slot.{Slot}
use Rattle.slots.specs.Slots.{slot_count, freed}
use Rattle.slots.specs.Claims.{FilledUpTo}
use Rattle.cell.specs.declared.Cell.{Cell}
use Rattle.cell.specs.declared.Event.{Event}
use Rattle.cell.specs.declared.Event.TheVariants.{AdvanceAll, AdvanceOne, Start, Deliver}
use Rattle.cell.specs.declared.Event.TheVariants.{Lose, Repeat, Restart, Release}
use Rattle.cell.specs.CellLimits.{cell_ok}
use Rattle.cell.specs.Events.{cell_of, refusal_of, event_of}
use Rattle.cell.specs.Runs.{opening}

-- nine places and 96 slots
pub record Sized (c : Cell) : Type 0 where
  pub hosts : length c.hosts ≡ 9
  pub slots : length c.slots ≡ 96

-- a cell of these sizes, within its limits
abbrev pub Sound : Cell → Type 0
Sound c = Sized c × (cell_ok c ≡ true)

-- the slots that an event places into: the one that it frees is empty by then
unfoldable pub slots_found : Cell → Event → List Slot
slots_found c (AdvanceAll d) = c.slots
slots_found c (AdvanceOne h d) = c.slots
slots_found c (Start h d) = c.slots
slots_found c (Deliver i) = freed c.slots i
slots_found c (Lose i) = freed c.slots i
slots_found c (Repeat i) = c.slots
slots_found c (Restart h) = c.slots
slots_found c (Release h) = c.slots

pub record Claims : Type 0 where
  -- what opening hands back is within its limits, whatever it is handed
  pub opened : (s : Settings) (clock : ℕ) → Sound (opening s clock)
  -- an event leaves a cell that is within its limits within them
  pub kept : (c : Cell) (e : Event) → Sound c → Sound (cell_of (event_of c e))
  -- its answer is the refusal's number, or 0
  pub number : (c : Cell) (e : Event) → (event_of c e).answer ≡ refusal_of c e
  -- a refused event hands back the same cell
  pub unchanged : (c : Cell) (e : Event) → ((event_of c e).answer ≡ done → ⊥)
      → cell_of (event_of c e) ≡ c
  -- the settings stay
  pub settings : (c : Cell) (e : Event) → (event_of c e).settings ≡ c.settings
  -- where it is done, the slots looked at are those up to the last that it filled
  pub filled : (c : Cell) (e : Event) → (event_of c e).answer ≡ done
      → FilledUpTo (event_of c e).looked (slots_found c e) (event_of c e).slots
  -- 0 slots are looked at where anything but 13 refuses it, and all 96 where 13 does
  pub unlooked : (c : Cell) (e : Event) → ((event_of c e).answer ≡ done → ⊥)
      → ((event_of c e).answer ≡ refused_full → ⊥) → (event_of c e).looked ≡ 0
  pub all_looked : (c : Cell) (e : Event) → Sized c → (event_of c e).answer ≡ refused_full
      → (event_of c e).looked ≡ slot_count
