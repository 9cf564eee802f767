-- What the parts of an event suppose and leave of a cell that runs, in the shape of the code. No
-- claim rests on it. Assumes nothing.
use Rattle.std.specs.Prelude.{ℕ, ◌≤◌, ◌<◌, ◌≡◌, ◌⊎◌, List, length, get_or, Option, Some, None}
use Rattle.std.specs.declared.result.Result.{Result}
use Rattle.base.specs.declared.Refusal.{Refusal}
use Rattle.base.specs.Answers.{answer_of}
use Rattle.quorum.specs.Sets.{members}
use Rattle.host.specs.declared.Sent.{Sent}
use Rattle.host.specs.declared.Step.{Step}
use Rattle.slots.specs.declared.Slot.{Slot}
use Rattle.slots.specs.Slots.{slot_count, empties, looked_for, placed_to, freed}
use Rattle.cell.specs.declared.Cell.{Cell}
use Rattle.cell.specs.declared.Event.{Event}
use Rattle.cell.specs.CellLimits.{with_host_at}
use Rattle.cell.specs.Claims.{Sound}
use Rattle.cell.specs.Events.{answered_with, with_slots, event_of}
use Rattle.placing.specs.Parts.{Frees, with_freed, no_fill, stored}
use Rattle.run.specs.declared.running.Running.{Running}

-- within its limits, with which slots are free
pub record Ready (x : Running) : Type 0 where
  pub sound : Sound x.cell
  pub frees : Frees x.cell.slots x.free

-- and no slot was looked at yet
pub record Fresh (x : Running) : Type 0 where
  pub ready : Ready x
  pub unlooked : x.placed.looked ≡ 0

-- places for what is sent can be looked for
pub record Room (x : Running) (f : Option ℕ) : Type 0 where
  pub few : x.cell.settings.n ≤ 9
  pub frees : Frees x.cell.slots x.free
  pub there : (i : ℕ) → f ≡ Some i → i < slot_count

-- the slots once one is freed, where one is
unfoldable pub freed_in : Option ℕ → List Slot → List Slot
freed_in None ss = ss
freed_in (Some i) ss = freed ss i

abbrev pub freed_of : Running → Option ℕ → Running
freed_of x f =
    record x { cell = with_slots x.cell (freed_in f x.cell.slots); free = with_freed f x.free }

-- slots were found, nine at most
pub record Found (x : Running) : Type 0 where
  pub frees : Frees x.cell.slots x.free
  pub few : x.placed.count ≤ 9
  pub within : (i : ℕ) → i < x.placed.count → (get_or x.placed.fills i no_fill).slot < slot_count

-- and hold what is sent
pub record Filled (x : Running) (sent : Sent) (y : Running) : Type 0 where
  pub cell : y.cell
      ≡ with_slots x.cell (stored x.placed.count x.placed.fills sent.message x.cell.slots)
  pub frees : Frees y.cell.slots y.free
  pub placed : y.placed ≡ x.placed

-- to whom what is sent goes, and to how many
unfoldable pub sent_receivers : Option Sent → ℕ
sent_receivers None = 0
sent_receivers (Some x) = x.receivers

abbrev pub sent_count : ℕ → Option Sent → ℕ
sent_count n o = length (members n (sent_receivers o))

-- the slots with what is sent
unfoldable pub sent_in : ℕ → List Slot → Option Sent → List Slot
sent_in n ss None = ss
sent_in n ss (Some x) = placed_to n ss x.message x.receivers

-- k messages have room in these slots, and the cell is another then; or 13, and it is the same
pub record Placing (c : Cell) (ss : List Slot) (k : ℕ) (after : Cell) (r : Result Unit Refusal)
    (y : Running) : Type 0 where
  pub looked : y.placed.looked ≡ looked_for k ss
  pub frees : Frees y.cell.slots y.free
  pub comes : ((r ≡ Result.Ok tt) × (k ≤ empties ss) × (y.cell ≡ after))
      ⊎ ((r ≡ Result.Err Refusal.Full) × (empties ss < k) × (y.cell ≡ c))

abbrev pub sent_slots : Cell → Option ℕ → Option Sent → List Slot
sent_slots c f o = sent_in c.settings.n (freed_in f c.slots) o

abbrev pub Sends : Cell → Option ℕ → Option Sent → Result Unit Refusal → Running → Type 0
Sends c f o r y =
    Placing c (freed_in f c.slots) (sent_count c.settings.n o) (with_slots c (sent_slots c f o)) r y

abbrev pub Carries : Cell → ℕ → Option ℕ → Step → Result Unit Refusal → Running → Type 0
Carries c h f p r y =
    Placing c (freed_in f c.slots) (sent_count c.settings.n p.sent)
    (with_slots (with_host_at c h p.host) (sent_slots c f p.sent)) r y

-- what a step of a host gives is refused, or carried out
unfoldable pub Stepping : Running → ℕ → Result Step Refusal → Result Unit Refusal → Running → Type 0
Stepping x h (Result.Ok p) r y = Carries x.cell h None p r y
Stepping x h (Result.Err k) r y = (r ≡ Result.Err k) × (y ≡ x)

-- there is no such host, or it takes a step that gives one of these
abbrev pub Steps : Running → ℕ → (Result Step Refusal → Type 0) → Result Unit Refusal → Running
    → Type 0
Steps x h gives r y =
    ((x.cell.settings.n ≤ h) × (r ≡ Result.Err Refusal.Host) × (y ≡ x))
    ⊎ ((h < x.cell.settings.n) × ((t : Result Step Refusal) × gives t × Stepping x h t r y))

-- an event is done to it, or refused
pub record Does (c : Cell) (e : Event) (r : Result Unit Refusal) (y : Running) : Type 0 where
  pub is : answered_with (answer_of r) y.placed.looked y.cell ≡ event_of c e
  pub ready : Ready y
