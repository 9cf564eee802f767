-- Opening and the eight events, in document 01's order, with document 02's release: what is refused
-- and what is done, apart, and how many slots were looked at. The host's part of each is the rule
-- book's. Assumes nothing.
use Rattle.std.specs.Prelude.{ℕ, cond, ◌||◌, List, [], ◌∷◌, ltb, leb, eqb, Option, Some, None}
use Rattle.base.specs.Refusals.{done, unless, first_of, test, Refusal, refusal, answer_by}
use Rattle.base.specs.Refusals.{refused_cell, refused_host, refused_tick, refused_full}
use Rattle.base.specs.Refusals.{refused_spread}
use Rattle.quorum.specs.Sets.{size_of}
use Rattle.message.specs.declared.Message.{Message}
use Rattle.message.specs.Message.{last_tick, target_of}
use Rattle.state.specs.declared.Settings.{Settings}
use Rattle.state.specs.StateLimits.{OpeningField, opening_clock, settings_tests}
use Rattle.host.specs.Stepped.{Stepped}
use Rattle.host.specs.Steps.{advance_refusal, advanced_host, restart_refusal, restarted_host}
use Rattle.host.specs.Steps.{start_refusal, on_start, release_refusal, on_release, on_delivery}
use Rattle.places.specs.Places.{new_hosts, advances_refusal, advanced_hosts}
use Rattle.slots.specs.declared.Slot.{Slot}
use Rattle.slots.specs.Slots.{no_messages, slot_refusal, full_refusal, placed, placed_to}
use Rattle.slots.specs.Slots.{looked_for}
use Rattle.slots.specs.Slots.{freed}
use Rattle.cell.specs.declared.Cell.{Cell}
use Rattle.cell.specs.declared.Event.{Event}
use Rattle.cell.specs.declared.Event.TheVariants.{AdvanceAll, AdvanceOne, Start, Deliver}
use Rattle.cell.specs.declared.Event.TheVariants.{Lose, Repeat, Restart, Release}
use Rattle.cell.specs.Answered.{Answered}
use Rattle.cell.specs.CellLimits.{host_at, with_host_at, content_at, clocks_near, cell_ok}

-- ---- parts of an event

-- an answer, how many slots were looked at, and a cell
abbrev pub answered_with : ℕ → ℕ → Cell → Answered
answered_with a k c =
    record {
      answer = a;
      looked = k;
      settings = c.settings;
      hosts = c.hosts;
      slots = c.slots;
    }

-- the cell beside an answer
abbrev pub cell_of : Answered → Cell
cell_of a = record { settings = a.settings; hosts = a.hosts; slots = a.slots }

-- what was done where nothing was refused, else what was handed in with the refusal's number
abbrev pub answer_with : ℕ → ℕ → Cell → Cell → Answered
answer_with a k c after = cond (eqb a done) (answered_with done k after) (answered_with a k c)

abbrev pub with_slots : Cell → List Slot → Cell
with_slots c ss = record { settings = c.settings; hosts = c.hosts; slots = ss }

-- 5: 'a host number of n or more'
abbrev pub host_refusal : Cell → ℕ → ℕ
host_refusal c h = unless (ltb h c.settings.n) refused_host

-- how many messages a step sends: one to each of its receivers, all of them below n
unfoldable pub messages_in : Option Message → ℕ → ℕ
messages_in None receivers = 0
messages_in (Some m) receivers = size_of receivers

-- 13, for what a step sends
abbrev pub step_full : List Slot → Stepped → ℕ
step_full ss step = full_refusal (messages_in step.sent step.receivers) ss

-- how many slots are looked at to place what a step sends
abbrev pub step_looked : List Slot → Stepped → ℕ
step_looked ss step = looked_for (messages_in step.sent step.receivers) ss

-- the slots with what a step sends
unfoldable pub sent_to : ℕ → List Slot → Option Message → ℕ → List Slot
sent_to n ss None receivers = ss
sent_to n ss (Some m) receivers = placed_to n ss m receivers

-- a host's step carried into the cell, with these slots
unfoldable pub stepped : Cell → ℕ → List Slot → Stepped → Cell
stepped c h ss step =
    with_slots (with_host_at c h step.host)
    (sent_to c.settings.n ss step.sent step.receivers)

-- ---- opening: 1, 6

abbrev pub opening_refusals : Settings → ℕ → List (Refusal OpeningField)
opening_refusals s clock =
    refusal refused_cell (settings_tests s)
    ∷ refusal refused_tick (test opening_clock (leb clock last_tick) ∷ []) ∷ []

unfoldable pub opening_refusal : Settings → ℕ → ℕ
opening_refusal s clock = answer_by (opening_refusals s clock)

-- 'sets every clock to one given tick, and every host waits as after a restart'
unfoldable pub opened_with : Settings → ℕ → Cell
opened_with s clock = record { settings = s; hosts = new_hosts s clock; slots = no_messages }

-- 'a refused opening hands back the cell opened with n 1, T 1, S 0, clock 0'
abbrev pub least_settings : Settings
least_settings = record { n = 1; longest = 1; spread = 0 }

unfoldable pub opening_of : Settings → ℕ → Answered
opening_of s clock =
    answer_with (opening_refusal s clock) 0 (opened_with least_settings 0) (opened_with s clock)

-- ---- advance all by d: 1, 15

-- the first refusal of a host
abbrev pub hosts_refusal : Cell → ℕ → ℕ
hosts_refusal c d = advances_refusal c.settings c.hosts d

unfoldable pub advance_all_refusal : Cell → ℕ → ℕ
advance_all_refusal c d = first_of (unless (cell_ok c) refused_cell ∷ hosts_refusal c d ∷ [])

unfoldable pub advanced_all : Cell → ℕ → Cell
advanced_all c d =
    record {
      settings = c.settings;
      hosts = advanced_hosts c.settings c.hosts d;
      slots = c.slots;
    }

-- ---- advance one by d: 1, 5, 15, 14

unfoldable pub advanced_one : Cell → ℕ → ℕ → Cell
advanced_one c h d = with_host_at c h (advanced_host (host_at c h) d)

unfoldable pub advance_one_refusal : Cell → ℕ → ℕ → ℕ
advance_one_refusal c h d =
    first_of (
    unless (cell_ok c) refused_cell
    ∷ host_refusal c h
    ∷ advance_refusal c.settings (host_at c h) d
    ∷ unless (clocks_near (advanced_one c h d)) refused_spread
    ∷ []
    )

-- ---- a host's own step: 1, 5, then what the host refuses it by, then 13 for what it sends

abbrev pub step_at_refusal : Cell → ℕ → ℕ → Stepped → ℕ
step_at_refusal c h k step =
    first_of (
    unless (cell_ok c) refused_cell
    ∷ host_refusal c h
    ∷ k
    ∷ step_full c.slots step
    ∷ []
    )

-- ---- start at a host: the host's own are 9, 11, 10

abbrev pub start_step : Cell → ℕ → ℕ → Stepped
start_step c h d = on_start c.settings (host_at c h) d

unfoldable pub start_at_refusal : Cell → ℕ → ℕ → ℕ
start_at_refusal c h d =
    step_at_refusal c h (start_refusal c.settings (host_at c h) d) (start_step c h d)

-- ---- deliver a slot: 1, 12, 13, 'counting the freed slot as empty'

abbrev pub deliver_step : Cell → Message → Stepped
deliver_step c m = on_delivery c.settings (host_at c (target_of m)) m

-- a delivery's slots, for 13 and for the walk that places
abbrev pub counted_for : Cell → ℕ → List Slot
counted_for c i = freed c.slots i

unfoldable pub deliver_full : Cell → ℕ → Option Message → ℕ
deliver_full c i None = done
deliver_full c i (Some m) = step_full (counted_for c i) (deliver_step c m)

-- the slot that a delivery frees is empty for the walk
unfoldable pub deliver_looked : Cell → ℕ → Option Message → ℕ
deliver_looked c i None = 0
deliver_looked c i (Some m) = step_looked (counted_for c i) (deliver_step c m)

unfoldable pub deliver_refusal : Cell → ℕ → ℕ
deliver_refusal c i =
    first_of (
    unless (cell_ok c) refused_cell
    ∷ slot_refusal i (content_at c i)
    ∷ deliver_full c i (content_at c i)
    ∷ []
    )

-- 'empties the slot, then the receiver acts'
unfoldable pub delivered : Cell → ℕ → Option Message → Cell
delivered c i None = c
delivered c i (Some m) = stepped c (target_of m) (freed c.slots i) (deliver_step c m)

-- ---- lose a slot: 1, 12

unfoldable pub lose_refusal : Cell → ℕ → ℕ
lose_refusal c i = first_of (unless (cell_ok c) refused_cell ∷ slot_refusal i (content_at c i) ∷ [])

-- ---- repeat a slot: 1, 12, 13

unfoldable pub repeat_refusal : Cell → ℕ → ℕ
repeat_refusal c i =
    first_of (
    unless (cell_ok c) refused_cell
    ∷ slot_refusal i (content_at c i)
    ∷ full_refusal 1 c.slots
    ∷ []
    )

-- 'copies a slot's message into the lowest empty slot'
unfoldable pub repeated : Cell → Option Message → Cell
repeated c None = c
repeated c (Some m) = with_slots c (placed c.slots m)

-- ---- restart a host: 1, 5

unfoldable pub restart_at_refusal : Cell → ℕ → ℕ
restart_at_refusal c h =
    first_of (
    unless (cell_ok c) refused_cell
    ∷ host_refusal c h
    ∷ restart_refusal c.settings (host_at c h)
    ∷ []
    )

-- ---- release at a host (02): the host's own are 9, 18, 10

abbrev pub release_step : Cell → ℕ → Stepped
release_step c h = on_release c.settings (host_at c h)

unfoldable pub release_at_refusal : Cell → ℕ → ℕ
release_at_refusal c h =
    step_at_refusal c h (release_refusal c.settings (host_at c h)) (release_step c h)

-- ---- any event: the number that it is refused by, and the cell where nothing is refused

unfoldable pub refusal_of : Cell → Event → ℕ
refusal_of c (AdvanceAll d) = advance_all_refusal c d
refusal_of c (AdvanceOne h d) = advance_one_refusal c h d
refusal_of c (Start h d) = start_at_refusal c h d
refusal_of c (Deliver i) = deliver_refusal c i
refusal_of c (Lose i) = lose_refusal c i
refusal_of c (Repeat i) = repeat_refusal c i
refusal_of c (Restart h) = restart_at_refusal c h
refusal_of c (Release h) = release_at_refusal c h

unfoldable pub after_of : Cell → Event → Cell
after_of c (AdvanceAll d) = advanced_all c d
after_of c (AdvanceOne h d) = advanced_one c h d
after_of c (Start h d) = stepped c h c.slots (start_step c h d)
after_of c (Deliver i) = delivered c i (content_at c i)
after_of c (Lose i) = with_slots c (freed c.slots i)
after_of c (Repeat i) = repeated c (content_at c i)
after_of c (Restart h) = with_host_at c h (restarted_host c.settings (host_at c h))
after_of c (Release h) = stepped c h c.slots (release_step c h)

-- how many slots an event looks at to place what it sends, where it gets so far (02)
unfoldable pub placing_of : Cell → Event → ℕ
placing_of c (AdvanceAll d) = 0
placing_of c (AdvanceOne h d) = 0
placing_of c (Start h d) = step_looked c.slots (start_step c h d)
placing_of c (Deliver i) = deliver_looked c i (content_at c i)
placing_of c (Lose i) = 0
placing_of c (Repeat i) = looked_for 1 c.slots
placing_of c (Restart h) = 0
placing_of c (Release h) = step_looked c.slots (release_step c h)

-- it gets so far unless a number other than 13 refuses it
abbrev pub count_with : ℕ → ℕ → ℕ
count_with a k = cond (eqb a done || eqb a refused_full) k 0

unfoldable pub looked_of : Cell → Event → ℕ
looked_of c e = count_with (refusal_of c e) (placing_of c e)

-- a refused event changes nothing
unfoldable pub event_of : Cell → Event → Answered
event_of c e = answer_with (refusal_of c e) (looked_of c e) c (after_of c e)
