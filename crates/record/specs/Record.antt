-- The records of a run file: their kinds and lengths, what is refused in one and where, and what it
-- says. A record begins as a frame does, with its length and its kind. Assumes nothing.
use Rattle.std.specs.Prelude.{ℕ, ◌+◌, ◌-◌, Bool, true, false, cond, ◌&&◌, List, [], ◌∷◌, ◌++◌}
use Rattle.std.specs.Prelude.{length, get_or, take, ltb, leb, eqb}
use Rattle.base.specs.Refusals.{done, test, Refusal, refusal, answer_by, place_by}
use Rattle.base.specs.Refusals.{refused_cut, refused_kind}
use Rattle.wire.specs.Wire.{number_at, total, numbers_at}
use Rattle.message.specs.Faults.{Field, lent_bytes, frame_length, kind_number}
use Rattle.layout.specs.Layout.{width_of, place_in, length_offset, kind_offset, fore_length}
use Rattle.layout.specs.Layout.{length_refusals}
use Rattle.state.specs.declared.Settings.{Settings}
use Rattle.state.specs.StateLimits.{OpeningField, host_count, longest_lease, clock_spread}
use Rattle.state.specs.StateLimits.{opening_clock}
use Rattle.cell.specs.declared.Event.{Event}
use Rattle.cell.specs.declared.Event.TheVariants.{AdvanceAll, AdvanceOne, Start, Deliver}
use Rattle.cell.specs.declared.Event.TheVariants.{Lose, Repeat, Restart, Release}
use Rattle.cell.specs.Events.{opening_refusals}
use Rattle.record.specs.Read.{Head, Record, First}

-- ---- kinds

abbrev pub settings_kind : ℕ
settings_kind = 100

abbrev pub advance_all_kind : ℕ
advance_all_kind = 101

abbrev pub advance_one_kind : ℕ
advance_one_kind = 102

abbrev pub start_kind : ℕ
start_kind = 103

abbrev pub deliver_kind : ℕ
deliver_kind = 104

abbrev pub lose_kind : ℕ
lose_kind = 105

abbrev pub repeat_kind : ℕ
repeat_kind = 106

abbrev pub restart_kind : ℕ
restart_kind = 107

abbrev pub release_kind : ℕ
release_kind = 108

-- the kind of an event's record
unfoldable pub kind_of : Event → ℕ
kind_of (AdvanceAll d) = advance_all_kind
kind_of (AdvanceOne h d) = advance_one_kind
kind_of (Start h d) = start_kind
kind_of (Deliver i) = deliver_kind
kind_of (Lose i) = lose_kind
kind_of (Repeat i) = repeat_kind
kind_of (Restart h) = restart_kind
kind_of (Release h) = release_kind

-- settings stand first, and only there; events after them
abbrev pub is_allowed : Bool → ℕ → Bool
is_allowed first k = cond first (eqb k settings_kind) (leb advance_all_kind k && leb k release_kind)

-- how many bytes each field takes after the first two: n, T, S and clock; ticks; a host and ticks;
-- a host or a slot
abbrev pub widths_of : ℕ → List ℕ
widths_of k =
    cond (eqb k settings_kind) (1 ∷ 4 ∷ 4 ∷ 8 ∷ [])
    (cond (eqb k advance_all_kind) (4 ∷ [])
    (cond (leb k start_kind) (1 ∷ 4 ∷ []) (1 ∷ [])))

-- the length of a kind's records
abbrev pub record_length : ℕ → ℕ
record_length k = fore_length + total (widths_of k)

-- where field i of a kind's records stands, from 0 after the first two
abbrev pub field_offset : ℕ → ℕ → ℕ
field_offset k i = fore_length + total (take i (widths_of k))

-- ---- what is refused in the record at an offset

-- how many bytes there are from there on
abbrev pub left_at : List ℕ → ℕ → ℕ
left_at s at = length s - at

-- its first two fields
abbrev pub told_length_at : List ℕ → ℕ → ℕ
told_length_at s at = number_at s (at + length_offset) (width_of frame_length)

abbrev pub told_kind_at : List ℕ → ℕ → ℕ
told_kind_at s at = number_at s (at + kind_offset) (width_of kind_number)

-- 'record faults are 2, 3, 4 in reading's order', with 17 in 4's place: 2 (under 4 bytes), 3, 17 or
-- 4, 2
abbrev pub record_refusals : Bool → List ℕ → ℕ → List (Refusal Field)
record_refusals first s at =
    let kind = told_kind_at s at in
    refusal refused_cut (test lent_bytes (leb fore_length (left_at s at)) ∷ [])
    ∷ refusal refused_kind (test kind_number (is_allowed first kind) ∷ [])
    ∷ (length_refusals (told_length_at s at) (record_length kind)
    ++ (refusal refused_cut (test lent_bytes (leb (record_length kind) (left_at s at)) ∷ []) ∷ []))

unfoldable pub record_fault : Bool → List ℕ → ℕ → ℕ
record_fault first s at = answer_by (record_refusals first s at)

-- the offset of the first field that gives this number, 'counted from its record's start'
unfoldable pub fault_offset : Bool → List ℕ → ℕ → ℕ
fault_offset first s at =
    place_by (place_in (left_at s at) (told_kind_at s at)) (record_refusals first s at)

-- its kind and the offset past it, or its fault
abbrev pub head_of : Bool → List ℕ → ℕ → Head
head_of first s at =
    let f = record_fault first s at in
    let kind = told_kind_at s at in
    cond (eqb f done) (Head.Whole kind (at + record_length kind))
    (Head.Fault f (fault_offset first s at))

-- ---- what a record says

-- the numbers in its fields
abbrev pub values_at : List ℕ → ℕ → ℕ → List ℕ
values_at s at k = numbers_at s (at + fore_length) (widths_of k)

-- the event of a kind whose fields have these numbers
abbrev pub event_with : ℕ → List ℕ → Event
event_with k vs =
    let one = get_or vs 0 0 in
    let two = get_or vs 1 0 in
    cond (eqb k advance_all_kind) (AdvanceAll one)
    (cond (eqb k advance_one_kind) (AdvanceOne one two)
    (cond (eqb k start_kind) (Start one two)
    (cond (eqb k deliver_kind) (Deliver one)
    (cond (eqb k lose_kind) (Lose one)
    (cond (eqb k repeat_kind) (Repeat one)
    (cond (eqb k restart_kind) (Restart one) (Release one)))))))

abbrev pub record_with : List ℕ → ℕ → Head → Record
record_with s at (Head.Fault f o) = Record.Fault f o
record_with s at (Head.Whole kind next) = Record.Event (event_with kind (values_at s at kind)) next

-- what stands at an offset after the settings: the file's end, a fault, or an event
unfoldable pub record_at : List ℕ → ℕ → Record
record_at s at = cond (ltb at (length s)) (record_with s at (head_of false s at)) Record.End

-- the settings and the opening clock whose fields have these numbers
abbrev pub first_with : List ℕ → Head → First
first_with s (Head.Fault f o) = First.Fault f o
first_with s (Head.Whole kind next) =
    let vs = values_at s 0 settings_kind in
    First.Given (record {
      n = get_or vs 0 0;
      longest = get_or vs 1 0;
      spread = get_or vs 2 0;
    }) (get_or vs 3 0)

-- the first record
unfoldable pub first_record : List ℕ → First
first_record s = first_with s (head_of true s 0)

-- ---- settings that opening refuses

-- where the settings record has what opening is handed
abbrev pub opening_place : OpeningField → ℕ
opening_place host_count = field_offset settings_kind 0
opening_place longest_lease = field_offset settings_kind 1
opening_place clock_spread = field_offset settings_kind 2
opening_place opening_clock = field_offset settings_kind 3

-- the offset in it of the first field that opening refuses
unfoldable pub opening_offset : Settings → ℕ → ℕ
opening_offset g clock = place_by opening_place (opening_refusals g clock)
