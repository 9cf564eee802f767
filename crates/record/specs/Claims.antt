-- What is claimed of the records, in one place; proofs/Claims.antt proves it. Assumes nothing.
use Rattle.std.specs.Prelude.{◌≡◌, Bool, true, false, List, [], ◌∷◌, ◌++◌, map, ℕ, ◌+◌, ◌^◌, ◌≤◌}
use Rattle.std.specs.Prelude.{◌<◌, take}
use Rattle.base.specs.Refusals.{done, refused_cut, refused_kind, refused_length, refused_short}
use Rattle.base.specs.Claims.{GivenAt, Lowest}
use Rattle.message.specs.Faults.{Field}
use Rattle.layout.specs.Layout.{place_in, fore_length}
use Rattle.state.specs.declared.Settings.{Settings}
use Rattle.cell.specs.declared.Event.{Event}
use Rattle.cell.specs.declared.Event.TheVariants.{AdvanceAll, AdvanceOne, Start, Deliver}
use Rattle.cell.specs.declared.Event.TheVariants.{Lose, Repeat, Restart, Release}
use Rattle.cell.specs.Events.{opening_refusals, opening_refusal}
use Rattle.record.specs.Read.{Record, First}
use Rattle.record.specs.Record.{settings_kind, is_allowed, record_length, left_at, told_length_at}
use Rattle.record.specs.Record.{told_kind_at, record_refusals, record_fault, fault_offset}
use Rattle.record.specs.Record.{record_at, first_record, opening_place, opening_offset}

-- the settings of document 01's example, at clock 0
abbrev pub settings_bytes : List ℕ
settings_bytes =
    21 ∷ 0 ∷ 100 ∷ 0 ∷ 3 ∷ 100 ∷ 0 ∷ 0 ∷ 0 ∷ 5 ∷ 0 ∷ 0 ∷ 0 ∷ 0 ∷ 0 ∷ 0 ∷ 0 ∷ 0 ∷ 0 ∷ 0 ∷ 0 ∷ []

-- what is refused in each of these, as a record by itself, and where
abbrev pub faults_in : Bool → List (List ℕ) → List ℕ
faults_in first = map (λ (s : List ℕ). record_fault first s 0)

abbrev pub offsets_in : Bool → List (List ℕ) → List ℕ
offsets_in first = map (λ (s : List ℕ). fault_offset first s 0)

-- records after the first, and first ones. Each has the number that `fault_order` has in its place,
-- and the first five would be refused further on too: the first by 3, the next two by 4 and by 17,
-- those whose length is too long and too short by 2. The last is whole
abbrev pub event_entries : List (List ℕ)
event_entries =
    (6 ∷ 0 ∷ 109 ∷ [])
    ∷ (6 ∷ 0 ∷ 109 ∷ 0 ∷ [])
    ∷ (4 ∷ 0 ∷ 109 ∷ 0 ∷ [])
    ∷ (6 ∷ 0 ∷ 104 ∷ 0 ∷ [])
    ∷ (4 ∷ 0 ∷ 104 ∷ 0 ∷ [])
    ∷ (5 ∷ 0 ∷ 104 ∷ 0 ∷ [])
    ∷ (5 ∷ 0 ∷ 104 ∷ 0 ∷ 0 ∷ [])
    ∷ []

abbrev pub first_entries : List (List ℕ)
first_entries =
    (22 ∷ 0 ∷ 101 ∷ [])
    ∷ (22 ∷ 0 ∷ 101 ∷ 0 ∷ [])
    ∷ (7 ∷ 0 ∷ 101 ∷ 0 ∷ [])
    ∷ (22 ∷ 0 ∷ 100 ∷ 0 ∷ [])
    ∷ (20 ∷ 0 ∷ 100 ∷ 0 ∷ [])
    ∷ (21 ∷ 0 ∷ 100 ∷ 0 ∷ [])
    ∷ settings_bytes
    ∷ []

abbrev pub fault_order : List ℕ
fault_order =
    refused_cut
    ∷ refused_kind
    ∷ refused_kind
    ∷ refused_length
    ∷ refused_short
    ∷ refused_cut
    ∷ done
    ∷ []

-- past the bytes, at the kind, at the length, past the bytes, and 0 where nothing is refused
abbrev pub offset_order : List ℕ
offset_order = 3 ∷ 2 ∷ 2 ∷ 0 ∷ 0 ∷ 4 ∷ 0 ∷ []

-- where fields stand in the record at an offset
abbrev pub places_at : List ℕ → ℕ → Field → ℕ
places_at s at = place_in (left_at s at) (told_kind_at s at)

-- where opening refuses these numbers: n, T, S and the clock
abbrev pub opened_at : ℕ → ℕ → ℕ → ℕ → ℕ
opened_at n t s clock = opening_offset (record { n = n; longest = t; spread = s }) clock

pub record Claims : Type 0 where
  -- how long the records of kinds 100 to 108 are
  pub lengths : map record_length (100 ∷ 101 ∷ 102 ∷ 103 ∷ 104 ∷ 105 ∷ 106 ∷ 107 ∷ 108 ∷ [])
      ≡ 21 ∷ 8 ∷ 9 ∷ 9 ∷ 5 ∷ 5 ∷ 5 ∷ 5 ∷ 5 ∷ []
  -- the order of the faults, and their offsets, after the first record and in it
  pub event_order : faults_in false event_entries ≡ fault_order
  pub event_offsets : offsets_in false event_entries ≡ offset_order
  pub first_order : faults_in true first_entries ≡ fault_order
  pub first_offsets : offsets_in true first_entries ≡ offset_order
  -- 17 and 4: in a record of an allowed kind a length below, and above, that of the kind
  pub too_short : (first : Bool) (s : List ℕ) (at : ℕ) → fore_length ≤ left_at s at
      → is_allowed first (told_kind_at s at) ≡ true
      → told_length_at s at < record_length (told_kind_at s at)
      → record_fault first s at ≡ refused_short
  pub too_long : (first : Bool) (s : List ℕ) (at : ℕ) → fore_length ≤ left_at s at
      → is_allowed first (told_kind_at s at) ≡ true
      → record_length (told_kind_at s at) < told_length_at s at
      → record_fault first s at ≡ refused_length
  -- a fault's offset is counted from its record's start, wherever the record stands
  pub from_start : map (λ (s : List ℕ). record_at (settings_bytes ++ s) 21)
      ((5 ∷ 0 ∷ 104 ∷ 0 ∷ []) ∷ (5 ∷ 0 ∷ 109 ∷ 0 ∷ 0 ∷ []) ∷ (4 ∷ 0 ∷ 104 ∷ 0 ∷ 0 ∷ []) ∷ [])
      ≡ Record.Fault refused_cut 4 ∷ Record.Fault refused_kind 2 ∷ Record.Fault refused_short 0 ∷ []
  -- a field there gives the fault's number, and none at a lower offset does
  pub offset_given : (first : Bool) (s : List ℕ) (at : ℕ) → (record_fault first s at ≡ done → ⊥)
      → GivenAt (places_at s at) (record_refusals first s at) (record_fault first s at)
      (fault_offset first s at)
  pub offset_lowest : (first : Bool) (s : List ℕ) (at : ℕ)
      → Lowest (places_at s at) (record_refusals first s at) (record_fault first s at)
      (fault_offset first s at)
  -- it is the number of bytes left for both forms of 2, and but for 2 it lies within them
  pub offset_cut : (first : Bool) (s : List ℕ) (at : ℕ) → record_fault first s at ≡ refused_cut
      → fault_offset first s at ≡ left_at s at
  pub offset_within : (first : Bool) (s : List ℕ) (at : ℕ) → (record_fault first s at ≡ done → ⊥)
      → (record_fault first s at ≡ refused_cut → ⊥) → fault_offset first s at < left_at s at
  -- an empty file's first record is cut off
  pub empty : first_record [] ≡ First.Fault refused_cut 0
  -- settings that opening refuses: n; T of 0, T above its limit, T and S; S; the clock; and all of
  -- them. The last are refused by nothing
  pub opening_offsets : opened_at 0 100 5 0
      ∷ opened_at 3 0 0 0
      ∷ opened_at 3 (2 ^ 31 + 1) 5 0
      ∷ opened_at 3 (2 ^ 31 + 1) (2 ^ 31 + 1) 0
      ∷ opened_at 3 100 100 0
      ∷ opened_at 3 100 5 (2 ^ 48 + 1)
      ∷ opened_at 10 0 0 (2 ^ 48 + 1)
      ∷ opened_at 3 100 5 0
      ∷ []
      ≡ 4 ∷ 5 ∷ 5 ∷ 5 ∷ 9 ∷ 13 ∷ 4 ∷ 0 ∷ []
  -- there too a field gives opening's number, and none at a lower offset does
  pub opening_given : (g : Settings) (clock : ℕ) → (opening_refusal g clock ≡ done → ⊥)
      → GivenAt opening_place (opening_refusals g clock) (opening_refusal g clock)
      (opening_offset g clock)
  pub opening_lowest : (g : Settings) (clock : ℕ)
      → Lowest opening_place (opening_refusals g clock) (opening_refusal g clock)
      (opening_offset g clock)
  -- 'first and only once': settings after the first record are 3, and so is anything else as the
  -- first
  pub settings_again : (s : List ℕ) (at : ℕ) → fore_length ≤ left_at s at
      → told_kind_at s at ≡ settings_kind → record_fault false s at ≡ refused_kind
  pub settings_missing : (s : List ℕ) (at : ℕ) → fore_length ≤ left_at s at
      → (told_kind_at s at ≡ settings_kind → ⊥) → record_fault true s at ≡ refused_kind
  -- what the example's settings and a record of each kind say
  pub settings_read : first_record settings_bytes
      ≡ First.Given (record { n = 3; longest = 100; spread = 5 }) 0
  pub events_read : map (λ (s : List ℕ). record_at s 0)
      ((8 ∷ 0 ∷ 101 ∷ 0 ∷ 104 ∷ 0 ∷ 0 ∷ 1 ∷ [])
      ∷ (9 ∷ 0 ∷ 102 ∷ 0 ∷ 2 ∷ 5 ∷ 0 ∷ 0 ∷ 1 ∷ [])
      ∷ (9 ∷ 0 ∷ 103 ∷ 0 ∷ 2 ∷ 50 ∷ 0 ∷ 0 ∷ 1 ∷ [])
      ∷ (5 ∷ 0 ∷ 104 ∷ 0 ∷ 7 ∷ [])
      ∷ (5 ∷ 0 ∷ 105 ∷ 0 ∷ 7 ∷ [])
      ∷ (5 ∷ 0 ∷ 106 ∷ 0 ∷ 7 ∷ [])
      ∷ (5 ∷ 0 ∷ 107 ∷ 0 ∷ 2 ∷ [])
      ∷ (5 ∷ 0 ∷ 108 ∷ 0 ∷ 2 ∷ [])
      ∷ [])
      ≡ Record.Event (AdvanceAll (104 + 2 ^ 24)) 8
      ∷ Record.Event (AdvanceOne 2 (5 + 2 ^ 24)) 9
      ∷ Record.Event (Start 2 (50 + 2 ^ 24)) 9
      ∷ Record.Event (Deliver 7) 5
      ∷ Record.Event (Lose 7) 5
      ∷ Record.Event (Repeat 7) 5
      ∷ Record.Event (Restart 2) 5
      ∷ Record.Event (Release 2) 5
      ∷ []
  -- a record is read alike in a longer file, and in a shorter one that has the whole of it
  pub read_longer : (s t : List ℕ) (at : ℕ) (e : Event) (next : ℕ)
      → record_at s at ≡ Record.Event e next → record_at (s ++ t) at ≡ Record.Event e next
  pub read_shorter : (s : List ℕ) (at : ℕ) (e : Event) (next p : ℕ)
      → record_at s at ≡ Record.Event e next → next ≤ p
      → record_at (take p s) at ≡ Record.Event e next
  pub first_longer : (s t : List ℕ) (g : Settings) (clock : ℕ)
      → first_record s ≡ First.Given g clock
      → first_record (s ++ t) ≡ First.Given g clock
  pub first_shorter : (s : List ℕ) (g : Settings) (clock p : ℕ)
      → first_record s ≡ First.Given g clock
      → 21 ≤ p → first_record (take p s) ≡ First.Given g clock
  -- and a file that is cut off at p has its end there
  pub read_end : (s : List ℕ) (p : ℕ) → record_at (take p s) p ≡ Record.End
