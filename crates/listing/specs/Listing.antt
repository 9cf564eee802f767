-- The listing of a run file: what the file says, the lines of that, and what the function gives.
-- Assumes nothing.
use Rattle.std.specs.Prelude.{Option}
use Rattle.message.specs.Leases.{Holder}
use Rattle.std.specs.Prelude.{ℕ, zero, suc, ◌+◌, ◌≤◌, ◌≡◌, cond, List, [], ◌∷◌, ◌++◌, ltb, leb, eqb}
use Rattle.std.specs.Prelude.{length, take, drop}
use Rattle.std.specs.declared.result.Result.{Result}
use Rattle.base.specs.declared.Refusal.{Refusal}
use Rattle.base.specs.Refusals.{done, refused_room, refused_long}
use Rattle.base.specs.Answers.{refusal_number}
use Rattle.state.specs.declared.Settings.{Settings}
use Rattle.cell.specs.declared.Cell.{Cell}
use Rattle.cell.specs.declared.Event.{Event}
use Rattle.cell.specs.Events.{cell_of, opening_refusal, event_of}
use Rattle.cell.specs.Runs.{opening, answers}
use Rattle.record.specs.Read.{Record, First}
use Rattle.record.specs.Record.{kind_of, record_at, first_record, opening_offset}
use Rattle.lines.specs.Lines.{Line, settings, event, stop, counts, names_from, text_of}

-- ---- what a run file says from an offset on

-- its events, and how they end: with the file, or in a fault at an offset, of a number and at an
-- offset of its record
pub data Script : Type 0 where
  ends : Script
  cuts : ℕ → ℕ → ℕ → Script
  then : Event → Script → Script

abbrev pub script_with : ℕ → Record → (ℕ → Script) → Script
script_with at Record.End more = ends
script_with at (Record.Fault f o) more = cuts at f o
script_with at (Record.Event e next) more = then e (more next)

-- at most k records
unfoldable pub script_from : ℕ → List ℕ → ℕ → Script
script_from zero s at = ends
script_from (suc k) s at = script_with at (record_at s at) (λ next. script_from k s next)

-- how long the settings record is
abbrev pub settings_length : ℕ
settings_length = 21

-- after the settings; a file has no more records than bytes
abbrev pub script_of : List ℕ → Script
script_of s = script_from (length s) s settings_length

unfoldable pub events_of : Script → List Event
events_of ends = []
events_of (cuts at f o) = []
events_of (then e more) = e ∷ events_of more

-- ---- its lines

-- whom each host of a cell names
abbrev pub names_of : Cell → List (Option Holder)
names_of c = names_from c.hosts c.settings.n 0

-- 'per event: its place from 1, kind, answer, then for each host the holder it names', the events
-- applied one after the other, the first at a place
unfoldable pub event_lines : ℕ → Cell → List Event → List Line
event_lines place c [] = []
event_lines place c (e ∷ es) =
    let a = event_of c e in
    event place (kind_of e) a.answer (names_of (cell_of a)) ∷ event_lines (suc place) (cell_of a) es

-- 'a record fault ends the run with a line `stop`, its byte offset and its number', and the offset
-- in the record
unfoldable pub stop_lines : Script → List Line
stop_lines ends = []
stop_lines (cuts at f o) = stop at f o ∷ []
stop_lines (then e more) = stop_lines more

-- how many of these numbers are 0, and how many are not
unfoldable pub zeros : List ℕ → ℕ
zeros [] = 0
zeros (x ∷ xs) = cond (eqb x done) 1 0 + zeros xs

unfoldable pub others : List ℕ → ℕ
others [] = 0
others (x ∷ xs) = cond (eqb x done) 0 1 + others xs

-- 'last: the applied and refused counts'
abbrev pub counts_of : List ℕ → Line
counts_of xs = counts (zeros xs) (others xs)

-- the lines after the settings
unfoldable pub script_lines : Cell → Script → List Line
script_lines c s =
    let es = events_of s in
    event_lines 1 c es ++ (stop_lines s ++ (counts_of (answers c es) ∷ []))

-- 'settings that opening refuses .. print only `stop 0` and the number', and their field's offset
unfoldable pub opened_lines : List ℕ → Settings → ℕ → List Line
opened_lines s g clock =
    let refusal = opening_refusal g clock in
    cond (eqb refusal done) (settings g clock ∷ script_lines (opening g clock) (script_of s))
    (stop 0 refusal (opening_offset g clock) ∷ [])

-- and so does 'a fault in the first record'; an empty file has one, 2
unfoldable pub first_lines : List ℕ → First → List Line
first_lines s (First.Fault f o) = stop 0 f o ∷ []
first_lines s (First.Given g clock) = opened_lines s g clock

-- the longest run file
abbrev pub longest_run : ℕ
longest_run = 65536

-- 'so does 16, which comes before all else', at 0
unfoldable pub lines_of : List ℕ → List Line
lines_of s =
    cond (leb (length s) longest_run) (first_lines s (first_record s)) (stop 0 refused_long 0 ∷ [])

-- ---- its bytes, and what the function gives and leaves

unfoldable pub listing_of : List ℕ → List ℕ
listing_of s = text_of (lines_of s)

-- the bytes that the listing of every file fits into: 10 for each byte of the file, and 128
abbrev pub listing_room : ℕ
listing_room = 655488

-- and those of the one line of a file that is too long
abbrev pub long_room : ℕ
long_room = 12

-- the least room for the listing of a file: 16 is looked at first
unfoldable pub room_for : List ℕ → ℕ
room_for s = cond (ltb longest_run (length s)) long_room listing_room

-- what the function gives: an answer's number, and how many bytes were written
pub record Listed : Type 0 where
  pub answer : ℕ
  pub len : ℕ

unfoldable pub listed_result : Result ℕ Refusal → Listed
listed_result (Result.Ok n) = record { answer = done; len = n }
listed_result (Result.Err k) = record { answer = refusal_number k; len = 0 }

-- a room below that is 8, and is left as it is
unfoldable pub listed_of : List ℕ → ℕ → Listed
listed_of s room =
    cond (ltb room (room_for s)) (record { answer = refused_room; len = 0 })
    (record { answer = done; len = length (listing_of s) })

unfoldable pub after_listing : List ℕ → List ℕ → List ℕ
after_listing s out =
    let bytes = listing_of s in
    cond (ltb (length out) (room_for s)) out (bytes ++ drop (length bytes) out)

-- n counts bytes at the start of xs, said in the two ways by which `&out[..n]` needs no proof
abbrev pub Counts : ℕ → List ℕ → Type 0
Counts n xs = (n ≤ length xs) × (n ≡ length (take n xs))
