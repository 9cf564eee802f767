-- What a run of events supposes and leaves, from its first record on: each event handed the cell
-- that the event before it handed back, and a line for each. No claim rests on it. Assumes nothing.
use Rattle.std.specs.Prelude.{ℕ, ◌+◌, ◌-◌, ◌*◌, ◌≤◌, ◌≡◌, List, [], ◌∷◌, ◌++◌, length}
use Rattle.base.specs.Refusals.{done}
use Rattle.cell.specs.declared.Cell.{Cell}
use Rattle.cell.specs.declared.Event.{Event}
use Rattle.cell.specs.Answered.{Answered}
use Rattle.cell.specs.Events.{answered_with, cell_of, event_of}
use Rattle.cell.specs.Runs.{answers}
use Rattle.cell.specs.Claims.{Sound}
use Rattle.record.specs.Read.{Record, numbered_record}
use Rattle.text.specs.Parts.{Put}
use Rattle.lines.specs.Lines.{counts, text_of}
use Rattle.listing.specs.Listing.{Script, script_with, script_from, settings_length, longest_run}
use Rattle.listing.specs.Listing.{events_of, event_lines, stop_lines, zeros, others}
use Rattle.listing.specs.Parts.{last_lines}
use Rattle.run.specs.declared.Played.{Played}

-- a record at an offset, and what the run file says after it
abbrev pub script_after : List ℕ → ℕ → Record → Script
script_after run at r = script_with at r (λ next. script_from (length run) run next)

abbrev pub events_after : List ℕ → ℕ → Record → List Event
events_after run at r = events_of (script_after run at r)

-- the events applied one after the other, the first to the cell beside an answer
unfoldable pub answered_after : Answered → List Event → Answered
answered_after a [] = a
answered_after a (e ∷ es) = answered_after (event_of (cell_of a) e) es

-- what was left, as the last event gave it
abbrev pub left_by : Played → Answered
left_by p = answered_with p.walk.answer p.walk.looked p.cell

-- how many bytes of a run file there are from a record on, where one has five at least
unfoldable pub ahead : List ℕ → Record → ℕ
ahead run Record.End = 0
ahead run (Record.Fault f o) = 0
ahead run (Record.Event e next) = 5 + (length run - next)

-- a run of a cell within its limits, with room for 50 bytes an event
pub record Begins (c : Cell) (first : Record) (run out : List ℕ) (from : ℕ) : Type 0 where
  pub sound : Sound c
  pub short : ahead run first ≤ longest_run
  pub room : from + 10 * ahead run first ≤ length out

pub record Plays (c : Cell) (first : Record) (run out : List ℕ) (from : ℕ) (p : Played)
    (after : List ℕ) : Type 0 where
  -- the cell, and what the last event was answered; 0 where there is none
  pub left : left_by p
      ≡ answered_after (answered_with done 0 c) (events_after run settings_length first)
  pub applied : p.walk.applied ≡ zeros (answers c (events_after run settings_length first))
  pub refused : p.walk.refused ≡ others (answers c (events_after run settings_length first))
  -- the record that ended it is no event; by it and its offset, the lines that are still to come
  pub over : events_after run p.walk.at (numbered_record p.last) ≡ []
  pub ended : (a r : ℕ)
      → last_lines p.walk.at a r (numbered_record p.last)
      ≡ stop_lines (script_after run settings_length first) ++ (counts a r ∷ [])
  pub written : Put out from (text_of (event_lines 1 c (events_after run settings_length first)))
      p.walk.pos after
  pub near : p.walk.pos ≤ from + 10 * ahead run first
