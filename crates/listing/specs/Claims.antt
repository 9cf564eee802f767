-- What is claimed of the lines of a run file, before any digits; proofs/Claims.antt proves it. What
-- event lines show of demand 3 is claimed in the crate `agreement`. Assumes nothing.
use Rattle.std.specs.Prelude.{◌≡◌, ℕ, suc, ◌+◌, List, [], ◌∷◌, ◌++◌, length, take}
use Rattle.base.specs.Lists.{All}
use Rattle.state.specs.declared.Settings.{Settings}
use Rattle.cell.specs.declared.Cell.{Cell}
use Rattle.cell.specs.declared.Event.{Event}
use Rattle.cell.specs.Events.{event_of}
use Rattle.cell.specs.Runs.{opening, run, answers}
use Rattle.record.specs.Record.{kind_of}
use Rattle.lines.specs.Lines.{Line, settings, event, stop, counts}
use Rattle.listing.specs.Listing.{Script, ends, cuts, then, events_of, names_of, event_lines}
use Rattle.listing.specs.Listing.{zeros, others, counts_of, script_of, lines_of}

-- the answers in the lines of events
unfoldable pub answers_in : List Line → List ℕ
answers_in [] = []
answers_in (settings s clock ∷ ls) = answers_in ls
answers_in (event place kind number names ∷ ls) = number ∷ answers_in ls
answers_in (stop at f o ∷ ls) = answers_in ls
answers_in (counts a r ∷ ls) = answers_in ls

-- a line of counts has the numbers of zero and of other answers among these
unfoldable pub CountsOf : List ℕ → Line → Type 0
CountsOf xs (settings s clock) = Unit
CountsOf xs (event place kind number names) = Unit
CountsOf xs (stop at f o) = Unit
CountsOf xs (counts a r) = (a ≡ zeros xs) × (r ≡ others xs)

-- a script ends in the fault of this number, in the record at this offset, at that offset in it
unfoldable pub StopsAt : ℕ → ℕ → ℕ → Script → Type 0
StopsAt at f o ends = ⊥
StopsAt at f o (cuts place number offset) = (place ≡ at) × ((number ≡ f) × (offset ≡ o))
StopsAt at f o (then e s) = StopsAt at f o s

pub record Claims : Type 0 where
  -- the counts are the numbers of zero and of other answers in the event lines
  pub counted : (s : List ℕ) → All (CountsOf (answers_in (lines_of s))) (lines_of s)
  -- the line of an event, after those before it, has the answer of the run so far, and the names
  -- that the run with it leaves
  pub each : (place : ℕ) (c : Cell) (before : List Event) (e : Event) (after : List Event)
      → let now = run c before in
      let next = run c (before ++ (e ∷ [])) in
      event_lines place c (before ++ (e ∷ after))
      ≡ event_lines place c before
      ++ (event (place + length before) (kind_of e) (event_of now e).answer (names_of next)
      ∷ event_lines (suc (place + length before)) next after)
  -- the listing of a file that stops at an offset is that of the whole records before it, with the
  -- stop before the counts
  pub whole : (s : List ℕ) (at f o : ℕ) (g : Settings) (clock : ℕ) (ls : List Line)
      → lines_of s ≡ settings g clock ∷ ls → StopsAt at f o (script_of s)
      → let es = events_of (script_of s) in
      let c = opening g clock in
      (lines_of s ≡ settings g clock
      ∷ (event_lines 1 c es ++ (stop at f o ∷ counts_of (answers c es) ∷ [])))
      × (lines_of (take at s) ≡ settings g clock
      ∷ (event_lines 1 c es ++ (counts_of (answers c es) ∷ [])))
