-- How far the walk of a run file has come, with its counts, the line of an event with its names as
-- bytes, and how a listing ends. No claim rests on it. Assumes nothing.
use Rattle.std.specs.Prelude.{ℕ, ◌+◌, ◌-◌, ◌≤◌, ◌<◌, ◌≡◌, cond, List, [], ◌∷◌, ◌++◌, eqb, length}
use Rattle.base.specs.Refusals.{done}
use Rattle.record.specs.Read.{Record}
use Rattle.record.specs.Record.{kind_of}
use Rattle.cell.specs.declared.Event.{Event}
use Rattle.text.specs.declared.Page.{Page}
use Rattle.text.specs.Parts.{Wrote, HasRoom}
use Rattle.lines.specs.Lines.{Line, stop, counts, event_head}
use Rattle.lines.specs.Parts.{bytes_text}
use Rattle.listing.specs.declared.Walk.{Walk}
use Rattle.listing.specs.Listing.{settings_length}

-- 1 for the answer 0, else 0
unfoldable pub done_of : ℕ → ℕ
done_of answer = cond (eqb answer done) 1 0

-- the walk before its first event
abbrev pub walk_from : ℕ → Walk
walk_from pos =
    record {
      at = settings_length;
      pos = pos;
      applied = 0;
      refused = 0;
      answer = done;
      looked = 0;
    }

-- the walk past an event: its answer is counted
unfoldable pub walked_to : Walk → ℕ → ℕ → ℕ → ℕ → Walk
walked_to w answer looked next pos =
    record {
      at = next;
      pos = pos;
      applied = w.applied + done_of answer;
      refused = w.refused + (1 - done_of answer);
      answer = answer;
      looked = looked;
    }

-- a line has room, and the place that it begins with has five digits at most
pub record LineFits (w : Walk) (page : Page) (names : List ℕ) : Type 0 where
  pub count : w.applied + w.refused + 1 < 100000
  pub room : HasRoom page 50
  pub few : length names ≤ 9

-- an event's line, with the names as bytes
abbrev pub byte_line : ℕ → ℕ → ℕ → List ℕ → List ℕ
byte_line place kind answer names =
    event_head place kind answer ++ (bytes_text names (length names) 0 ++ (10 ∷ []))

-- it is written, and the walk has come past the event
pub record LinePut (w : Walk) (before : Page) (e : Event) (answer looked next : ℕ)
    (names : List ℕ) (r : Walk) (after : Page) : Type 0 where
  pub wrote : Wrote before (byte_line (w.applied + w.refused + 1) (kind_of e) answer names) after
  pub walk : r ≡ walked_to w answer looked next after.at
  pub short : after.at ≤ before.at + 50

-- how a listing ends at a record that is no event
unfoldable pub last_lines : ℕ → ℕ → ℕ → Record → List Line
last_lines at a r Record.End = counts a r ∷ []
last_lines at a r (Record.Fault f o) = stop at f o ∷ counts a r ∷ []
last_lines at a r (Record.Event e next) = counts a r ∷ []
