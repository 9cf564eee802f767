-- How a listing ends: with a stop where a record has a fault, and always with the counts. Assumes
-- nothing.
use mathlib.Core.Path.{◌≡◌, refl, ap}
use mathlib.Core.List.{List, ◌++◌, append-nil}
use Prim.Native.Nat.{ℕ}
use Rattle.text.specs.declared.Page.{Page}
use Rattle.text.specs.Parts.{Wrote}
use Rattle.record.specs.declared.Record.{Record as Answer}
use Rattle.record.specs.Read.{Record, numbered_record}
use Rattle.lines.specs.Lines.{stop, counts, line_text, text_of}
use Rattle.listing.specs.Parts.{last_lines}

-- what the `else` of a `let .. else` knows of a record
abbrev pub NoFault : Answer → Type 0
NoFault r = (f o : ℕ) → r ≡ Answer.Fault f o → ⊥

pub no_fault : (at a r : ℕ) (x : Answer) → NoFault x
    → text_of (last_lines at a r (numbered_record x)) ≡ line_text (counts a r)
unfolding last_lines text_of
no_fault at a r Answer.End t = append-nil _
no_fault at a r (Answer.Fault f o) t = absurd (t f o refl)
no_fault at a r (Answer.Event e next) t = append-nil _

pub last_fault : (at a r f o : ℕ)
    → text_of (last_lines at a r (Record.Fault f o))
    ≡ line_text (stop at f o) ++ line_text (counts a r)
unfolding last_lines text_of
last_fault at a r f o = ap (λ (bytes : List ℕ). line_text (stop at f o) ++ bytes) (append-nil _)

-- the last lines are written where the stop tells the number that the fault has
pub last_wrote : {before after : Page} (at a r f g o : ℕ) → f ≡ g
    → Wrote before (line_text (stop at g o) ++ line_text (counts a r)) after
    → Wrote before (text_of (last_lines at a r (Record.Fault f o))) after
last_wrote at a r f g o e w = rw (last_fault at a r f o, e) w
