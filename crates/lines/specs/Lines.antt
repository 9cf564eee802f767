-- The lines of a listing before any digits, and their text. Assumes nothing.
use Rattle.std.specs.Prelude.{Option, Some, None}
use Rattle.message.specs.Leases.{Holder}
use Rattle.std.specs.Prelude.{ℕ, zero, suc, List, [], ◌∷◌, ◌++◌, get_or}
use Rattle.text.specs.Text.{decimal, spaced}
use Rattle.state.specs.declared.Settings.{Settings}
use Rattle.host.specs.declared.Host.{Host}
use Rattle.places.specs.Places.{blank_host}

-- ---- lines

pub data Line : Type 0 where
  -- the settings and the opening clock
  settings : Settings → ℕ → Line
  -- an event's place from 1, its kind, its answer, and whom each host names
  event : ℕ → ℕ → ℕ → List (Option Holder) → Line
  -- the byte offset of a record, the number of its fault, and the fault's offset in the record
  stop : ℕ → ℕ → ℕ → Line
  -- how many events were applied, and how many refused
  counts : ℕ → ℕ → Line

-- whom the k hosts from i on name
unfoldable pub names_from : List Host → ℕ → ℕ → List (Option Holder)
names_from hs zero i = []
names_from hs (suc k) i = (get_or hs i blank_host).state.named ∷ names_from hs k (suc i)

-- ---- their text, in ASCII

-- `stop`, `applied` and ` refused`
abbrev pub stop_word : List ℕ
stop_word = 115 ∷ 116 ∷ 111 ∷ 112 ∷ []

abbrev pub applied_word : List ℕ
applied_word = 97 ∷ 112 ∷ 112 ∷ 108 ∷ 105 ∷ 101 ∷ 100 ∷ []

abbrev pub refused_word : List ℕ
refused_word = 32 ∷ 114 ∷ 101 ∷ 102 ∷ 117 ∷ 115 ∷ 101 ∷ 100 ∷ []

-- a space, a number and the line's end
unfoldable pub last_of : ℕ → List ℕ
last_of n = spaced n ++ (10 ∷ [])

-- 'the holder it names, or `-`'
unfoldable pub name_text : Option Holder → List ℕ
name_text None = 45 ∷ []
name_text (Some k) = decimal k.owner

-- each after a space
unfoldable pub names_text : List (Option Holder) → List ℕ
names_text [] = []
names_text (m ∷ ms) = (32 ∷ name_text m) ++ names_text ms

unfoldable pub event_head : ℕ → ℕ → ℕ → List ℕ
event_head place kind answer = decimal place ++ (spaced kind ++ spaced answer)

unfoldable pub line_text : Line → List ℕ
line_text (settings s clock) =
    decimal s.n ++ (spaced s.longest ++ (spaced s.spread ++ last_of clock))
line_text (event place kind answer names) =
    event_head place kind answer ++ (names_text names ++ (10 ∷ []))
line_text (stop at number offset) = stop_word ++ (spaced at ++ (spaced number ++ last_of offset))
line_text (counts applied refused) =
    applied_word ++ (spaced applied ++ (refused_word ++ last_of refused))

unfoldable pub text_of : List Line → List ℕ
text_of [] = []
text_of (l ∷ ls) = line_text l ++ text_of ls
