-- What the parts of the code of reading and writing give. Assumes nothing.
use Rattle.std.specs.Prelude.{ℕ, cond, List, [], ◌∷◌, leb, eqb}
use Rattle.std.specs.declared.result.Result.{Result}
use Rattle.base.specs.declared.Fault.{Fault as At}
use Rattle.base.specs.Answers.{refusal_number}
use Rattle.base.specs.Refusals.{unless, first_of, done, refused_cell, refused_room}
use Rattle.message.specs.declared.Sizes.{Sizes}
use Rattle.message.specs.declared.Numbers.{Numbers}
use Rattle.message.specs.Message.{message_of}
use Rattle.message.specs.Faults.{sizes_fit}
use Rattle.layout.specs.Layout.{kind_length, numbers_in}
use Rattle.frame.specs.Reading.{Reading, Whole, Refused, told_kind, read_answer, read_offset}

-- what is found in lent bytes: a frame's numbers with its length, or the number of the refusal and
-- its offset
pub data Found : Type 0 where
  Frame : Numbers → ℕ → Found
  Fault : ℕ → ℕ → Found

-- this paper's number and values for each case of the code's result
abbrev pub found_by : Result (Numbers × ℕ) At → Found
found_by (Result.Ok r) = Frame r.0 r.1
found_by (Result.Err e) = Fault (refusal_number e.refusal) e.at

-- what is found under an answer, refused at an offset
abbrev pub found_with : ℕ → ℕ → Numbers → ℕ → Found
found_with a at f l = cond (eqb a done) (Frame f l) (Fault a at)

unfoldable pub found_of : Sizes → List ℕ → Found
found_of z s =
    let k = told_kind s in
    found_with (read_answer z s) (read_offset z s) (numbers_in s k) (kind_length k)

-- what is read where this is found
abbrev pub reading_of : Found → Reading
reading_of (Frame f l) = Whole (message_of f) l
reading_of (Fault k at) = Refused k at

-- the answer of writing from what was found: of the message, of the bytes to write, and of the room
unfoldable pub answer_of : Sizes → ℕ → ℕ → ℕ → ℕ
answer_of z bad total room =
    first_of (unless (sizes_fit z) refused_cell ∷ bad ∷ unless (leb total room) refused_room ∷ [])
