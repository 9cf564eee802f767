-- What reading gives: a message and its frame's length, or the number of the first refusal that
-- applies and the offset at which it is found. Assumes nothing.
use Rattle.std.specs.Prelude.{ℕ, cond, List, [], ◌∷◌, ◌++◌, length, leb, eqb}
use Rattle.std.specs.declared.result.Result.{Result}
use Rattle.base.specs.declared.Fault.{Fault}
use Rattle.base.specs.Answers.{refusal_number}
use Rattle.base.specs.Refusals.{test, Refusal, refusal, answer_by, place_by}
use Rattle.base.specs.Refusals.{done, refused_cell, refused_cut, refused_kind}
use Rattle.wire.specs.Wire.{number_at}
use Rattle.message.specs.declared.Sizes.{Sizes}
use Rattle.message.specs.declared.Message.{Message}
use Rattle.message.specs.Message.{known_kind, message_of}
use Rattle.message.specs.Faults.{sizes_fit, refusals_of}
use Rattle.message.specs.Faults.{Field, settings, lent_bytes, frame_length, kind_number}
use Rattle.layout.specs.Layout.{width_of, kind_length, place_in, numbers_in}
use Rattle.layout.specs.Layout.{length_offset, kind_offset, fore_length, length_refusals}

-- what reading gives: a message with its frame's length, or the number of the refusal and the
-- offset in the lent bytes at which it is found
pub data Reading : Type 0 where
  Whole : Message → ℕ → Reading
  Refused : ℕ → ℕ → Reading

-- this paper's number and values for each case of the code's result
abbrev pub reading_by : Result (Message × ℕ) Fault → Reading
reading_by (Result.Ok r) = Whole r.0 r.1
reading_by (Result.Err e) = Refused (refusal_number e.refusal) e.at

-- the first two fields of lent bytes
abbrev pub told_length : List ℕ → ℕ
told_length s = number_at s length_offset (width_of frame_length)

abbrev pub told_kind : List ℕ → ℕ
told_kind s = number_at s kind_offset (width_of kind_number)

-- 1, 2 (under 4 bytes), 3, what the length field is refused by, 2, then 5, 6, 7 of the message
abbrev pub refusals_with : List (Refusal Field) → Sizes → List ℕ → List (Refusal Field)
refusals_with lengths z s =
    refusal refused_cell (test settings (sizes_fit z) ∷ [])
    ∷ refusal refused_cut (test lent_bytes (leb fore_length (length s)) ∷ [])
    ∷ refusal refused_kind (test kind_number (known_kind (told_kind s)) ∷ [])
    ∷ (lengths
    ++ (refusal refused_cut (test lent_bytes (leb (kind_length (told_kind s)) (length s)) ∷ [])
    ∷ refusals_of z (numbers_in s (told_kind s))))

-- 17 or 4 in the length field's place
abbrev pub read_refusals : Sizes → List ℕ → List (Refusal Field)
read_refusals z s = refusals_with (length_refusals (told_length s) (kind_length (told_kind s))) z s

unfoldable pub read_answer : Sizes → List ℕ → ℕ
read_answer z s = answer_by (read_refusals z s)

-- the offset, in the lent bytes, of the first field that gives this number
unfoldable pub read_offset : Sizes → List ℕ → ℕ
read_offset z s = place_by (place_in (length s) (told_kind s)) (read_refusals z s)

-- what is read under an answer, refused at an offset
abbrev pub read_with : ℕ → ℕ → Message → ℕ → Reading
read_with a at m l = cond (eqb a done) (Whole m l) (Refused a at)

unfoldable pub read_of : Sizes → List ℕ → Reading
read_of z s =
    let k = told_kind s in
    read_with (read_answer z s) (read_offset z s) (message_of (numbers_in s k)) (kind_length k)

-- the number, the length and the offset for each case: a refused reading has length 0, and no
-- message; one that is not refused has offset 0
abbrev pub number_of : Reading → ℕ
number_of (Whole m l) = done
number_of (Refused k at) = k

abbrev pub length_of : Reading → ℕ
length_of (Whole m l) = l
length_of (Refused k at) = 0

abbrev pub refused_at : Reading → ℕ
refused_at (Whole m l) = 0
refused_at (Refused k at) = at
