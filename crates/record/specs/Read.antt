-- What reading a record gives, a fault by its number in documents 01 and 02, and what the code's
-- answers are in these words. Assumes nothing.
use Rattle.std.specs.Prelude.{ℕ}
use Rattle.std.specs.declared.result.Result.{Result}
use Rattle.base.specs.declared.Fault as base
use Rattle.base.specs.Answers.{refusal_number}
use Rattle.state.specs.declared.Settings.{Settings}
use Rattle.cell.specs.declared.Event as cell
use Rattle.record.specs.declared.Record.{Record as Answer}

-- A fault's offset is counted from the record's start.

-- the first two fields of a record, found right: its kind and the offset past it; or the fault
pub data Head : Type 0 where
  Fault : ℕ → ℕ → Head
  Whole : ℕ → ℕ → Head

-- the file's end; the fault; or an event and the offset of the next record
pub data Record : Type 0 where
  End : Record
  Fault : ℕ → ℕ → Record
  Event : cell.Event → ℕ → Record

-- what the first record says, settings and opening clock; or the fault
pub data First : Type 0 where
  Fault : ℕ → ℕ → First
  Given : Settings → ℕ → First

-- ---- the code's answers

abbrev pub numbered_record : Answer → Record
numbered_record Answer.End = Record.End
numbered_record (Answer.Fault f o) = Record.Fault f o
numbered_record (Answer.Event e next) = Record.Event e next

abbrev pub numbered_first : Result (Settings × ℕ) base.Fault → First
numbered_first (Result.Ok g) = First.Given g.0 g.1
numbered_first (Result.Err f) = First.Fault (refusal_number f.refusal) f.at
