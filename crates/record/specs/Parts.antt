-- The kinds of records in the code by their numbers, and with them the first two fields that it
-- reads. No claim rests on it. Assumes nothing.
use Rattle.std.specs.Prelude.{ℕ, Bool, cond, Option, Some, None}
use Rattle.std.specs.declared.result.Result.{Result}
use Rattle.base.specs.declared.Fault.{Fault}
use Rattle.base.specs.Answers.{refusal_number}
use Rattle.record.specs.declared.Kind.{Kind}
use Rattle.record.specs.Read.{Head}
use Rattle.record.specs.Record.{settings_kind, advance_all_kind, advance_one_kind, start_kind}
use Rattle.record.specs.Record.{deliver_kind, lose_kind, repeat_kind, restart_kind, release_kind}
use Rattle.record.specs.Record.{is_allowed}

abbrev pub kind_number : Kind → ℕ
kind_number Kind.Settings = settings_kind
kind_number Kind.AdvanceAll = advance_all_kind
kind_number Kind.AdvanceOne = advance_one_kind
kind_number Kind.Start = start_kind
kind_number Kind.Deliver = deliver_kind
kind_number Kind.Lose = lose_kind
kind_number Kind.Repeat = repeat_kind
kind_number Kind.Restart = restart_kind
kind_number Kind.Release = release_kind

abbrev pub kind_read : Option Kind → Option ℕ
kind_read None = None
kind_read (Some k) = Some (kind_number k)

-- the kind of a number that may stand there
abbrev pub allowed_kind : Bool → ℕ → Option ℕ
allowed_kind first k = cond (is_allowed first k) (Some k) None

-- a kind and the offset past the record; or the fault
abbrev pub numbered_head : Result (Kind × ℕ) Fault → Head
numbered_head (Result.Ok h) = Head.Whole (kind_number h.0) h.1
numbered_head (Result.Err f) = Head.Fault (refusal_number f.refusal) f.at
