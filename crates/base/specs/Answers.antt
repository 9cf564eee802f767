-- The numbers of answers: what the code's refusals are in documents 01 and 02. Assumes nothing.
use Rattle.std.specs.Prelude.{ℕ}
use Rattle.std.specs.declared.result.Result.{Result}
use Rattle.base.specs.declared.Refusal.{Refusal}
use Rattle.base.specs.Refusals.{done, refused_cell, refused_cut, refused_kind, refused_length}
use Rattle.base.specs.Refusals.{refused_host, refused_tick, refused_party, refused_room}
use Rattle.base.specs.Refusals.{refused_waiting, refused_same_tick, refused_duration, refused_slot}
use Rattle.base.specs.Refusals.{refused_full, refused_spread, refused_clock, refused_long}
use Rattle.base.specs.Refusals.{refused_short, refused_not_holder}

unfoldable pub refusal_number : Refusal → ℕ
refusal_number Refusal.Cell = refused_cell
refusal_number Refusal.Cut = refused_cut
refusal_number Refusal.Kind = refused_kind
refusal_number Refusal.Length = refused_length
refusal_number Refusal.Host = refused_host
refusal_number Refusal.Tick = refused_tick
refusal_number Refusal.Party = refused_party
refusal_number Refusal.Room = refused_room
refusal_number Refusal.Waiting = refused_waiting
refusal_number Refusal.SameTick = refused_same_tick
refusal_number Refusal.Duration = refused_duration
refusal_number Refusal.Slot = refused_slot
refusal_number Refusal.Full = refused_full
refusal_number Refusal.Spread = refused_spread
refusal_number Refusal.Clock = refused_clock
refusal_number Refusal.Long = refused_long
refusal_number Refusal.Short = refused_short
refusal_number Refusal.NotHolder = refused_not_holder

-- 0 is done
unfoldable pub answer_of : {A : Type 0} → Result A Refusal → ℕ
answer_of (Result.Ok x) = done
answer_of (Result.Err k) = refusal_number k
