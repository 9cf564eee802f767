-- What opening or an event comes to, as documents 01 and 02 have it, and what the code of these
-- hands back as that. Assumes nothing.
use Rattle.std.specs.Prelude.{ℕ, cond, List, eqb}
use Rattle.std.specs.declared.result.Result.{Result}
use Rattle.base.specs.declared.Refusal.{Refusal}
use Rattle.base.specs.Refusals.{refused_full}
use Rattle.base.specs.Answers.{refusal_number, answer_of}
use Rattle.state.specs.declared.Settings.{Settings}
use Rattle.host.specs.declared.Host.{Host}
use Rattle.slots.specs.declared.Slot.{Slot}
use Rattle.slots.specs.Slots.{slot_count}
use Rattle.cell.specs.declared.Answered.{Answered as HandedBack}

-- the answer's number, how many slots were looked at to place what was sent, and the cell, side by
-- side
pub record Answered : Type 0 where
  pub answer : ℕ
  pub looked : ℕ
  pub settings : Settings
  pub hosts : List Host
  pub slots : List Slot

-- how many slots an answer tells of: '96 when it ends in 13', none where anything else refuses
unfoldable pub looked_in : Result ℕ Refusal → ℕ
looked_in (Result.Ok k) = k
looked_in (Result.Err r) = cond (eqb (refusal_number r) refused_full) slot_count 0

unfoldable pub told : HandedBack → Answered
told a =
    record {
      answer = answer_of a.answer;
      looked = looked_in a.answer;
      settings = a.cell.settings;
      hosts = a.cell.hosts;
      slots = a.cell.slots;
    }
