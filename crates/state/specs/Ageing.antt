-- What the rise of a clock leaves of a host's state. Assumes nothing.
use Rattle.std.specs.Prelude.{ℕ}
use Rattle.rules.specs.Rules.{accepted_at, named_at}
use Rattle.state.specs.declared.State.{State}

-- 'drops an accepted lease or named holder whose end is at or below its clock'
unfoldable pub aged_at : ℕ → State → State
aged_at clock t = record {
  promised = t.promised;
  accepted = accepted_at clock t.accepted;
  last = t.last;
  round = t.round;
  named = named_at clock t.named;
}
