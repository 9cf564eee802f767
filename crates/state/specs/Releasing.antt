-- What a release (02) leaves of the state of the host that lets go, and of the state of a host that
-- takes its request. Assumes nothing.
use Rattle.std.specs.Prelude.{ℕ, Some, None}
use Rattle.message.specs.declared.Head.{Head}
use Rattle.rules.specs.declared.Vote.{Vote}
use Rattle.rules.specs.Rules.{freed_holder, after_release}
use Rattle.state.specs.declared.Round.{Round}
use Rattle.state.specs.declared.State.{State}

-- 'it stops naming itself, drops its round, takes a ballot'
abbrev pub released_at : ℕ → State → State
released_at clock t = record {
  promised = t.promised;
  accepted = t.accepted;
  last = Some clock;
  round = Round.Idle;
  named = None;
}

abbrev pub vote_of : State → Vote
vote_of t = record { promised = t.promised; accepted = t.accepted }

-- 'it promises that ballot, and drops an accepted lease or named holder owned by the sender if its
-- ballot is lower'
abbrev pub freed_by : Head → State → State
freed_by m t = record {
  promised = (after_release (vote_of t) m).promised;
  accepted = (after_release (vote_of t) m).accepted;
  last = t.last;
  round = t.round;
  named = freed_holder m t.named;
}
