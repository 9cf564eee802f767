-- What a restart leaves of a host's state, 'everything but the clock is forgotten', and the test
-- for it. Assumes nothing.
use Rattle.message.specs.declared.Ballot.{Ballot}
use Rattle.message.specs.Leases.{Lease, Holder}
use Rattle.std.specs.Prelude.{ℕ, Bool, true, false, [], ◌∷◌, Option, Some, None}
use Rattle.base.specs.Lists.{all_of}
use Rattle.state.specs.declared.Round.{Round}
use Rattle.state.specs.declared.State.{State}

abbrev pub blank_state : State
blank_state =
    record {
      promised = None;
      accepted = None;
      last = None;
      round = Round.Idle;
      named = None;
    }

unfoldable pub no_promise : Option Ballot → Bool
no_promise None = true
no_promise (Some b) = false

unfoldable pub no_lease : Option Lease → Bool
no_lease None = true
no_lease (Some l) = false

unfoldable pub no_tick : Option ℕ → Bool
no_tick None = true
no_tick (Some t) = false

unfoldable pub no_round : Round → Bool
no_round Round.Idle = true
no_round (Round.Asking a) = false
no_round (Round.Proposing p) = false

unfoldable pub no_holder : Option Holder → Bool
no_holder None = true
no_holder (Some k) = false

unfoldable pub is_blank_state : State → Bool
is_blank_state t =
    all_of (
    no_promise t.promised
    ∷ no_lease t.accepted
    ∷ no_tick t.last
    ∷ no_round t.round
    ∷ no_holder t.named
    ∷ []
    )
