-- The limits of document 01 on the numbers of a host and of its settings: a value past one of them
-- is refused by 1. Assumes nothing.
use Rattle.message.specs.Leases.{Lease, Holder}
use Rattle.std.specs.Prelude.{ℕ, ◌+◌, ◌^◌, Bool, true, List, [], ◌∷◌, ltb, leb, eqb}
use Rattle.std.specs.Prelude.{Option, Some, None}
use Rattle.base.specs.Refusals.{Test, test, all_hold}
use Rattle.base.specs.Lists.{all_of}
use Rattle.quorum.specs.Sets.{cell_fits, is_below}
use Rattle.message.specs.declared.Sizes.{Sizes}
use Rattle.message.specs.declared.Ballot.{Ballot}
use Rattle.message.specs.Message.{last_tick, last_end}
use Rattle.message.specs.Faults.{sizes}
use Rattle.state.specs.declared.Settings.{Settings}
use Rattle.state.specs.declared.Asking.{Asking}
use Rattle.state.specs.declared.Proposing.{Proposing}
use Rattle.state.specs.declared.Round.{Round}
use Rattle.state.specs.declared.State.{State}

-- the longest T
unfoldable pub last_longest : ℕ
last_longest = 2 ^ 31

-- what whoever reads or writes a cell's frames is handed
abbrev pub sizes_of : Settings → Sizes
sizes_of s = sizes s.n

-- the fields that a refusal of opening may be found at: n, T, S, and the clock that it sets
pub data OpeningField : Type 0 where
  host_count : OpeningField
  longest_lease : OpeningField
  clock_spread : OpeningField
  opening_clock : OpeningField

-- n is 1 to 9, T 1 to 2^31, S 0 to T - 1
abbrev pub settings_tests : Settings → List (Test OpeningField)
settings_tests s =
    test host_count (cell_fits s.n)
    ∷ test longest_lease (leb 1 s.longest)
    ∷ test longest_lease (leb s.longest last_longest)
    ∷ test clock_spread (ltb s.spread s.longest)
    ∷ []

unfoldable pub settings_ok : Settings → Bool
settings_ok s = all_hold (settings_tests s)

-- at most T - S
unfoldable pub duration_ok : Settings → ℕ → Bool
duration_ok s d = leb (d + s.spread) s.longest

-- 'any number in it is above those given here .., a host number or set reaches n': of each part of
-- a host
unfoldable pub ballot_ok : ℕ → Ballot → Bool
ballot_ok n b = all_of (leb b.tick last_tick ∷ ltb b.host n ∷ [])

-- of a lease, or a holder, of this ballot, owner and end
unfoldable pub lease_ok : ℕ → Ballot → ℕ → ℕ → Bool
lease_ok n b owner end = all_of (ballot_ok n b ∷ ltb owner n ∷ leb end last_end ∷ [])

unfoldable pub accepted_ok : ℕ → Option Lease → Bool
accepted_ok n None = true
accepted_ok n (Some l) = lease_ok n l.ballot l.owner l.end.0

unfoldable pub promised_ok : ℕ → Option Ballot → Bool
promised_ok n None = true
promised_ok n (Some b) = ballot_ok n b

unfoldable pub last_ok : Option ℕ → Bool
last_ok None = true
last_ok (Some t) = leb t last_tick

unfoldable pub named_ok : ℕ → Option Holder → Bool
named_ok n None = true
named_ok n (Some h) = lease_ok n h.ballot h.owner h.end.0

-- a round's ballot is the host's own
unfoldable pub asking_ok : Settings → ℕ → Asking → Bool
asking_ok s number a =
    all_of (
    eqb a.ballot.host number
    ∷ ballot_ok s.n a.ballot
    ∷ duration_ok s a.duration
    ∷ is_below a.replied s.n
    ∷ accepted_ok s.n a.kept
    ∷ []
    )

unfoldable pub proposing_ok : Settings → ℕ → Proposing → Bool
proposing_ok s number p =
    all_of (
    eqb p.ballot.host number
    ∷ lease_ok s.n p.ballot p.owner p.end.0
    ∷ is_below p.replied s.n
    ∷ []
    )

unfoldable pub round_ok : Settings → ℕ → Round → Bool
round_ok s number Round.Idle = true
round_ok s number (Round.Asking a) = asking_ok s number a
round_ok s number (Round.Proposing p) = proposing_ok s number p

unfoldable pub state_ok : Settings → ℕ → State → Bool
state_ok s number t =
    all_of (
    promised_ok s.n t.promised
    ∷ accepted_ok s.n t.accepted
    ∷ last_ok t.last
    ∷ round_ok s number t.round
    ∷ named_ok s.n t.named
    ∷ []
    )
