-- What is refused in a message, by number and field: 5, 6 and 7 of document 01. Assumes nothing.
use Rattle.std.specs.Prelude.{ℕ, Bool, cond, List, [], ◌∷◌, ltb, leb, eqb}
use Rattle.base.specs.Refusals.{Test, test, Refusal, refusal, answer_by, refused_host, refused_tick}
use Rattle.base.specs.Refusals.{refused_party}
use Rattle.quorum.specs.Sets.{cell_fits, is_below, is_only}
use Rattle.message.specs.declared.Sizes.{Sizes}
use Rattle.message.specs.declared.Numbers.{Numbers}
use Rattle.message.specs.Message.{last_tick, last_end, is_response}

-- the fields that a refusal may be found at: those of a frame, the settings handed in beside it,
-- and the lent bytes themselves
pub data Field : Type 0 where
  settings : Field
  lent_bytes : Field
  frame_length : Field
  kind_number : Field
  sender : Field
  target : Field
  ballot_tick : Field
  ballot_host : Field
  accepted_tick : Field
  accepted_host : Field
  owner : Field
  keepers_end : Field
  holders_end : Field

-- what is handed beside a frame, from its numbers
abbrev pub sizes : ℕ → Sizes
sizes n = record { n = n }

-- 1: how many hosts the cell has
abbrev pub sizes_fit : Sizes → Bool
sizes_fit z = cell_fits z.n

-- 5: a host number of n or more
abbrev pub host_tests : Sizes → Numbers → Bool → List (Test Field)
host_tests z f targetFits =
    test sender (ltb f.sender z.n)
    ∷ test target targetFits
    ∷ test ballot_host (ltb f.ballot.host z.n)
    ∷ test accepted_host (ltb f.accepted.host z.n)
    ∷ test owner (ltb f.owner z.n)
    ∷ []

-- 6: a tick or an end above its limit
abbrev pub tick_tests : Numbers → List (Test Field)
tick_tests f =
    test ballot_tick (leb f.ballot.tick last_tick)
    ∷ test accepted_tick (leb f.accepted.tick last_tick)
    ∷ test keepers_end (leb f.keepers.0 last_end)
    ∷ test holders_end (leb f.holders.0 last_end)
    ∷ []

-- which of sender and target has to be the ballot's host
abbrev pub party_field : Numbers → Field
party_field f = cond (is_response f.kind) target sender

-- 5, 6, 7, given what was found of the target and of the party
abbrev pub message_refusals : Sizes → Numbers → Bool → Bool → List (Refusal Field)
message_refusals z f targetFits party_fits =
    refusal refused_host (host_tests z f targetFits)
    ∷ refusal refused_tick (tick_tests f)
    ∷ refusal refused_party (test (party_field f) party_fits ∷ [])
    ∷ []

-- a message to its own target: in a response that is the ballot's host, in any other the sender is
unfoldable pub party_fits : Numbers → Bool
party_fits f =
    cond (is_response f.kind) (eqb f.target f.ballot.host)
    (eqb f.sender f.ballot.host)

abbrev pub refusals_of : Sizes → Numbers → List (Refusal Field)
refusals_of z f = message_refusals z f (ltb f.target z.n) (party_fits f)

unfoldable pub fault_of : Sizes → Numbers → ℕ
fault_of z f = answer_by (refusals_of z f)

-- a message to a set of receivers, its own target not looked at: the set names no host of n or
-- more, and in a response none but the ballot's host
unfoldable pub party_fits_to : Numbers → ℕ → Bool
party_fits_to f set =
    cond (is_response f.kind) (is_only set f.ballot.host) (eqb f.sender f.ballot.host)

abbrev pub refusals_to : Sizes → Numbers → ℕ → List (Refusal Field)
refusals_to z f set = message_refusals z f (is_below set z.n) (party_fits_to f set)

unfoldable pub fault_to : Sizes → Numbers → ℕ → ℕ
fault_to z f set = answer_by (refusals_to z f set)
