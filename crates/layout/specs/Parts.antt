-- Lengths and offsets that the code has by name, the groups of fields that it reads together, and
-- the room that it writes into. Assumes nothing.
use Rattle.std.specs.Prelude.{◌≡◌, cond, List, ℕ, ◌+◌, ◌≤◌, length, eqb}
use Rattle.wire.specs.Wire.{number_at}
use Rattle.message.specs.declared.Ballot.{Ballot}
use Rattle.message.specs.declared.Head.{Head}
use Rattle.message.specs.Leases.{Lease}
use Rattle.message.specs.declared.Numbers.{Numbers}
use Rattle.message.specs.Message.{prepare_request, prepare_response_lease, propose_request}
use Rattle.message.specs.Message.{head_with}
use Rattle.message.specs.Faults.{Field, sender, target, ballot_tick, ballot_host, accepted_tick}
use Rattle.message.specs.Faults.{accepted_host, owner, keepers_end, holders_end}
use Rattle.layout.specs.declared.LaterField.{LaterField}
use Rattle.layout.specs.Layout.{width_of, kind_length, offset_of}

-- where the ballot begins, and how long the head is, the fields that every frame begins with
abbrev pub ballot_offset : ℕ
ballot_offset = 6

abbrev pub head_length : ℕ
head_length = 15

-- how long the longest frame is
abbrev pub most_length : ℕ
most_length = 33

-- the number in a field of a frame of kind k
abbrev pub field_at : List ℕ → ℕ → Field → ℕ
field_at s k x = number_at s (offset_of k x) (width_of x)

-- the fields of the code that not every kind has
abbrev pub later : LaterField → Field
later LaterField.AcceptedTick = accepted_tick
later LaterField.AcceptedHost = accepted_host
later LaterField.Owner = owner
later LaterField.KeepersEnd = keepers_end
later LaterField.HoldersEnd = holders_end

-- a ballot's tick and host, one behind the other
abbrev pub ballot_at : List ℕ → ℕ → Ballot
ballot_at s at = record {
  tick = number_at s at (width_of ballot_tick);
  host = number_at s (at + width_of ballot_tick) (width_of ballot_host);
}

-- the head stands alike in every kind; a prepare request is nothing else
abbrev pub head_at : List ℕ → Head
head_at s =
    let at = field_at s prepare_request in
    head_with (at sender) (at target) (record { tick = at ballot_tick; host = at ballot_host })

abbrev pub lease_at : List ℕ → Lease
lease_at s =
    let at = field_at s prepare_response_lease in
    record {
      ballot = record { tick = at accepted_tick; host = at accepted_host };
      owner = at owner;
      end = record { 0 = at keepers_end };
    }

-- the end in a proposal or a learn message
unfoldable pub value_end : Numbers → ℕ
value_end f = cond (eqb f.kind propose_request) f.keepers.0 f.holders.0

-- len is the length of a frame of these numbers, and `out` has this many bytes
pub record Room (f : Numbers) (len bytes : ℕ) (out : List ℕ) : Type 0 where
  pub long : len ≡ kind_length f.kind
  pub room : bytes ≤ length out
