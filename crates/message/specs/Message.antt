-- Document 01's ballots, ends, messages and kinds, and a message as numbers. Assumes nothing.
use Rattle.std.specs.Prelude.{ℕ, ◌+◌, ◌-◌, ◌^◌, Bool, cond, ◌&&◌, ◌||◌, ltb, leb, eqb}
use Rattle.message.specs.declared.Ballot.{Ballot}
use Rattle.message.specs.declared.KeepersEnd.{KeepersEnd}
use Rattle.message.specs.declared.HoldersEnd.{HoldersEnd}
use Rattle.message.specs.declared.Head.{Head}
use Rattle.message.specs.declared.Numbers.{Numbers}
use Rattle.message.specs.declared.Message.{Message}
use Rattle.message.specs.declared.Message.TheVariants.{PrepareRequest, PrepareResponseEmpty}
use Rattle.message.specs.declared.Message.TheVariants.{PrepareResponseLease, ProposeRequest}
use Rattle.message.specs.declared.Message.TheVariants.{ProposeResponse, Learn}
use Rattle.message.specs.declared.Message.TheVariants.{ReleaseRequest}

-- ---- ticks and ends

-- the last tick of a clock
unfoldable pub last_tick : ℕ
last_tick = 2 ^ 48

-- the last end of a lease
unfoldable pub last_end : ℕ
last_end = 2 ^ 48 + 2 ^ 31

-- the holder's end is S ticks before the keepers' end
abbrev pub to_holders : KeepersEnd → ℕ → HoldersEnd
to_holders e spread = record { 0 = e.0 - spread }

abbrev pub to_keepers : HoldersEnd → ℕ → KeepersEnd
to_keepers e spread = record { 0 = e.0 + spread }

-- ---- ballots, ordered by tick, then host (004)

unfoldable pub is_above : Ballot → Ballot → Bool
is_above a b = cond (eqb a.tick b.tick) (ltb b.host a.host) (ltb b.tick a.tick)

abbrev pub is_same : Ballot → Ballot → Bool
is_same a b = eqb a.tick b.tick && eqb a.host b.host

-- ---- the kinds

abbrev pub prepare_request : ℕ
prepare_request = 1

abbrev pub prepare_response_empty : ℕ
prepare_response_empty = 2

abbrev pub prepare_response_lease : ℕ
prepare_response_lease = 3

abbrev pub propose_request : ℕ
propose_request = 4

abbrev pub propose_response : ℕ
propose_response = 5

abbrev pub learn : ℕ
learn = 6

abbrev pub release_request : ℕ
release_request = 7

-- whether a number is a kind
unfoldable pub known_kind : ℕ → Bool
known_kind k = leb prepare_request k && leb k release_request

-- the kinds that answer a request: their target is the ballot's host, and of any other kind the
-- sender is
unfoldable pub is_response : ℕ → Bool
is_response k =
    eqb k prepare_response_empty || (eqb k prepare_response_lease || eqb k propose_response)

-- ---- a message as numbers

abbrev pub no_ballot : Ballot
no_ballot = record { tick = 0; host = 0 }

abbrev pub no_keepers : KeepersEnd
no_keepers = record { 0 = 0 }

abbrev pub no_holders : HoldersEnd
no_holders = record { 0 = 0 }

abbrev pub head_with : ℕ → ℕ → Ballot → Head
head_with s t b = record { sender = s; target = t; ballot = b }

abbrev pub numbers_with : ℕ → Head → Ballot → ℕ → KeepersEnd → HoldersEnd → Numbers
numbers_with k h a o e f =
    record {
      kind = k;
      sender = h.sender;
      target = h.target;
      ballot = h.ballot;
      accepted = a;
      owner = o;
      keepers = e;
      holders = f;
    }

-- those of a kind that has no more than a head
abbrev pub head_numbers : ℕ → Head → Numbers
head_numbers k h = numbers_with k h no_ballot 0 no_keepers no_holders

-- the numbers of a message; those that its kind lacks are 0
unfoldable pub numbers_of : Message → Numbers
numbers_of (PrepareRequest h) = head_numbers prepare_request h
numbers_of (PrepareResponseEmpty h) =
    head_numbers prepare_response_empty h
numbers_of (PrepareResponseLease m) =
    numbers_with prepare_response_lease m.head m.accepted.ballot m.accepted.owner
    m.accepted.end no_holders
numbers_of (ProposeRequest m) =
    numbers_with propose_request m.head no_ballot m.owner m.end no_holders
numbers_of (ProposeResponse h) = head_numbers propose_response h
numbers_of (Learn m) = numbers_with learn m.head no_ballot m.owner no_keepers m.end
numbers_of (ReleaseRequest h) = head_numbers release_request h

abbrev pub head_of : Numbers → Head
head_of f = head_with f.sender f.target f.ballot

-- the message that numbers of a kind are of; a number that is no kind is taken as a
-- release request's, and callers have refused it before, by 3
unfoldable pub message_of : Numbers → Message
message_of f =
    cond (eqb f.kind prepare_request) (PrepareRequest (head_of f))
    (cond (eqb f.kind prepare_response_empty) (PrepareResponseEmpty (head_of f))
    (cond (eqb f.kind prepare_response_lease)
    (PrepareResponseLease
    (record {
      head = head_of f;
      accepted = record { ballot = f.accepted; owner = f.owner; end = f.keepers };
    }))
    (cond (eqb f.kind propose_request)
    (ProposeRequest (record { head = head_of f; owner = f.owner; end = f.keepers }))
    (cond (eqb f.kind propose_response) (ProposeResponse (head_of f))
    (cond (eqb f.kind learn)
    (Learn (record { head = head_of f; owner = f.owner; end = f.holders }))
    (ReleaseRequest (head_of f)))))))

-- the same to another target
abbrev pub with_target : Numbers → ℕ → Numbers
with_target f h =
    record {
      kind = f.kind;
      sender = f.sender;
      target = h;
      ballot = f.ballot;
      accepted = f.accepted;
      owner = f.owner;
      keepers = f.keepers;
      holders = f.holders;
    }

unfoldable pub addressed_to : Message → ℕ → Message
addressed_to m h = message_of (with_target (numbers_of m) h)

abbrev pub target_of : Message → ℕ
target_of m = (numbers_of m).target
