-- The leaf rules of a host, in document 01's order, with document 02's changes, each with the
-- sentence it stands for. Assumes nothing.
use Rattle.std.specs.Prelude.{ℕ, ◌+◌, Bool, true, false, cond, not, ◌&&◌, ltb, leb, eqb}
use Rattle.std.specs.Prelude.{Option, Some, None}
use Rattle.quorum.specs.Sets.{is_in, is_majority}
use Rattle.message.specs.declared.Ballot.{Ballot}
use Rattle.message.specs.declared.KeepersEnd.{KeepersEnd}
use Rattle.message.specs.declared.LeaseUntil.{LeaseUntil}
use Rattle.message.specs.Leases.{Lease, Holder, LearnedLease}
use Rattle.message.specs.declared.Head.{Head}
use Rattle.message.specs.Message.{is_above, to_keepers}
use Rattle.rules.specs.declared.Value.{Value}
use Rattle.rules.specs.declared.Vote.{Vote}

-- ---- waiting, time and restart

-- 'until then the host is waiting'
abbrev pub is_waiting : ℕ → ℕ → Bool
is_waiting clock wait = ltb clock wait

-- 'the wait ends at clock + T + S'
unfoldable pub wait_end : ℕ → ℕ → ℕ → ℕ
wait_end clock longest spread = clock + longest + spread

-- 'drops an accepted lease .. whose end is at or below its clock'
abbrev pub lease_over : ℕ → Lease → Bool
lease_over clock l = leb l.end.0 clock

unfoldable pub accepted_at : ℕ → Option Lease → Option Lease
accepted_at clock None = None
accepted_at clock (Some l) = cond (lease_over clock l) None (Some l)

-- 'or named holder whose end is at or below its clock'
abbrev pub holder_over : ℕ → Holder → Bool
holder_over clock h = leb h.end.0 clock

unfoldable pub named_at : ℕ → Option Holder → Option Holder
named_at clock None = None
named_at clock (Some h) = cond (holder_over clock h) None (Some h)

-- ---- start

-- 'ballot (clock, host)'
abbrev pub ballot_at : ℕ → ℕ → Ballot
ballot_at clock number = record { tick = clock; host = number }

-- refusal 10 where it does not hold: the clock is above the last ballot's tick
unfoldable pub is_fresh : Option ℕ → ℕ → Bool
is_fresh None clock = true
is_fresh (Some t) clock = ltb t clock

-- ---- prepare request

-- 'nothing is promised or the ballot is above the promise'
unfoldable pub may_promise : Option Ballot → Ballot → Bool
may_promise None b = true
may_promise (Some p) b = is_above b p

-- ---- prepare response

-- 'from a host not yet counted'
abbrev pub counts_reply : ℕ → ℕ → Bool
counts_reply replied sender = not (is_in replied sender)

-- the reply carries 'a lease whose end is at or below the receiver's clock'
unfoldable pub has_ended : ℕ → Option Lease → Bool
has_ended clock None = false
has_ended clock (Some l) = leb l.end.0 clock

-- 'keep the reply with the highest accepted ballot, the earlier one at a tie'
abbrev pub replaces_kept : Lease → Lease → Bool
replaces_kept a b = is_above b.ballot a.ballot

unfoldable pub higher_of : Option Lease → Option Lease → Option Lease
higher_of None reply = reply
higher_of (Some a) None = Some a
higher_of (Some a) (Some b) =
    cond (replaces_kept a b) (Some b) (Some a)

-- 'such a response now counts as empty' (02; 004, algorithm 3, line 3): what was kept stays
unfoldable pub kept_after : ℕ → Option Lease → Option Lease → Option Lease
kept_after clock kept reply = cond (has_ended clock reply) kept (higher_of kept reply)

-- 'when the count reaches a majority': the set is one, and was none before
unfoldable pub acts_on : ℕ → ℕ → ℕ → Bool
acts_on n before after = cond (is_majority n before) false (is_majority n after)

-- 'the host's own, ending at ballot tick + duration + S': its holder's end is ballot tick +
-- duration
abbrev pub own_end : ℕ → ℕ → ℕ → KeepersEnd
own_end tick duration spread = to_keepers (record { 0 = tick + duration }) spread

abbrev pub value : ℕ → KeepersEnd → Value
value o e = record { owner = o; end = e }

-- of one's own end and the kept lease's, the first is as late or later
abbrev pub own_is_later : KeepersEnd → Lease → Bool
own_is_later own l = leb l.end.0 own.0

-- 'if no lease was kept, or its end has come, the lease is the host's own'; 'if the kept lease is
-- its own, the later of that end and the kept one'; 'else the kept lease unchanged'
unfoldable pub value_to_propose : ℕ → ℕ → KeepersEnd → Option Lease → Value
value_to_propose number clock own None = value number own
value_to_propose number clock own (Some l) =
    cond (leb l.end.0 clock) (value number own)
    (cond (eqb l.owner number)
    (cond (own_is_later own l) (value number own) (value l.owner l.end))
    (value l.owner l.end))

-- ---- propose request

-- 'its ballot is below the promise'
unfoldable pub is_forbidden : Option Ballot → Ballot → Bool
is_forbidden None b = false
is_forbidden (Some p) b = is_above p b

-- not 'if its end is at or below the clock, or its ballot is below the promise'
unfoldable pub may_accept : Option Ballot → ℕ → Lease → Bool
may_accept p clock l = cond (leb l.end.0 clock) false (not (is_forbidden p l.ballot))

-- 'promise that ballot, accept'
unfoldable pub after_accept : Lease → Vote
after_accept l = record { promised = Some l.ballot; accepted = Some l }

-- ---- propose response and learn

-- 'if the keepers' end is above clock + S'
abbrev pub naming_bound : ℕ → ℕ → ℕ
naming_bound clock spread = clock + spread

abbrev pub is_namable : ℕ → ℕ → KeepersEnd → Bool
is_namable clock spread end = ltb (naming_bound clock spread) end.0

-- neither 'a learn message that names its own receiver' (02) nor one of which 'its end is at or
-- below the clock'
unfoldable pub may_learn : ℕ → ℕ → LearnedLease → Bool
may_learn number clock m = cond (eqb m.owner number) false (not (leb m.end.0 clock))

-- 'naming replaces a named holder only if the new ballot is higher'
unfoldable pub named_by : Option Holder → Holder → Option Holder
named_by None h = Some h
named_by (Some k) h = cond (is_above h.ballot k.ballot) (Some h) (Some k)

-- ---- release and release request (02; 001, section 3.3)

-- refusal 18 where it does not hold: the host names itself
unfoldable pub names_itself : ℕ → Option Holder → Bool
names_itself number None = false
names_itself number (Some h) = eqb h.owner number

-- not 'below its promise'
unfoldable pub takes_release : Option Ballot → Ballot → Bool
takes_release p b = not (is_forbidden p b)

-- 'owned by the sender', and 'its ballot is lower'
abbrev pub is_freed : Head → ℕ → Ballot → Bool
is_freed m o b = eqb o m.sender && is_above m.ballot b

-- what is held is dropped if it is freed, whichever end it has
unfoldable pub freed : {End : Type 0} → Head → Option (LeaseUntil End) → Option (LeaseUntil End)
freed m None = None
freed m (Some l) = cond (is_freed m l.owner l.ballot) None (Some l)

-- 'drops an accepted lease .. owned by the sender if its ballot is lower'
abbrev pub freed_lease : Head → Option Lease → Option Lease
freed_lease m a = freed m a

-- 'or named holder'
abbrev pub freed_holder : Head → Option Holder → Option Holder
freed_holder m k = freed m k

-- 'it promises that ballot, and drops an accepted lease ..'
unfoldable pub after_release : Vote → Head → Vote
after_release v m =
    record { promised = Some m.ballot; accepted = freed_lease m v.accepted }
