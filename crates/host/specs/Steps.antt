-- The steps of one host, in document 01's order, with document 02's changes: what is refused and
-- what is done, apart. Assumes nothing.
use Rattle.std.specs.Prelude.{ℕ, ◌+◌, ◌^◌, Bool, cond, not, [], ◌∷◌, ltb, leb, eqb}
use Rattle.std.specs.Prelude.{Option, Some, None}
use Rattle.base.specs.Refusals.{done, unless, first_of, refused_cell, refused_party}
use Rattle.base.specs.Refusals.{refused_waiting}
use Rattle.base.specs.Refusals.{refused_same_tick, refused_duration, refused_clock}
use Rattle.base.specs.Refusals.{refused_not_holder}
use Rattle.base.specs.Lists.{all_of}
use Rattle.quorum.specs.Sets.{single_of, with_host, everyone_of, others_of}
use Rattle.message.specs.declared.Ballot.{Ballot}
use Rattle.message.specs.Leases.{Lease, Holder, Proposal, LearnedLease}
use Rattle.message.specs.declared.Head.{Head}
use Rattle.message.specs.declared.Message.{Message}
use Rattle.message.specs.declared.Message.TheVariants.{PrepareRequest, PrepareResponseEmpty}
use Rattle.message.specs.declared.Message.TheVariants.{PrepareResponseLease, ProposeRequest}
use Rattle.message.specs.declared.Message.TheVariants.{ProposeResponse, Learn, ReleaseRequest}
use Rattle.message.specs.Message.{last_tick, is_same, to_holders, numbers_of, head_with, target_of}
use Rattle.message.specs.Faults.{fault_of}
use Rattle.rules.specs.declared.Value.{Value}
use Rattle.rules.specs.Rules.{is_waiting, wait_end, ballot_at, is_fresh, may_promise, counts_reply}
use Rattle.rules.specs.Rules.{kept_after, acts_on, own_end, value_to_propose, may_accept}
use Rattle.rules.specs.Rules.{after_accept, is_namable, may_learn, named_by, names_itself}
use Rattle.rules.specs.Rules.{takes_release}
use Rattle.state.specs.declared.Settings.{Settings}
use Rattle.state.specs.declared.Asking.{Asking}
use Rattle.state.specs.declared.Proposing.{Proposing}
use Rattle.state.specs.declared.Round.{Round}
use Rattle.state.specs.declared.State.{State}
use Rattle.state.specs.StateLimits.{settings_ok, duration_ok, state_ok, sizes_of}
use Rattle.state.specs.Ageing.{aged_at}
use Rattle.state.specs.Blank.{blank_state}
use Rattle.state.specs.Releasing.{released_at, freed_by}
use Rattle.host.specs.declared.Host.{Host}
use Rattle.host.specs.Stepped.{Stepped}

-- ---- limits

-- the last end of a wait
unfoldable pub last_wait : ℕ
last_wait = 2 ^ 48 + 2 ^ 32

-- 1 where it does not hold: settings and host within their limits
unfoldable pub host_ok : Settings → Host → Bool
host_ok s h =
    all_of (
    settings_ok s
    ∷ ltb h.number s.n
    ∷ leb h.clock last_tick
    ∷ leb h.wait last_wait
    ∷ state_ok s h.number h.state
    ∷ []
    )

-- ---- parts of a step

-- this host with this answer, and nothing sent
abbrev pub unsent_with : ℕ → Host → Stepped
unsent_with a h = record { answer = a; host = h; sent = None; receivers = 0 }

-- refused by this number: the host that was handed in
abbrev pub refused_with : ℕ → Host → Stepped
refused_with k h = unsent_with k h

-- done, with this host and nothing to send
abbrev pub quiet_with : Host → Stepped
quiet_with h = unsent_with done h

-- done, with this host and this message to these hosts
abbrev pub sending_with : Host → Message → ℕ → Stepped
sending_with h m set = record { answer = done; host = h; sent = Some m; receivers = set }

-- what was done where nothing was refused, else what was handed in with the refusal's number
abbrev pub step_with : ℕ → Host → Stepped → Stepped
step_with a h step = cond (eqb a done) step (refused_with a h)

abbrev pub with_state : Host → State → Host
with_state h t = record { number = h.number; clock = h.clock; wait = h.wait; state = t }

abbrev pub with_round : Host → Round → Host
with_round h r =
    with_state h
    (record {
      promised = h.state.promised;
      accepted = h.state.accepted;
      last = h.state.last;
      round = r;
      named = h.state.named;
    })

abbrev pub with_vote : Host → Option Ballot → Option Lease → Host
with_vote h p a =
    with_state h
    (record {
      promised = p;
      accepted = a;
      last = h.state.last;
      round = h.state.round;
      named = h.state.named;
    })

abbrev pub with_named : Host → Round → Option Holder → Host
with_named h r m =
    with_state h
    (record {
      promised = h.state.promised;
      accepted = h.state.accepted;
      last = h.state.last;
      round = r;
      named = m;
    })

-- the target of a message that is handed to a set of receivers: free in document 01, and not looked
-- at by writing to a set
abbrev pub any_target : ℕ
any_target = 0

abbrev pub head_from : Host → Ballot → Head
head_from h b = head_with h.number any_target b

-- ---- advance by d: 1, 15

unfoldable pub advance_refusal : Settings → Host → ℕ → ℕ
advance_refusal s h d =
    first_of (
    unless (host_ok s h) refused_cell
    ∷ unless (not (eqb d 0)) refused_clock
    ∷ unless (leb (h.clock + d) last_tick) refused_clock
    ∷ []
    )

-- 'the clock .. go up by d. A host whose clock moved then drops an accepted lease or named holder
-- whose end is at or below its clock'
unfoldable pub advanced_host : Host → ℕ → Host
advanced_host h d =
    record {
      number = h.number;
      clock = h.clock + d;
      wait = h.wait;
      state = aged_at (h.clock + d) h.state;
    }

unfoldable pub advance_of : Settings → Host → ℕ → Stepped
advance_of s h d = step_with (advance_refusal s h d) h (quiet_with (advanced_host h d))

-- ---- restart: 1

unfoldable pub restart_refusal : Settings → Host → ℕ
restart_refusal s h = first_of (unless (host_ok s h) refused_cell ∷ [])

-- 'everything but the clock is forgotten'
unfoldable pub restarted_host : Settings → Host → Host
restarted_host s h =
    record {
      number = h.number;
      clock = h.clock;
      wait = wait_end h.clock s.longest s.spread;
      state = blank_state;
    }

unfoldable pub restart_of : Settings → Host → Stepped
restart_of s h = step_with (restart_refusal s h) h (quiet_with (restarted_host s h))

-- ---- start with a duration: 1, 9, 11, 10

unfoldable pub start_refusal : Settings → Host → ℕ → ℕ
start_refusal s h d =
    first_of (
    unless (host_ok s h) refused_cell
    ∷ unless (not (is_waiting h.clock h.wait)) refused_waiting
    ∷ unless (not (eqb d 0)) refused_duration
    ∷ unless (duration_ok s d) refused_duration
    ∷ unless (is_fresh h.state.last h.clock) refused_same_tick
    ∷ []
    )

-- 'ballot (clock, host); any old round is dropped; the host is asking'
abbrev pub asking_host : Host → ℕ → Host
asking_host h d = with_state h (record {
  promised = h.state.promised;
  accepted = h.state.accepted;
  last = Some h.clock;
  round =
      Round.Asking
      (record {
        ballot = ballot_at h.clock h.number;
        duration = d;
        replied = 0;
        kept = None;
      });
  named = h.state.named;
})

-- 'a prepare request goes to all n hosts, itself included'
unfoldable pub on_start : Settings → Host → ℕ → Stepped
on_start s h d =
    sending_with (asking_host h d) (PrepareRequest (head_from h (ballot_at h.clock h.number)))
    (everyone_of s.n)

unfoldable pub start_of : Settings → Host → ℕ → Stepped
start_of s h d = step_with (start_refusal s h d) h (on_start s h d)

-- ---- release: 1, 9, 18, 10

unfoldable pub release_refusal : Settings → Host → ℕ
release_refusal s h =
    first_of (
    unless (host_ok s h) refused_cell
    ∷ unless (not (is_waiting h.clock h.wait)) refused_waiting
    ∷ unless (names_itself h.number h.state.named) refused_not_holder
    ∷ unless (is_fresh h.state.last h.clock) refused_same_tick
    ∷ []
    )

-- 'it stops naming itself, drops its round, takes a ballot'
abbrev pub releasing_host : Host → Host
releasing_host h = with_state h (released_at h.clock h.state)

-- 'and sends a release request .. to all n'
unfoldable pub on_release : Settings → Host → Stepped
on_release s h =
    sending_with (releasing_host h) (ReleaseRequest (head_from h (ballot_at h.clock h.number)))
    (everyone_of s.n)

unfoldable pub release_of : Settings → Host → Stepped
release_of s h = step_with (release_refusal s h) h (on_release s h)

-- ---- prepare request

-- 'reply with the accepted lease, or empty'
unfoldable pub response_with : Head → Option Lease → Message
response_with m None = PrepareResponseEmpty m
response_with m (Some l) = PrepareResponseLease (record { head = m; accepted = l })

-- 'if nothing is promised or the ballot is above the promise, promise it and reply .. Else nothing'
unfoldable pub on_prepare_request : Host → Head → Stepped
on_prepare_request h m =
    cond (may_promise h.state.promised m.ballot)
    (sending_with (with_vote h (Some m.ballot) h.state.accepted)
    (response_with (head_from h m.ballot) h.state.accepted) (single_of m.ballot.host))
    (quiet_with h)

-- ---- prepare response

-- 'count it and keep the reply with the highest accepted ballot'; whether its lease has ended is
-- told by the receiver's clock
unfoldable pub asking_after : ℕ → Asking → ℕ → Option Lease → Asking
asking_after clock a sender reply =
    record {
      ballot = a.ballot;
      duration = a.duration;
      replied = with_host a.replied sender;
      kept = kept_after clock a.kept reply;
    }

-- 'if the resulting end is at or below its clock the round becomes idle; else it is proposing and
-- sends to all n'
unfoldable pub on_majority : Settings → Host → Ballot → Value → Stepped
on_majority s h b k =
    cond (leb k.end.0 h.clock) (quiet_with (with_round h Round.Idle))
    (sending_with
    (with_round h
    (Round.Proposing (record { ballot = b; owner = k.owner; end = k.end; replied = 0 })))
    (ProposeRequest (record { head = head_from h b; owner = k.owner; end = k.end }))
    (everyone_of s.n))

-- the lease to propose
abbrev pub proposed_value : Settings → Host → Asking → Value
proposed_value s h a =
    value_to_propose h.number h.clock (own_end a.ballot.tick a.duration s.spread)
    a.kept

-- 'when the count reaches a majority'
unfoldable pub on_counted_reply : Settings → Host → ℕ → Asking → Stepped
on_counted_reply s h before a =
    cond (acts_on s.n before a.replied) (on_majority s h a.ballot (proposed_value s h a))
    (quiet_with (with_round h (Round.Asking a)))

-- 'to the ballot being asked, from a host not yet counted'
unfoldable pub on_reply : Settings → Host → Asking → Head → Option Lease → Stepped
on_reply s h a m reply =
    cond (is_same a.ballot m.ballot)
    (cond (counts_reply a.replied m.sender)
    (on_counted_reply s h a.replied (asking_after h.clock a m.sender reply)) (quiet_with h))
    (quiet_with h)

-- a response to a host that asks nothing is nothing
unfoldable pub on_prepare_response : Settings → Host → Round → Head → Option Lease → Stepped
on_prepare_response s h Round.Idle m reply = quiet_with h
on_prepare_response s h (Round.Asking a) m reply = on_reply s h a m reply
on_prepare_response s h (Round.Proposing p) m reply = quiet_with h

-- ---- propose request

abbrev pub lease_of : Proposal → Lease
lease_of m = record { ballot = m.head.ballot; owner = m.owner; end = m.end }

-- 'nothing if its end is at or below the clock, or its ballot is below the promise. Else promise
-- that ballot, accept, reply'
unfoldable pub on_propose_request : Host → Proposal → Stepped
on_propose_request h m =
    cond (may_accept h.state.promised h.clock (lease_of m))
    (sending_with
    (with_vote h (after_accept (lease_of m)).promised (after_accept (lease_of m)).accepted)
    (ProposeResponse (head_from h m.head.ballot)) (single_of m.head.ballot.host))
    (quiet_with h)

-- ---- propose response

-- 'count it'
unfoldable pub proposing_after : Proposing → ℕ → Proposing
proposing_after p sender =
    record {
      ballot = p.ballot;
      owner = p.owner;
      end = p.end;
      replied = with_host p.replied sender;
    }

-- the holder that a chosen lease names: 'the holder's end is S ticks earlier'
abbrev pub holder_of : Settings → Proposing → Holder
holder_of s p = record { ballot = p.ballot; owner = p.owner; end = to_holders p.end s.spread }

-- 'sends learn to the n - 1 others'; with one host there is nobody to send to, and no message
unfoldable pub on_naming : Settings → Host → Holder → Host → Stepped
on_naming s h k after =
    cond (eqb s.n 1) (quiet_with after)
    (sending_with after
    (Learn (record { head = head_from h k.ballot; owner = k.owner; end = k.end }))
    (others_of s.n h.number))

-- 'the round becomes idle; if the keepers' end is above clock + S, the host names the owner'
unfoldable pub on_chosen : Settings → Host → Proposing → Stepped
on_chosen s h p =
    cond (is_namable h.clock s.spread p.end)
    (on_naming s h (holder_of s p)
    (with_named h Round.Idle (named_by h.state.named (holder_of s p))))
    (quiet_with (with_round h Round.Idle))

-- 'count it. At a majority ..'
unfoldable pub on_counted_vote : Settings → Host → ℕ → Proposing → Stepped
on_counted_vote s h before p =
    cond (acts_on s.n before p.replied) (on_chosen s h p)
    (quiet_with (with_round h (Round.Proposing p)))

-- 'to the ballot being proposed, from a host not yet counted'
unfoldable pub on_vote : Settings → Host → Proposing → Head → Stepped
on_vote s h p m =
    cond (is_same p.ballot m.ballot)
    (cond (counts_reply p.replied m.sender)
    (on_counted_vote s h p.replied (proposing_after p m.sender)) (quiet_with h))
    (quiet_with h)

-- a response to a host that proposes nothing is nothing
unfoldable pub on_propose_response : Settings → Host → Round → Head → Stepped
on_propose_response s h Round.Idle m = quiet_with h
on_propose_response s h (Round.Asking a) m = quiet_with h
on_propose_response s h (Round.Proposing p) m = on_vote s h p m

-- ---- learn

-- 'a named holder (ballot, owner, holder's end)'
abbrev pub learned_holder : LearnedLease → Holder
learned_holder m = record { ballot = m.head.ballot; owner = m.owner; end = m.end }

-- 'nothing if its end is at or below the clock', or if it 'names its own receiver' (02). 'Else name
-- the owner'
unfoldable pub on_learn : Host → LearnedLease → Stepped
on_learn h m =
    cond (may_learn h.number h.clock m)
    (quiet_with (with_named h h.state.round (named_by h.state.named (learned_holder m))))
    (quiet_with h)

-- ---- release request

abbrev pub freed_host : Host → Head → Host
freed_host h m = with_state h (freed_by m h.state)

-- 'ignores it below its promise; else it promises that ballot, and drops an accepted lease or named
-- holder owned by the sender if its ballot is lower. No reply is sent'
unfoldable pub on_release_request : Host → Head → Stepped
on_release_request h m =
    cond (takes_release h.state.promised m.ballot) (quiet_with (freed_host h m)) (quiet_with h)

-- ---- a message, by its kind

unfoldable pub on_message : Settings → Host → Message → Stepped
on_message s h (PrepareRequest m) = on_prepare_request h m
on_message s h (PrepareResponseEmpty m) = on_prepare_response s h h.state.round m None
on_message s h (PrepareResponseLease m) =
    on_prepare_response s h h.state.round m.head (Some m.accepted)
on_message s h (ProposeRequest m) = on_propose_request h m
on_message s h (ProposeResponse m) = on_propose_response s h h.state.round m
on_message s h (Learn m) = on_learn h m
on_message s h (ReleaseRequest m) = on_release_request h m

-- 'a waiting host does nothing'
unfoldable pub on_delivery : Settings → Host → Message → Stepped
on_delivery s h m = cond (is_waiting h.clock h.wait) (quiet_with h) (on_message s h m)

-- 1, then as writing to its target refuses it, then 7 where its target is another host
unfoldable pub receive_refusal : Settings → Host → Message → ℕ
receive_refusal s h m =
    first_of (
    unless (host_ok s h) refused_cell
    ∷ fault_of (sizes_of s) (numbers_of m)
    ∷ unless (eqb (target_of m) h.number) refused_party
    ∷ []
    )

unfoldable pub receive_of : Settings → Host → Message → Stepped
receive_of s h m = step_with (receive_refusal s h m) h (on_delivery s h m)
