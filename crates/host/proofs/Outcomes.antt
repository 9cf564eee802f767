-- The outcomes of a host's step, one for each thing that a start, a release or a message can do to
-- a host. The tree of a step is walked here, by `outcome`; what holds of every step is then said by
-- a clause for each outcome. Assumes nothing.
use Rattle.std.specs.Prelude.{Option, Some, None}
use Rattle.message.specs.Leases.{Lease, Holder, Proposal, LearnedLease}
use mathlib.Core.Path.{◌≡◌, refl}
use mathlib.Core.Bool.{true, false}
use Prim.Native.Nat.{ℕ}
use lib.Dec.{leb, eqb}
use Rattle.base.proofs.Tests.{by_test}
use Rattle.quorum.specs.Sets.{single_of, everyone_of, others_of}
use Rattle.message.specs.declared.Head.{Head}
use Rattle.message.specs.declared.LeaseResponse.{LeaseResponse}
use Rattle.message.specs.declared.Message.{Message}
use Rattle.message.specs.declared.Message.TheVariants.{PrepareRequest, PrepareResponseEmpty}
use Rattle.message.specs.declared.Message.TheVariants.{PrepareResponseLease, ProposeRequest}
use Rattle.message.specs.declared.Message.TheVariants.{ProposeResponse, Learn, ReleaseRequest}
use Rattle.message.specs.Message.{is_same}
use Rattle.rules.specs.Rules.{is_waiting, may_promise, counts_reply, acts_on, may_accept}
use Rattle.rules.specs.Rules.{after_accept, is_namable, may_learn, named_by, takes_release}
use Rattle.state.specs.declared.Settings.{Settings}
use Rattle.state.specs.declared.Asking.{Asking}
use Rattle.state.specs.declared.Proposing.{Proposing}
use Rattle.state.specs.declared.Round.{Round}
use Rattle.host.specs.declared.Host.{Host}
use Rattle.host.specs.Stepped.{Stepped}
use Rattle.host.specs.Steps.{quiet_with, sending_with, with_round, with_vote, with_named, head_from}
use Rattle.host.specs.Steps.{on_start, on_release, response_with, on_prepare_request, asking_after}
use Rattle.host.specs.Steps.{proposed_value, on_majority, on_counted_reply, on_reply}
use Rattle.host.specs.Steps.{on_prepare_response, lease_of, on_propose_request, proposing_after}
use Rattle.host.specs.Steps.{holder_of, on_naming, on_chosen, on_counted_vote, on_vote}
use Rattle.host.specs.Steps.{on_propose_response, learned_holder, on_learn, freed_host}
use Rattle.host.specs.Steps.{on_release_request, on_message, on_delivery}
use Rattle.host.specs.Claims.{Stays, naming_host}

-- the message is a reply with this head that tells of this lease, or of none
pub data Reply : Message → Head → Option Lease → Type 0 where
  empty : (m : Head) → Reply (PrepareResponseEmpty m) m None
  lease : (m : LeaseResponse)
      → Reply (PrepareResponseLease m) m.head (Some m.accepted)

-- what a host is handed: a start for so many ticks, a release, or a message
pub data Cause : Type 0 where
  begins : ℕ → Cause
  lets_go : Cause
  gets : Message → Cause

module _ (s : Settings) (h : Host) where
  -- the step that it takes then
  abbrev pub step_on : Cause → Stepped
  step_on (begins d) = on_start s h d
  step_on lets_go = on_release s h
  step_on (gets m) = on_delivery s h m

  -- what the host that names the holder of a chosen lease tells the others
  abbrev pub news : Holder → Message
  news k = Learn (record { head = head_from h k.ballot; owner = k.owner; end = k.end })

  -- the round of a host that has a majority of replies to a, and what it sends to all
  abbrev pub proposes : Asking → Proposing
  proposes a =
      record {
        ballot = a.ballot;
        owner = (proposed_value s h a).owner;
        end = (proposed_value s h a).end;
        replied = 0;
      }

  abbrev pub proposal : Asking → Message
  proposal a =
      ProposeRequest
      (record {
        head = head_from h a.ballot;
        owner = (proposed_value s h a).owner;
        end = (proposed_value s h a).end;
      })

-- Known is what is known of that which the host is handed
module _ (s : Settings) (h : Host) (Known : Cause → Type 0) where
  -- a reply to the ballot that the host asks
  pub record Heard (a : Asking) (d : Head) (reply : Option Lease) : Type 0 where
    pub message : Message
    pub is : Reply message d reply
    pub got : Known (gets message)
    pub round : h.state.round ≡ Round.Asking a
    pub same : is_same a.ballot d.ballot ≡ true

  -- a vote for the ballot that the host proposes
  pub record Voted (p : Proposing) (d : Head) : Type 0 where
    pub got : Known (gets (ProposeResponse d))
    pub round : h.state.round ≡ Round.Proposing p
    pub same : is_same p.ballot d.ballot ≡ true

  -- the vote by which a lease is chosen that can still be named
  pub record Chosen (p : Proposing) (d : Head) : Type 0 where
    pub vote : Voted p d
    pub reaches : acts_on s.n p.replied (proposing_after p d.sender).replied ≡ true
    pub namable : is_namable h.clock s.spread (proposing_after p d.sender).end ≡ true

  pub data Outcome : Stepped → Type 0 where
    nothing : Outcome (quiet_with h)
    begun : (d : ℕ) → Known (begins d) → Outcome (on_start s h d)
    released : Known lets_go → Outcome (on_release s h)
    promised :
        (m : Head) → Known (gets (PrepareRequest m)) → is_waiting h.clock h.wait ≡ false
        → may_promise h.state.promised m.ballot ≡ true →
        Outcome
        (sending_with (with_vote h (Some m.ballot) h.state.accepted)
        (response_with (head_from h m.ballot) h.state.accepted) (single_of m.ballot.host))
    heard :
        (a : Asking) (d : Head) (reply : Option Lease) → Heard a d reply
        → acts_on s.n a.replied (asking_after h.clock a d.sender reply).replied ≡ false →
        Outcome
        (quiet_with (with_round h (Round.Asking (asking_after h.clock a d.sender reply))))
    proposed :
        (a : Asking) (d : Head) (reply : Option Lease) → Heard a d reply
        → acts_on s.n a.replied (asking_after h.clock a d.sender reply).replied ≡ true →
        Outcome
        (sending_with
        (with_round h (Round.Proposing (proposes s h (asking_after h.clock a d.sender reply))))
        (proposal s h (asking_after h.clock a d.sender reply)) (everyone_of s.n))
    gave_up : Outcome (quiet_with (with_round h Round.Idle))
    accepted :
        (m : Proposal) → Known (gets (ProposeRequest m)) → is_waiting h.clock h.wait ≡ false
        → may_accept h.state.promised h.clock (lease_of m) ≡ true →
        Outcome
        (sending_with
        (with_vote h (after_accept (lease_of m)).promised (after_accept (lease_of m)).accepted)
        (ProposeResponse (head_from h m.head.ballot)) (single_of m.head.ballot.host))
    counted_vote :
        (p : Proposing) (d : Head) → Voted p d
        → acts_on s.n p.replied (proposing_after p d.sender).replied ≡ false →
        Outcome (quiet_with (with_round h (Round.Proposing (proposing_after p d.sender))))
    named : (p : Proposing) (d : Head) → Chosen p d
        → Outcome
        (sending_with (naming_host s h (proposing_after p d.sender))
        (news s h (holder_of s (proposing_after p d.sender))) (others_of s.n h.number))
    named_alone : (p : Proposing) (d : Head) → Chosen p d
        → Outcome (quiet_with (naming_host s h (proposing_after p d.sender)))
    told : (m : LearnedLease) → Known (gets (Learn m)) → may_learn h.number h.clock m ≡ true
        → Outcome
        (quiet_with (with_named h h.state.round (named_by h.state.named (learned_holder m))))
    freed :
        (m : Head) → Known (gets (ReleaseRequest m)) → is_waiting h.clock h.wait ≡ false
        → takes_release h.state.promised m.ballot ≡ true → Outcome (quiet_with (freed_host h m))

  -- ---- every step has one of them

  replied : (m : Message) (d : Head) (reply : Option Lease) → Reply m d reply → Known (gets m)
      → (r : Round) → h.state.round ≡ r → Outcome (on_prepare_response s h r d reply)
  unfolding on_prepare_response on_reply on_counted_reply on_majority
  replied m d reply i g Round.Idle z = nothing
  replied m d reply i g (Round.Proposing p) z = nothing
  replied m d reply i g (Round.Asking a) z =
      by_test Outcome (is_same a.ballot d.ballot) _ _
      (λ e.
      let x : Heard a d reply = record { message = m; is = i; got = g; round = z; same = e } in
      by_test Outcome (counts_reply a.replied d.sender) _ _
      (λ _. by_test Outcome (acts_on s.n a.replied b.replied) _ _
      (λ t.
      by_test Outcome (leb (proposed_value s h b).end.0 h.clock) _ _ (λ _. gave_up)
      (λ _. proposed a d reply x t))
      (λ t. heard a d reply x t))
      (λ _. nothing))
      (λ _. nothing)
    where
      b : Asking
      b = asking_after h.clock a d.sender reply

  vote : (d : Head) → Known (gets (ProposeResponse d)) → (r : Round) → h.state.round ≡ r
      → Outcome (on_propose_response s h r d)
  unfolding on_propose_response on_vote on_counted_vote on_chosen on_naming
  vote d g Round.Idle z = nothing
  vote d g (Round.Asking a) z = nothing
  vote d g (Round.Proposing p) z =
      by_test Outcome (is_same p.ballot d.ballot) _ _
      (λ e.
      let x : Voted p d = record { got = g; round = z; same = e } in
      by_test Outcome (counts_reply p.replied d.sender) _ _
      (λ _. by_test Outcome (acts_on s.n p.replied q.replied) _ _
      (λ t. by_test Outcome (is_namable h.clock s.spread q.end) _ _
      (λ u.
      let y : Chosen p d = record { vote = x; reaches = t; namable = u } in
      by_test Outcome (eqb s.n 1) _ _ (λ _. named_alone p d y) (λ _. named p d y))
      (λ _. gave_up))
      (λ t. counted_vote p d x t))
      (λ _. nothing))
      (λ _. nothing)
    where
      q : Proposing
      q = proposing_after p d.sender

  on_message_lem : (m : Message) → Known (gets m) → is_waiting h.clock h.wait ≡ false
      → Outcome (on_message s h m)
  unfolding on_message on_prepare_request on_propose_request on_learn on_release_request
  on_message_lem (PrepareRequest m) g w =
      by_test Outcome (may_promise h.state.promised m.ballot) _ _ (λ t. promised m g w t)
      (λ _. nothing)
  on_message_lem (PrepareResponseEmpty m) g w =
      replied _ m None (empty m) g h.state.round refl
  on_message_lem (PrepareResponseLease m) g w =
      replied _ m.head (Some m.accepted) (lease m) g h.state.round refl
  on_message_lem (ProposeRequest m) g w =
      by_test Outcome (may_accept h.state.promised h.clock (lease_of m)) _ _
      (λ t. accepted m g w t) (λ _. nothing)
  on_message_lem (ProposeResponse m) g w = vote m g h.state.round refl
  on_message_lem (Learn m) g w =
      by_test Outcome (may_learn h.number h.clock m) _ _ (λ t. told m g t) (λ _. nothing)
  on_message_lem (ReleaseRequest m) g w =
      by_test Outcome (takes_release h.state.promised m.ballot) _ _ (λ t. freed m g w t)
      (λ _. nothing)

  pub outcome : (c : Cause) → Known c → Outcome (step_on s h c)
  unfolding on_delivery
  outcome (begins d) k = begun d k
  outcome lets_go k = released k
  outcome (gets m) k =
      by_test Outcome (is_waiting h.clock h.wait) (quiet_with h) (on_message s h m)
      (λ _. nothing) (λ w. on_message_lem m k w)

-- ---- a step leaves a host its number, its clock and its wait

stays : {s : Settings} {h : Host} {Known : Cause → Type 0} {t : Stepped} → Outcome s h Known t
    → Stays h t
unfolding on_start on_release
stays nothing = record { number = refl; clock = refl; wait = refl }
stays (begun d _) = record { number = refl; clock = refl; wait = refl }
stays (released _) = record { number = refl; clock = refl; wait = refl }
stays (promised m _ _ _) = record { number = refl; clock = refl; wait = refl }
stays (heard a d r _ _) = record { number = refl; clock = refl; wait = refl }
stays (proposed a d r _ _) = record { number = refl; clock = refl; wait = refl }
stays gave_up = record { number = refl; clock = refl; wait = refl }
stays (accepted m _ _ _) = record { number = refl; clock = refl; wait = refl }
stays (counted_vote p d _ _) = record { number = refl; clock = refl; wait = refl }
stays (named p d _) = record { number = refl; clock = refl; wait = refl }
stays (named_alone p d _) = record { number = refl; clock = refl; wait = refl }
stays (told m _ _) = record { number = refl; clock = refl; wait = refl }
stays (freed m _ _ _) = record { number = refl; clock = refl; wait = refl }

-- whether a start or a release is refused or not, and of every message
pub stays_step : (s : Settings) (h : Host) (c : Cause) → Stays h (step_on s h c)
stays_step s h c = stays (outcome s h (λ _. Unit {0}) c tt)
