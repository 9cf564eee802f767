-- What is claimed of the steps of one host, in one place; proofs/Claims.antt proves it. Assumes
-- nothing.
use Rattle.std.specs.Prelude.{ℕ, ◌≤◌, ◌≡◌, Bool, true, false, not, [], ◌∷◌, eqb, Option, Some, None}
use Rattle.base.specs.Refusals.{done}
use Rattle.base.specs.Lists.{all_of}
use Rattle.quorum.specs.Sets.{is_in, with_host, Member}
use Rattle.message.specs.declared.Head.{Head}
use Rattle.message.specs.declared.LeaseResponse.{LeaseResponse}
use Rattle.message.specs.Leases.{LearnedLease}
use Rattle.message.specs.declared.Message.{Message}
use Rattle.message.specs.declared.Message.TheVariants.{PrepareRequest, PrepareResponseEmpty}
use Rattle.message.specs.declared.Message.TheVariants.{PrepareResponseLease, ProposeRequest}
use Rattle.message.specs.declared.Message.TheVariants.{ProposeResponse, Learn, ReleaseRequest}
use Rattle.message.specs.Message.{is_same, numbers_of, addressed_to}
use Rattle.message.specs.Faults.{fault_of, fault_to}
use Rattle.rules.specs.Rules.{is_waiting, counts_reply, acts_on, is_namable, named_by}
use Rattle.state.specs.declared.Settings.{Settings}
use Rattle.state.specs.declared.Asking.{Asking}
use Rattle.state.specs.declared.Proposing.{Proposing}
use Rattle.state.specs.declared.Round.{Round}
use Rattle.state.specs.StateLimits.{sizes_of}
use Rattle.host.specs.declared.Host.{Host}
use Rattle.host.specs.Stepped.{Stepped}
use Rattle.host.specs.Steps.{host_ok, refused_with, quiet_with, with_named}
use Rattle.host.specs.Steps.{advance_refusal, advanced_host, advance_of}
use Rattle.host.specs.Steps.{restart_refusal, restarted_host, restart_of}
use Rattle.host.specs.Steps.{start_refusal, on_start, start_of, holder_of}
use Rattle.host.specs.Steps.{release_refusal, on_release, release_of}
use Rattle.host.specs.Steps.{on_delivery, receive_refusal, receive_of}

-- ---- every step

-- writing to its receivers refuses nothing in what a step sends, if it sends anything
unfoldable pub writes : Settings → Option Message → ℕ → Type 0
writes s None set = Unit
writes s (Some m) set = fault_to (sizes_of s) (numbers_of m) set ≡ done

abbrev pub Writable : Settings → Stepped → Type 0
Writable s step = writes s step.sent step.receivers

-- of a step that is refused by k where k is not 0, and is `step` where it is: the result
pub record Lawful (s : Settings) (h : Host) (k : ℕ) (step result : Stepped) : Type 0 where
  -- a refused step changes nothing and sends nothing
  pub unchanged : (k ≡ done → ⊥) → result ≡ refused_with k h
  pub carried_out : k ≡ done → result ≡ step
  -- its answer is the refusal's number, or 0
  pub number : result.answer ≡ k
  -- a host within its limits stays within them
  pub kept : host_ok s h ≡ true → host_ok s result.host ≡ true
  -- writing refuses nothing in what it sends
  pub writable : Writable s result

-- a step leaves a host its number, its clock and its wait
pub record Stays (h : Host) (step : Stepped) : Type 0 where
  pub number : step.host.number ≡ h.number
  pub clock : step.host.clock ≡ h.clock
  pub wait : step.host.wait ≡ h.wait

-- ---- named by its own majority

-- the vote that makes a proposing round's set a majority, while its lease can still be named
unfoldable pub decides : Settings → Host → Round → Head → Bool
decides s h Round.Idle m = false
decides s h (Round.Asking a) m = false
decides s h (Round.Proposing p) m =
    all_of (
    is_same p.ballot m.ballot
    ∷ counts_reply p.replied m.sender
    ∷ acts_on s.n p.replied (with_host p.replied m.sender)
    ∷ is_namable h.clock s.spread p.end
    ∷ []
    )

unfoldable pub is_deciding_vote : Settings → Host → Message → Bool
is_deciding_vote s h (ProposeResponse m) = decides s h h.state.round m
is_deciding_vote s h (PrepareRequest m) = false
is_deciding_vote s h (PrepareResponseEmpty m) = false
is_deciding_vote s h (PrepareResponseLease m) = false
is_deciding_vote s h (ProposeRequest m) = false
is_deciding_vote s h (Learn m) = false
is_deciding_vote s h (ReleaseRequest m) = false

-- the step is done, the host is not waiting, and its own majority names a holder by it
unfoldable pub named_by_majority : Settings → Host → Message → Bool
named_by_majority s h m =
    all_of (
    eqb (receive_refusal s h m) done
    ∷ not (is_waiting h.clock h.wait)
    ∷ is_deciding_vote s h m
    ∷ []
    )

-- the host after it: its round is idle, and it names the owner of its proposal, replacing or not
abbrev pub naming_host : Settings → Host → Proposing → Host
naming_host s h p = with_named h Round.Idle (named_by h.state.named (holder_of s p))

-- ---- the claims

pub record Claims : Type 0 where
  pub advance : (s : Settings) (h : Host) (d : ℕ)
      → Lawful s h (advance_refusal s h d) (quiet_with (advanced_host h d)) (advance_of s h d)
  pub restart : (s : Settings) (h : Host)
      → Lawful s h (restart_refusal s h) (quiet_with (restarted_host s h)) (restart_of s h)
  pub start : (s : Settings) (h : Host) (d : ℕ)
      → Lawful s h (start_refusal s h d) (on_start s h d) (start_of s h d)
  pub release : (s : Settings) (h : Host)
      → Lawful s h (release_refusal s h) (on_release s h) (release_of s h)
  pub message : (s : Settings) (h : Host) (m : Message)
      → Lawful s h (receive_refusal s h m) (on_delivery s h m) (receive_of s h m)
  -- what a step sends is what writing accepts for each of its receivers
  pub each_writable : (s : Settings) (step : Stepped) (m : Message) (h : ℕ)
      → Writable s step → step.sent ≡ Some m → Member s.n step.receivers h
      → fault_of (sizes_of s) (numbers_of (addressed_to m h)) ≡ done
  pub start_stays : (s : Settings) (h : Host) (d : ℕ) → Stays h (start_of s h d)
  pub release_stays : (s : Settings) (h : Host) → Stays h (release_of s h)
  pub message_stays : (s : Settings) (h : Host) (m : Message) → Stays h (receive_of s h m)
  -- a reply counts once: one of a host that is counted changes nothing and sends nothing
  pub empty_once : (s : Settings) (h : Host) (a : Asking) (m : Head)
      → h.state.round ≡ Round.Asking a → is_in a.replied m.sender ≡ true
      → let r = PrepareResponseEmpty m in receive_of s h r ≡ refused_with (receive_refusal s h r) h
  pub lease_once : (s : Settings) (h : Host) (a : Asking) (m : LeaseResponse)
      → h.state.round ≡ Round.Asking a → is_in a.replied m.head.sender ≡ true
      → let r = PrepareResponseLease m in receive_of s h r ≡ refused_with (receive_refusal s h r) h
  pub vote_once : (s : Settings) (h : Host) (p : Proposing) (m : Head)
      → h.state.round ≡ Round.Proposing p → is_in p.replied m.sender ≡ true
      → let r = ProposeResponse m in receive_of s h r ≡ refused_with (receive_refusal s h r) h
  -- 'such a response now counts as empty' (02): one whose lease has ended at the receiver's clock
  -- does what an empty one does, in every state
  pub ended_as_empty : (s : Settings) (h : Host) (m : LeaseResponse)
      → m.accepted.end.0 ≤ h.clock
      → on_delivery s h (PrepareResponseLease m) ≡ on_delivery s h (PrepareResponseEmpty m.head)
  -- a learn message that names its own receiver changes nothing, in every state
  pub own_learn : (s : Settings) (h : Host) (m : LearnedLease) → m.owner ≡ h.number
      → let r = Learn m in receive_of s h r ≡ refused_with (receive_refusal s h r) h
  -- a naming by its own majority ends the host's proposing round and names the owner of its
  -- proposal
  pub majority_names : (s : Settings) (h : Host) (m : Message) → named_by_majority s h m ≡ true
      → (p : Proposing) × (h.state.round ≡ Round.Proposing p)
      × ((receive_of s h m).host ≡ naming_host s h p)
