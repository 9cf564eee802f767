-- What a step that refuses nothing tells of its host and of what it is handed; that a reply of a
-- host that was counted changes nothing, nor a learn that names its receiver; and that a reply
-- whose lease has ended counts as empty. Assumes nothing.
use Rattle.std.specs.Prelude.{Option, Some, None}
use mathlib.Core.Path.{◌≡◌, refl, sym, ap, ◌∙◌}
use mathlib.Core.Bool.{Bool, true, false, cond, not}
use mathlib.Core.List.{[]}
use Prim.Native.Nat.{ℕ, ◌+◌, ◌≤◌}
use native.Mathlib.Omega.{arith}
use lib.Dec.{leb, eqb}
use borrow.Author.Tests.{leb-true, eqb-true, eqb-false, not-true, eq-eqb}
use Rattle.base.specs.Refusals.{done, first_of, refused_cell, refused_waiting, refused_duration}
use Rattle.base.specs.Refusals.{refused_same_tick, refused_clock, refused_not_holder}
use Rattle.base.proofs.Tests.{by_test, first_passed, unless_passed}
use Rattle.quorum.specs.Sets.{is_in}
use Rattle.message.specs.Leases.{Lease, LearnedLease}
use Rattle.message.specs.declared.Head.{Head}
use Rattle.message.specs.declared.LeaseResponse.{LeaseResponse}
use Rattle.message.specs.declared.Message.{Message}
use Rattle.message.specs.declared.Message.TheVariants.{PrepareResponseEmpty, PrepareResponseLease}
use Rattle.message.specs.declared.Message.TheVariants.{ProposeResponse, Learn}
use Rattle.message.specs.Message.{last_tick, is_same, numbers_of}
use Rattle.message.specs.Faults.{fault_of}
use Rattle.rules.specs.Rules.{is_waiting, is_fresh, may_learn, names_itself}
use Rattle.rules.proofs.Laws as R
use Rattle.state.specs.declared.Settings.{Settings}
use Rattle.state.specs.declared.Asking.{Asking}
use Rattle.state.specs.declared.Proposing.{Proposing}
use Rattle.state.specs.declared.Round.{Round}
use Rattle.state.specs.StateLimits.{duration_ok, sizes_of}
use Rattle.host.specs.declared.Host.{Host}
use Rattle.host.specs.Stepped.{Stepped}
use Rattle.host.specs.Steps.{host_ok, refused_with, quiet_with, advance_refusal, restart_refusal}
use Rattle.host.specs.Steps.{start_refusal, release_refusal, asking_after, on_reply}
use Rattle.host.specs.Steps.{on_prepare_response, on_vote, on_propose_response, on_learn}
use Rattle.host.specs.Steps.{on_message}
use Rattle.host.specs.Steps.{on_delivery, receive_refusal, receive_of}
use Rattle.host.proofs.HostLimits.{HostIn, host_in}

-- ---- where nothing is refused

pub advance_in : (s : Settings) (h : Host) (d : ℕ) → advance_refusal s h d ≡ done → HostIn s h
    × (h.clock + d ≤ last_tick)
unfolding advance_refusal
advance_in s h d e =
    let p1 = unless_passed (host_ok s h) refused_cell _ refl e in
    let p2 = unless_passed (not (eqb d 0)) refused_clock _ refl p1.1 in
    let p3 = unless_passed (leb (h.clock + d) last_tick) refused_clock [] refl p2.1 in
    (host_in s h p1.0, leb-true (h.clock + d) last_tick p3.0)

pub restart_in : (s : Settings) (h : Host) → restart_refusal s h ≡ done → HostIn s h
unfolding restart_refusal
restart_in s h e = host_in s h (unless_passed (host_ok s h) refused_cell [] refl e).0

pub record Starts (s : Settings) (h : Host) (d : ℕ) : Type 0 where
  pub host : HostIn s h
  pub awake : h.wait ≤ h.clock
  pub some_time : 1 ≤ d
  pub duration : d + s.spread ≤ s.longest
  pub fresh : is_fresh h.state.last h.clock ≡ true

pub start_in : (s : Settings) (h : Host) (d : ℕ) → start_refusal s h d ≡ done → Starts s h d
unfolding start_refusal duration_ok
start_in s h d e =
    let p1 = unless_passed (host_ok s h) refused_cell _ refl e in
    let p2 = unless_passed (not (is_waiting h.clock h.wait)) refused_waiting _ refl p1.1 in
    let p3 = unless_passed (not (eqb d 0)) refused_duration _ refl p2.1 in
    let p4 = unless_passed (leb (d + s.spread) s.longest) refused_duration _ refl p3.1 in
    let p5 = unless_passed (is_fresh h.state.last h.clock) refused_same_tick [] refl p4.1 in
    let some = eqb-false d 0 (not-true (eqb d 0) p3.0) in
    record {
      host = host_in s h p1.0;
      awake = R.awake h.clock h.wait (not-true (is_waiting h.clock h.wait) p2.0);
      some_time = omega (arith, some);
      duration = leb-true (d + s.spread) s.longest p4.0;
      fresh = p5.0;
    }

pub record Releases (s : Settings) (h : Host) : Type 0 where
  pub host : HostIn s h
  pub awake : h.wait ≤ h.clock
  pub itself : names_itself h.number h.state.named ≡ true
  pub fresh : is_fresh h.state.last h.clock ≡ true

pub release_in : (s : Settings) (h : Host) → release_refusal s h ≡ done → Releases s h
unfolding release_refusal
release_in s h e =
    let p1 = unless_passed (host_ok s h) refused_cell _ refl e in
    let p2 = unless_passed (not (is_waiting h.clock h.wait)) refused_waiting _ refl p1.1 in
    let p3 =
    unless_passed (names_itself h.number h.state.named) refused_not_holder _ refl p2.1 in
    let p4 = unless_passed (is_fresh h.state.last h.clock) refused_same_tick [] refl p3.1 in
    record {
      host = host_in s h p1.0;
      awake = R.awake h.clock h.wait (not-true (is_waiting h.clock h.wait) p2.0);
      itself = p3.0;
      fresh = p4.0;
    }

pub message_in : (s : Settings) (h : Host) (m : Message) → receive_refusal s h m ≡ done → HostIn s h
    × (fault_of (sizes_of s) (numbers_of m) ≡ done)
unfolding receive_refusal
message_in s h m e =
    let p1 = unless_passed (host_ok s h) refused_cell _ refl e in
    (host_in s h p1.0, (first_passed (fault_of (sizes_of s) (numbers_of m)) _ p1.1).0)

-- a host within its limits refuses no restart
pub restart_passed : (s : Settings) (h : Host) → host_ok s h ≡ true → restart_refusal s h ≡ done
unfolding restart_refusal first_of
restart_passed s h e = rw e

-- ---- a reply of a host that was counted changes nothing

-- a choice between the same
same_choice : {A : Type 0} (b : Bool) (x y : A) → x ≡ y → cond b x y ≡ y
same_choice true x y e = e
same_choice false x y e = refl

counted_already : (s : Settings) (h : Host) (a : Asking) (m : Head) (reply : Option Lease)
    → is_in a.replied m.sender ≡ true → on_reply s h a m reply ≡ quiet_with h
unfolding on_reply
counted_already s h a m reply e =
    same_choice (is_same a.ballot m.ballot) _ (quiet_with h) (rw e)

voted_already : (s : Settings) (h : Host) (p : Proposing) (m : Head)
    → is_in p.replied m.sender ≡ true → on_vote s h p m ≡ quiet_with h
unfolding on_vote
voted_already s h p m e = same_choice (is_same p.ballot m.ballot) _ (quiet_with h) (rw e)

-- nor is anything sent, whatever else is found of the message
still : (s : Settings) (h : Host) (m : Message) → on_message s h m ≡ quiet_with h
    → receive_of s h m ≡ refused_with (receive_refusal s h m) h
unfolding receive_of on_delivery
still s h m e =
    by_test (λ (x : Stepped). x ≡ refused_with (receive_refusal s h m) h)
    (eqb (receive_refusal s h m) done) _ _
    (λ p.
    same_choice (is_waiting h.clock h.wait) (quiet_with h) (on_message s h m) (sym e) ∙ e
    ∙ ap (λ (k : ℕ). refused_with k h) (sym (eqb-true (receive_refusal s h m) done p)))
    (λ _. refl)

pub already_empty : (s : Settings) (h : Host) (a : Asking) (m : Head)
    → h.state.round ≡ Round.Asking a → is_in a.replied m.sender ≡ true
    → receive_of s h (PrepareResponseEmpty m)
    ≡ refused_with (receive_refusal s h (PrepareResponseEmpty m)) h
unfolding on_message on_prepare_response
already_empty s h a m r e =
    still s h (PrepareResponseEmpty m)
    (ap (λ (x : Round). on_prepare_response s h x m None) r
    ∙ counted_already s h a m None e)

pub already_lease : (s : Settings) (h : Host) (a : Asking) (m : LeaseResponse)
    → h.state.round ≡ Round.Asking a → is_in a.replied m.head.sender ≡ true
    → receive_of s h (PrepareResponseLease m)
    ≡ refused_with (receive_refusal s h (PrepareResponseLease m)) h
unfolding on_message on_prepare_response
already_lease s h a m r e =
    still s h (PrepareResponseLease m)
    (ap (λ (x : Round). on_prepare_response s h x m.head (Some m.accepted)) r
    ∙ counted_already s h a m.head (Some m.accepted) e)

pub already_vote : (s : Settings) (h : Host) (p : Proposing) (m : Head)
    → h.state.round ≡ Round.Proposing p → is_in p.replied m.sender ≡ true
    → receive_of s h (ProposeResponse m) ≡ refused_with (receive_refusal s h (ProposeResponse m)) h
unfolding on_message on_propose_response
already_vote s h p m r e =
    still s h (ProposeResponse m)
    (ap (λ (x : Round). on_propose_response s h x m) r ∙ voted_already s h p m e)

-- ---- a reply whose lease has ended counts as empty

heard_as_empty : (s : Settings) (h : Host) (r : Round) (m : Head) (l : Lease) → l.end.0 ≤ h.clock
    → on_prepare_response s h r m (Some l) ≡ on_prepare_response s h r m None
unfolding on_prepare_response on_reply asking_after
heard_as_empty s h Round.Idle m l e = refl
heard_as_empty s h (Round.Asking a) m l e = rw (R.ended_as_empty h.clock a.kept l e)
heard_as_empty s h (Round.Proposing p) m l e = refl

pub ended_as_empty : (s : Settings) (h : Host) (m : LeaseResponse) → m.accepted.end.0 ≤ h.clock
    → on_delivery s h (PrepareResponseLease m) ≡ on_delivery s h (PrepareResponseEmpty m.head)
unfolding on_delivery on_message
ended_as_empty s h m e = rw (heard_as_empty s h h.state.round m.head m.accepted e)

-- ---- a learn message that names its receiver changes nothing

pub own_learn : (s : Settings) (h : Host) (m : LearnedLease) → m.owner ≡ h.number
    → receive_of s h (Learn m) ≡ refused_with (receive_refusal s h (Learn m)) h
unfolding on_message on_learn may_learn
own_learn s h m e = still s h (Learn m) (rw (eq-eqb m.owner h.number e))
