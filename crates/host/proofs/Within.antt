-- A step that is done keeps a host within its limits, and writing refuses nothing in what it sends:
-- by a clause for each outcome. Then what holds of every step, refused or done. Assumes nothing.
use Rattle.std.specs.Prelude.{Option, Some, None}
use Rattle.message.specs.Leases.{Lease, Holder}
use mathlib.Core.Path.{◌≡◌, refl, sym, ◌∙◌}
use mathlib.Core.Bool.{true}
use Prim.Native.Nat.{ℕ, ◌+◌, ◌-◌, ◌^◌, ◌≤◌, ◌<◌}
use native.Mathlib.Omega.{arith}
use lib.Dec.{eqb}
use lib.Pow.{pow_pos}
use borrow.Author.Tests.{eqb-true, lt-ltb, le-leb, eq-eqb, ne_eqb}
use Rattle.base.specs.Refusals.{done}
use Rattle.base.proofs.Tests.{by_test}
use Rattle.quorum.specs.Sets.{is_below, single_of, everyone_of, others_of}
use Rattle.message.specs.declared.Ballot.{Ballot}
use Rattle.message.specs.declared.Head.{Head}
use Rattle.message.specs.declared.Message.{Message}
use Rattle.message.specs.declared.Message.TheVariants.{PrepareRequest, PrepareResponseEmpty}
use Rattle.message.specs.declared.Message.TheVariants.{PrepareResponseLease, ProposeRequest}
use Rattle.message.specs.declared.Message.TheVariants.{ProposeResponse, Learn, ReleaseRequest}
use Rattle.message.specs.Message.{last_tick, prepare_request, release_request, is_response}
use Rattle.message.specs.Message.{numbers_of}
use Rattle.message.specs.Faults.{fault_of, fault_to}
use Rattle.message.proofs.Laws.{fault_passed}
use Rattle.rules.specs.Rules.{wait_end, ballot_at, own_end}
use Rattle.rules.proofs.Laws as R
use Rattle.state.specs.declared.Settings.{Settings}
use Rattle.state.specs.declared.Asking.{Asking}
use Rattle.state.specs.declared.Proposing.{Proposing}
use Rattle.state.specs.declared.Round.{Round}
use Rattle.state.specs.declared.State.{State}
use Rattle.state.specs.StateLimits.{last_longest, settings_ok, accepted_ok, promised_ok, last_ok}
use Rattle.state.specs.StateLimits.{round_ok, named_ok, sizes_of}
use Rattle.state.proofs.StateLimits.{settings_in, BallotIn, out_ballot, LeaseIn, out_accepted}
use Rattle.state.proofs.StateLimits.{out_named, AskingIn, asking_in, out_asking, ProposingIn}
use Rattle.state.proofs.StateLimits.{proposing_in, out_proposing, StateIn, state_in, out_state}
use Rattle.state.specs.Releasing.{vote_of}
use Rattle.state.proofs.Blank.{blank_fits}
use Rattle.state.proofs.RulesKeep.{aged_in, kept_reply, kept_replied, value_in_lem, kept_naming}
use Rattle.state.proofs.RulesKeep.{own_last, kept_lease, kept_holder}
use Rattle.host.specs.declared.Host.{Host}
use Rattle.host.specs.Stepped.{Stepped}
use Rattle.host.specs.Steps.{last_wait, host_ok, refused_with, quiet_with, sending_with, step_with}
use Rattle.host.specs.Steps.{with_state, with_round, with_vote, with_named, advance_refusal}
use Rattle.host.specs.Steps.{advanced_host, advance_of, restart_refusal, restarted_host}
use Rattle.host.specs.Steps.{restart_of, start_refusal, on_start, start_of, release_refusal}
use Rattle.host.specs.Steps.{on_release, release_of, asking_after}
use Rattle.host.specs.Steps.{proposed_value, lease_of, proposing_after, holder_of, learned_holder}
use Rattle.host.specs.Steps.{on_delivery, receive_refusal, receive_of}
use Rattle.host.specs.Claims.{writes, Writable, Lawful, naming_host}
use Rattle.host.proofs.HostLimits.{HostIn, out_host}
use Rattle.host.proofs.Writable.{writes_request, writes_response, writes_proposal}
use Rattle.host.proofs.Writable.{writes_vote, writes_learn}
use Rattle.host.proofs.Refusals.{advance_in, restart_in, start_in, release_in, message_in}
use Rattle.host.proofs.Outcomes.{Reply, empty, lease, Cause, begins, lets_go, gets, step_on}
use Rattle.host.proofs.Outcomes.{Heard, Voted, Outcome, nothing, begun, released, promised}
use Rattle.host.proofs.Outcomes.{heard, proposed, gave_up, accepted, counted_vote, named}
use Rattle.host.proofs.Outcomes.{named_alone, told, freed, outcome, proposes}

-- ---- a host with a part of it replaced

last_wait_is : last_wait ≡ last_tick + (last_longest + last_longest)
unfolding last_wait last_tick last_longest
last_wait_is = refl

wait_last : (s : Settings) (clock : ℕ) → settings_ok s ≡ true → clock ≤ last_tick
    → wait_end clock s.longest s.spread ≤ last_wait
wait_last s clock e c =
    let i = settings_in s e in
    omega (arith, R.wait_is clock s.longest s.spread, last_wait_is, i.short, i.less, c)

kept_state : (s : Settings) (h : Host) (t : State) → HostIn s h → StateIn s h.number t
    → host_ok s (with_state h t) ≡ true
kept_state s h t i j =
    out_host s (with_state h t)
    (record {
      settings = i.settings;
      number = i.number;
      clock = i.clock;
      wait = i.wait;
      state = out_state s h.number t j;
    })

kept_round : (s : Settings) (h : Host) (r : Round) → HostIn s h → round_ok s h.number r ≡ true
    → host_ok s (with_round h r) ≡ true
kept_round s h r i e =
    let j = state_in s h.number h.state i.state in
    kept_state s h _ i
    (record {
      promised = j.promised;
      accepted = j.accepted;
      last = j.last;
      round = e;
      named = j.named;
    })

kept_vote : (s : Settings) (h : Host) (p : Option Ballot) (a : Option Lease) → HostIn s h
    → promised_ok s.n p ≡ true → accepted_ok s.n a ≡ true → host_ok s (with_vote h p a) ≡ true
kept_vote s h p a i e f =
    let j = state_in s h.number h.state i.state in
    kept_state s h _ i
    (record { promised = e; accepted = f; last = j.last; round = j.round; named = j.named })

kept_named : (s : Settings) (h : Host) (r : Round) (m : Option Holder) → HostIn s h
    → round_ok s h.number r ≡ true → named_ok s.n m ≡ true → host_ok s (with_named h r m) ≡ true
kept_named s h r m i e f =
    let j = state_in s h.number h.state i.state in
    kept_state s h _ i
    (record {
      promised = j.promised;
      accepted = j.accepted;
      last = j.last;
      round = e;
      named = f;
    })

idle_ok : (s : Settings) (number : ℕ) → round_ok s number Round.Idle ≡ true
unfolding round_ok
idle_ok s number = refl

-- ---- a step that was done and is fine: its host is within its limits, and writing refuses nothing
-- in what it sends

pub record Fine (s : Settings) (step : Stepped) : Type 0 where
  pub number : step.answer ≡ done
  pub kept : host_ok s step.host ≡ true
  pub writable : Writable s step

fine_quiet : (s : Settings) (h : Host) → host_ok s h ≡ true → Fine s (quiet_with h)
unfolding writes
fine_quiet s h e = record { number = refl; kept = e; writable = tt }

fine_sending : (s : Settings) (h : Host) (m : Message) (set : ℕ) → host_ok s h ≡ true
    → fault_to (sizes_of s) (numbers_of m) set ≡ 0 → Fine s (sending_with h m set)
unfolding writes
fine_sending s h m set e f = record { number = refl; kept = e; writable = f }

-- ---- time and restart

fine_advanced : (s : Settings) (h : Host) (d : ℕ) → HostIn s h → h.clock + d ≤ last_tick
    → Fine s (quiet_with (advanced_host h d))
unfolding advanced_host
fine_advanced s h d i c =
    let t =
    aged_in s h.number (h.clock + d) h.state
    (state_in s h.number h.state i.state) in
    fine_quiet s _
    (out_host s _
    (record {
      settings = i.settings;
      number = i.number;
      clock = c;
      wait = i.wait;
      state = out_state s h.number _ t;
    }))

pub fine_restart : (s : Settings) (h : Host) → HostIn s h → Fine s (quiet_with (restarted_host s h))
unfolding restarted_host
fine_restart s h i =
    fine_quiet s _
    (out_host s _
    (record {
      settings = i.settings;
      number = i.number;
      clock = i.clock;
      wait = wait_last s h.clock i.settings i.clock;
      state = blank_fits s h.number;
    }))

-- ---- a start, a release and a message

-- 0 hosts replied, and no lease is kept
nobody_below : (n : ℕ) → is_below 0 n ≡ true
nobody_below n = lt-ltb 0 (2 ^ n) (pow_pos n)

nothing_ok : (n : ℕ) → accepted_ok n None ≡ true
unfolding accepted_ok
nothing_ok n = refl

last_ok_lem : (t : ℕ) → t ≤ last_tick → last_ok (Some t) ≡ true
unfolding last_ok
last_ok_lem t b = le-leb t last_tick b

promised_ok_lem : (n : ℕ) (b : Ballot) → BallotIn n b → promised_ok n (Some b) ≡ true
unfolding promised_ok
promised_ok_lem n b i = out_ballot n b i

nobody_ok : (n : ℕ) → named_ok n None ≡ true
unfolding named_ok
nobody_ok n = refl

-- the start or the release is not refused; writing refuses nothing in the message
abbrev pub Passes : Settings → Host → Cause → Type 0
Passes s h (begins d) = start_refusal s h d ≡ done
Passes s h lets_go = release_refusal s h ≡ done
Passes s h (gets m) = fault_of (sizes_of s) (numbers_of m) ≡ done

-- a reply in which nothing is refused
pub reply_in : (s : Settings) {m : Message} {d : Head} {a : Option Lease} → Reply m d a
    → fault_of (sizes_of s) (numbers_of m) ≡ done → (d.sender < s.n) × (accepted_ok s.n a ≡ true)
unfolding numbers_of accepted_ok
reply_in s (empty d) f =
    ((fault_passed (sizes_of s) (numbers_of (PrepareResponseEmpty d)) f).sender, refl)
reply_in s (lease m) f =
    let q = fault_passed (sizes_of s) (numbers_of (PrepareResponseLease m)) f in (
      q.sender,
      out_accepted s.n m.accepted
          (record {
            tick = q.accepted_tick;
            host = q.accepted_host;
            owner = q.owner;
            end = q.keepers_end;
          }),
    )

module _ (s : Settings) (h : Host) (i : HostIn s h) where
  held : StateIn s h.number h.state
  held = state_in s h.number h.state i.state

  -- the rounds of such a host, as they are and with one host more
  pub asking_held : (a : Asking) → h.state.round ≡ Round.Asking a → AskingIn s h.number a
  unfolding round_ok
  asking_held a z = asking_in s h.number a (rw z at held.round)

  proposing_held : (p : Proposing) → h.state.round ≡ Round.Proposing p
      → ProposingIn s h.number p
  unfolding round_ok
  proposing_held p z = proposing_in s h.number p (rw z at held.round)

  pub counted_in : (a : Asking) (d : Head) (reply : Option Lease) → h.state.round ≡ Round.Asking a
      → d.sender < s.n → accepted_ok s.n reply ≡ true
      → AskingIn s h.number (asking_after h.clock a d.sender reply)
  unfolding asking_after
  counted_in a d reply z b e =
      let j = asking_held a z in
      record {
        host = j.host;
        tick = j.tick;
        duration = j.duration;
        replied = kept_replied s.n a.replied d.sender j.replied b;
        kept = kept_reply s.n (R.keeping h.clock a.kept reply) j.kept e;
      }

  pub voted_in : (p : Proposing) (d : Head) → h.state.round ≡ Round.Proposing p → d.sender < s.n
      → ProposingIn s h.number (proposing_after p d.sender)
  unfolding proposing_after
  voted_in p d z b =
      let j = proposing_held p z in
      record {
        host = j.host;
        lease = j.lease;
        replied = kept_replied s.n p.replied d.sender j.replied b;
      }

  heard_in : (a : Asking) (d : Head) (reply : Option Lease) → Heard s h (Passes s h) a d reply
      → AskingIn s h.number (asking_after h.clock a d.sender reply)
  heard_in a d reply x =
      let r = reply_in s x.is x.got in counted_in a d reply x.round r.0 r.1

  vote_in : (p : Proposing) (d : Head) → Voted s h (Passes s h) p d
      → ProposingIn s h.number (proposing_after p d.sender)
  unfolding numbers_of
  vote_in p d x =
      voted_in p d x.round
      (fault_passed (sizes_of s) (numbers_of (ProposeResponse d)) x.got).sender

  -- the host that names the holder of a chosen lease, and the holder
  chosen_in : (p : Proposing) → ProposingIn s h.number p → host_ok s (naming_host s h p) ≡ true
      × LeaseIn s.n p.ballot p.owner (p.end.0 - s.spread)
  chosen_in p j =
      let q = j.lease in
      let l : LeaseIn s.n p.ballot p.owner (p.end.0 - s.spread) =
      record { tick = q.tick; host = q.host; owner = q.owner; end = omega (arith, q.end) } in (
        kept_named s h Round.Idle _ i (idle_ok s h.number)
            (kept_naming s.n (R.naming (holder_of s p) h.state.named) held.named
            (out_named s.n (holder_of s p) l)),
        l,
      )

  fine : {t : Stepped} → Outcome s h (Passes s h) t → Fine s t
  unfolding numbers_of is_response on_start on_release
  fine nothing = fine_quiet s h (out_host s h i)
  fine (begun d r) =
      let b = (start_in s h d r).duration in
      let a =
      out_asking s h.number
      (record {
        ballot = ballot_at h.clock h.number;
        duration = d;
        replied = 0;
        kept = None;
      }) i.number
      (record {
        host = refl;
        tick = i.clock;
        duration = b;
        replied = nobody_below s.n;
        kept = nothing_ok s.n;
      }) in
      fine_sending s _ _ (everyone_of s.n)
      (kept_state s h _ i
      (record {
        promised = held.promised;
        accepted = held.accepted;
        last = last_ok_lem h.clock i.clock;
        round = a;
        named = held.named;
      }))
      (writes_request prepare_request refl s h (ballot_at h.clock h.number) i
      (record { tick = i.clock; host = i.number }) refl)
  fine (released _) =
      fine_sending s _ _ (everyone_of s.n)
      (kept_state s h _ i
      (record {
        promised = held.promised;
        accepted = held.accepted;
        last = last_ok_lem h.clock i.clock;
        round = idle_ok s h.number;
        named = nobody_ok s.n;
      }))
      (writes_request release_request refl s h (ballot_at h.clock h.number) i
      (record { tick = i.clock; host = i.number }) refl)
  fine (promised m g _ _) =
      let q = fault_passed (sizes_of s) (numbers_of (PrepareRequest m)) g in
      let b : BallotIn s.n m.ballot = record { tick = q.ballot_tick; host = q.ballot_host } in
      fine_sending s _ _ (single_of m.ballot.host)
      (kept_vote s h _ _ i (promised_ok_lem s.n m.ballot b) held.accepted)
      (writes_response s h m.ballot h.state.accepted i b held.accepted)
  fine (heard a d reply x _) =
      fine_quiet s _
      (kept_round s h _ i (out_asking s h.number _ i.number (heard_in a d reply x)))
  fine (proposed a d reply x _) =
      let j = heard_in a d reply x in
      let b = asking_after h.clock a d.sender reply in
      let l : BallotIn s.n b.ballot =
      record { tick = j.tick; host = rw j.host i.number } in
      let c =
      value_in_lem s.n
      (R.to_propose h.number h.clock (own_end b.ballot.tick b.duration s.spread)
      b.kept) i.number
      (own_last s b.ballot.tick b.duration i.settings j.tick j.duration)
      j.kept in
      let p =
      out_proposing s h.number (proposes s h b)
      (record {
        host = j.host;
        lease = record { tick = l.tick; host = l.host; owner = c.owner; end = c.end };
        replied = nobody_below s.n;
      }) in
      fine_sending s _ _ (everyone_of s.n) (kept_round s h _ i p)
      (writes_proposal s h b.ballot (proposed_value s h b) i l j.host c)
  fine gave_up = fine_quiet s _ (kept_round s h Round.Idle i (idle_ok s h.number))
  fine (accepted m g _ _) =
      let q = fault_passed (sizes_of s) (numbers_of (ProposeRequest m)) g in
      let b : BallotIn s.n m.head.ballot =
      record { tick = q.ballot_tick; host = q.ballot_host } in
      let a =
      out_accepted s.n (lease_of m)
      (record {
        tick = q.ballot_tick;
        host = q.ballot_host;
        owner = q.owner;
        end = q.keepers_end;
      }) in
      let v = R.accept_promises (lease_of m) in
      fine_sending s _ _ (single_of m.head.ballot.host)
      (kept_vote s h _ _ i (rw v.0 (promised_ok_lem s.n m.head.ballot b)) (rw v.1 a))
      (writes_vote s h m.head.ballot i b)
  fine (counted_vote p d x _) =
      fine_quiet s _ (kept_round s h _ i (out_proposing s h.number _ (vote_in p d x)))
  fine (named p d x) =
      let j = vote_in p d x.vote in
      let c = chosen_in (proposing_after p d.sender) j in
      fine_sending s _ _ (others_of s.n h.number) c.0
      (writes_learn s h (holder_of s (proposing_after p d.sender)) i j.host c.1)
  fine (named_alone p d x) =
      fine_quiet s _ (chosen_in (proposing_after p d.sender) (vote_in p d x.vote)).0
  fine (told m g _) =
      let q = fault_passed (sizes_of s) (numbers_of (Learn m)) g in
      let l =
      out_named s.n (learned_holder m)
      (record {
        tick = q.ballot_tick;
        host = q.ballot_host;
        owner = q.owner;
        end = q.holders_end;
      }) in
      fine_quiet s _
      (kept_named s h h.state.round _ i held.round
      (kept_naming s.n (R.naming (learned_holder m) h.state.named) held.named l))
  fine (freed m g _ _) =
      let q = fault_passed (sizes_of s) (numbers_of (ReleaseRequest m)) g in
      let b : BallotIn s.n m.ballot = record { tick = q.ballot_tick; host = q.ballot_host } in
      let v = R.release_promises (vote_of h.state) m in
      fine_quiet s _
      (kept_state s h _ i
      (record {
        promised = rw v.0 (promised_ok_lem s.n m.ballot b);
        accepted =
            rw v.1
            (kept_lease s.n (R.freed_lease_lem m h.state.accepted) held.accepted);
        last = held.last;
        round = held.round;
        named = kept_holder s.n (R.freed_holder_lem m h.state.named) held.named;
      }))

-- ---- every step, refused or done

lawful : (s : Settings) (k : ℕ) (h : Host) (step : Stepped) → (k ≡ done → Fine s step)
    → Lawful s h k step (step_with k h step)
unfolding writes
lawful s k h step f = record {
  unchanged = λ e. rw (ne_eqb k done e);
  carried_out = λ e. rw (eq-eqb k done e);
  number =
      by_test (λ (x : Stepped). x.answer ≡ k) (eqb k done) step (refused_with k h)
      (λ p. let e = eqb-true k done p in (f e).number ∙ sym e) (λ _. refl);
  kept = λ o.
      by_test (λ (x : Stepped). host_ok s x.host ≡ true) (eqb k done) step (refused_with k h)
      (λ p. (f (eqb-true k done p)).kept) (λ _. o);
  writable =
      by_test (Writable s) (eqb k done) step (refused_with k h)
      (λ p. (f (eqb-true k done p)).writable) (λ _. tt);
}

pub fine_advance : (s : Settings) (h : Host) (d : ℕ) → advance_refusal s h d ≡ done
    → Fine s (quiet_with (advanced_host h d))
fine_advance s h d e = let p = advance_in s h d e in fine_advanced s h d p.0 p.1

pub fine_step : (s : Settings) (h : Host) (c : Cause) → HostIn s h → Passes s h c
    → Fine s (step_on s h c)
fine_step s h c i k = fine s h i (outcome s h (Passes s h) c k)

pub lawful_advance : (s : Settings) (h : Host) (d : ℕ)
    → Lawful s h (advance_refusal s h d) (quiet_with (advanced_host h d)) (advance_of s h d)
unfolding advance_of
lawful_advance s h d =
    lawful s (advance_refusal s h d) h (quiet_with (advanced_host h d)) (fine_advance s h d)

pub lawful_restart : (s : Settings) (h : Host)
    → Lawful s h (restart_refusal s h) (quiet_with (restarted_host s h)) (restart_of s h)
unfolding restart_of
lawful_restart s h =
    lawful s (restart_refusal s h) h (quiet_with (restarted_host s h))
    (λ e. fine_restart s h (restart_in s h e))

pub lawful_start : (s : Settings) (h : Host) (d : ℕ)
    → Lawful s h (start_refusal s h d) (on_start s h d) (start_of s h d)
unfolding start_of
lawful_start s h d =
    lawful s (start_refusal s h d) h (on_start s h d)
    (λ e. fine_step s h (begins d) (start_in s h d e).host e)

pub lawful_release : (s : Settings) (h : Host)
    → Lawful s h (release_refusal s h) (on_release s h) (release_of s h)
unfolding release_of
lawful_release s h =
    lawful s (release_refusal s h) h (on_release s h)
    (λ e. fine_step s h lets_go (release_in s h e).host e)

pub lawful_message : (s : Settings) (h : Host) (m : Message)
    → Lawful s h (receive_refusal s h m) (on_delivery s h m) (receive_of s h m)
unfolding receive_of
lawful_message s h m =
    lawful s (receive_refusal s h m) h (on_delivery s h m)
    (λ e. let p = message_in s h m e in fine_step s h (gets m) p.0 p.1)
