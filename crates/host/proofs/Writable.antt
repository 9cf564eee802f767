-- Writing refuses nothing in a message that a host within its limits sends. Assumes nothing.
use Rattle.std.specs.Prelude.{Option, Some, None}
use Rattle.message.specs.Leases.{Lease, Holder}
use mathlib.Core.Path.{◌≡◌, refl, sym}
use mathlib.Core.Bool.{Bool, true, false, ◌||◌}
use Prim.Native.Nat.{ℕ, ◌^◌, ◌≤◌, ◌<◌}
use native.Mathlib.Omega.{arith}
use lib.Dec.{eqb}
use lib.Pow.{pow-lt}
use borrow.Author.Tests.{lt-ltb, eq-eqb}
use Rattle.quorum.specs.Sets.{Member, is_below, is_only, single_of, everyone_of, others_of}
use Rattle.quorum.proofs.Majorities.{everyone_below, others_below}
use Rattle.message.specs.declared.Ballot.{Ballot}
use Rattle.message.specs.declared.KeepersEnd.{KeepersEnd}
use Rattle.message.specs.declared.HoldersEnd.{HoldersEnd}
use Rattle.message.specs.declared.Head.{Head}
use Rattle.message.specs.declared.Sizes.{Sizes}
use Rattle.message.specs.declared.Message.{Message}
use Rattle.message.specs.declared.Message.TheVariants.{ProposeRequest}
use Rattle.message.specs.declared.Message.TheVariants.{ProposeResponse, Learn}
use Rattle.message.specs.Message.{last_end, prepare_response_empty}
use Rattle.message.specs.Message.{prepare_response_lease, propose_request, propose_response, learn}
use Rattle.message.specs.Message.{is_response, no_ballot, no_keepers, no_holders, numbers_with}
use Rattle.message.specs.Message.{numbers_of, addressed_to}
use Rattle.message.specs.Faults.{party_fits_to, fault_of, fault_to}
use Rattle.message.proofs.Laws.{passing_to, fault_each, numbers_to}
use Rattle.rules.specs.declared.Value.{Value}
use Rattle.state.specs.declared.Settings.{Settings}
use Rattle.state.specs.StateLimits.{accepted_ok, sizes_of}
use Rattle.state.proofs.StateLimits.{BallotIn, LeaseIn, accepted_in}
use Rattle.state.proofs.RulesKeep.{ValueIn}
use Rattle.host.specs.declared.Host.{Host}
use Rattle.host.specs.Stepped.{Stepped}
use Rattle.host.specs.Steps.{head_from, response_with}
use Rattle.host.specs.Claims.{writes, Writable}
use Rattle.host.proofs.HostLimits.{HostIn}

or_right : (a b : Bool) → b ≡ true → (a || b) ≡ true
or_right true b q = refl
or_right false b q = q

-- ---- for each receiver

-- what writing to a set accepts it accepts for each host of the set
pub writable_each : (s : Settings) (step : Stepped) (m : Message) (h : ℕ) → Writable s step
    → step.sent ≡ Some m → Member s.n step.receivers h
    → fault_of (sizes_of s) (numbers_of (addressed_to m h)) ≡ 0
unfolding writes
writable_each s step m h w e i =
    rw (numbers_to m h) (fault_each (sizes_of s) (numbers_of m) step.receivers h (rw e at w) i)

-- ---- a message in which nothing is refused, from its parts

written : (z : Sizes) (k : ℕ) (d : Head) (a : Ballot) (o : ℕ) (e : KeepersEnd) (f : HoldersEnd)
    (set : ℕ) → d.sender < z.n → BallotIn z.n d.ballot → LeaseIn z.n a o e.0
    → f.0 ≤ last_end
    → is_below set z.n ≡ true → party_fits_to (numbers_with k d a o e f) set ≡ true
    → fault_to z (numbers_with k d a o e f) set ≡ 0
written z k d a o e f set sender b l g below party =
    passing_to z (numbers_with k d a o e f) set (record {
      sender = sender;
      target = below;
      ballot_host = b.host;
      accepted_host = l.host;
      owner = l.owner;
      ballot_tick = b.tick;
      accepted_tick = l.tick;
      keepers_end = l.end;
      holders_end = g;
      party = party;
    })

-- the numbers that a kind lacks are within their limits
no_lease_lem : (s : Settings) (h : Host) → HostIn s h → LeaseIn s.n no_ballot 0 0
no_lease_lem s h i =
    let b = i.number in
    record {
      tick = omega arith;
      host = omega (arith, b);
      owner = omega (arith, b);
      end = omega arith;
    }

-- the host of a ballot is the one host of its set
only_single : (h : ℕ) → is_only (single_of h) h ≡ true
only_single h =
    or_right (eqb (single_of h) 0) (eqb (single_of h) (single_of h))
    (eq-eqb (single_of h) (single_of h) refl)

single_below : (n h : ℕ) → h < n → is_below (single_of h) n ≡ true
single_below n h b = lt-ltb (single_of h) (2 ^ n) (pow-lt b)

everyone_fits : (n : ℕ) → is_below (everyone_of n) n ≡ true
everyone_fits n = lt-ltb (everyone_of n) (2 ^ n) (everyone_below n)

others_fit : (n h : ℕ) → is_below (others_of n h) n ≡ true
others_fit n h = lt-ltb (others_of n h) (2 ^ n) (others_below n h)

-- a request of one's own ballot that has no more than its head, to all
pub writes_request : (k : ℕ) → is_response k ≡ false → (s : Settings) (h : Host) (b : Ballot)
    → HostIn s h → BallotIn s.n b → b.host ≡ h.number
    → fault_to (sizes_of s) (numbers_with k (head_from h b) no_ballot 0 no_keepers no_holders)
    (everyone_of s.n) ≡ 0
unfolding party_fits_to
writes_request k r s h b i j e =
    written (sizes_of s) k (head_from h b) no_ballot 0 no_keepers no_holders (everyone_of s.n)
    i.number j (no_lease_lem s h i) (omega arith) (everyone_fits s.n)
    (rw r (eq-eqb h.number b.host (sym e)))

-- a reply to a ballot's host, empty or with the accepted lease
pub writes_response : (s : Settings) (h : Host) (b : Ballot) (a : Option Lease) → HostIn s h
    → BallotIn s.n b → accepted_ok s.n a ≡ true
    → fault_to (sizes_of s) (numbers_of (response_with (head_from h b) a)) (single_of b.host) ≡ 0
unfolding response_with numbers_of is_response party_fits_to
writes_response s h b None i j e =
    written (sizes_of s) prepare_response_empty (head_from h b) no_ballot 0 no_keepers no_holders
    (single_of b.host) i.number j (no_lease_lem s h i) (omega arith)
    (single_below s.n b.host j.host) (only_single b.host)
writes_response s h b (Some l) i j e =
    written (sizes_of s) prepare_response_lease (head_from h b) l.ballot l.owner l.end
    no_holders (single_of b.host) i.number j (accepted_in s.n l e) (omega arith)
    (single_below s.n b.host j.host) (only_single b.host)

-- a proposal of one's own ballot, to all
pub writes_proposal : (s : Settings) (h : Host) (b : Ballot) (c : Value) → HostIn s h
    → BallotIn s.n b → b.host ≡ h.number → ValueIn s.n c
    → fault_to (sizes_of s)
    (numbers_of (ProposeRequest (record { head = head_from h b; owner = c.owner; end = c.end })))
    (everyone_of s.n) ≡ 0
unfolding numbers_of is_response party_fits_to
writes_proposal s h b c i j e k =
    let l : LeaseIn s.n no_ballot c.owner c.end.0 =
    record {
      tick = omega arith;
      host = omega (arith, i.number);
      owner = k.owner;
      end = k.end;
    } in
    written (sizes_of s) propose_request (head_from h b) no_ballot c.owner c.end no_holders
    (everyone_of s.n) i.number j l (omega arith) (everyone_fits s.n)
    (eq-eqb h.number b.host (sym e))

-- a vote, to a ballot's host
pub writes_vote : (s : Settings) (h : Host) (b : Ballot) → HostIn s h → BallotIn s.n b
    → fault_to (sizes_of s) (numbers_of (ProposeResponse (head_from h b))) (single_of b.host) ≡ 0
unfolding numbers_of is_response party_fits_to
writes_vote s h b i j =
    written (sizes_of s) propose_response (head_from h b) no_ballot 0 no_keepers no_holders
    (single_of b.host) i.number j (no_lease_lem s h i) (omega arith)
    (single_below s.n b.host j.host) (only_single b.host)

-- a learn of one's own ballot, to the others
pub writes_learn : (s : Settings) (h : Host) (k : Holder) → HostIn s h → k.ballot.host ≡ h.number
    → LeaseIn s.n k.ballot k.owner k.end.0
    → fault_to (sizes_of s)
    (numbers_of (Learn (record { head = head_from h k.ballot; owner = k.owner; end = k.end })))
    (others_of s.n h.number) ≡ 0
unfolding numbers_of is_response party_fits_to
writes_learn s h k i e j =
    let l : LeaseIn s.n no_ballot k.owner 0 =
    record {
      tick = omega arith;
      host = omega (arith, i.number);
      owner = j.owner;
      end = omega arith;
    } in
    written (sizes_of s) learn (head_from h k.ballot) no_ballot k.owner no_keepers k.end
    (others_of s.n h.number) i.number (record { tick = j.tick; host = j.host }) l j.end
    (others_fit s.n h.number) (eq-eqb h.number k.ballot.host (sym e))
