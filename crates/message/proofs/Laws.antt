-- Laws of the order of ballots, of messages as numbers, of kinds, and of what is refused in a
-- message. Assumes nothing.
use mathlib.Core.Path.{◌≡◌, refl, sym}
use mathlib.Core.Bool.{Bool, true, false, cond}
use mathlib.Core.List.{[], ◌∷◌}
use Prim.Native.Nat.{ℕ, zero, suc, ◌^◌, ◌≤◌, ◌<◌}
use native.Mathlib.Omega.{arith}
use lib.Pow.{pow_pos}
use lib.Dec.{ltb, leb, eqb}
use borrow.Author.Tests.{ltb-true, leb-true, eqb-true, lt-ltb, le-ltb, le-leb, eq-eqb, ne_eqb}
use Rattle.base.specs.Refusals.{first_of, all_hold, answer_by, refused_host, refused_tick}
use Rattle.base.specs.Refusals.{refused_party}
use Rattle.base.specs.Lists.{All, all_of}
use Rattle.base.proofs.Tests.{both, unless_passed}
use Rattle.base.proofs.Lists.{all_of_in, out_all_of}
use Rattle.quorum.specs.Sets.{Member, is_in, is_below, is_only}
use Rattle.quorum.proofs.Laws.{only_one, some_host, named_below, named_only}
use Rattle.message.specs.declared.Ballot.{Ballot}
use Rattle.message.specs.declared.Sizes.{Sizes}
use Rattle.message.specs.declared.Numbers.{Numbers}
use Rattle.message.specs.declared.Message.{Message}
use Rattle.message.specs.declared.Message.TheVariants.{PrepareRequest, PrepareResponseEmpty}
use Rattle.message.specs.declared.Message.TheVariants.{PrepareResponseLease, ProposeRequest}
use Rattle.message.specs.declared.Message.TheVariants.{ProposeResponse, Learn}
use Rattle.message.specs.declared.Message.TheVariants.{ReleaseRequest}
use Rattle.message.specs.Message.{last_tick, last_end, is_above, prepare_request}
use Rattle.message.specs.Message.{prepare_response_empty, prepare_response_lease, propose_request}
use Rattle.message.specs.Message.{propose_response, learn, release_request, known_kind}
use Rattle.message.specs.Message.{is_response, numbers_of, message_of, with_target, addressed_to}
use Rattle.message.specs.Message.{target_of}
use Rattle.message.specs.Faults.{host_tests, tick_tests, message_refusals, party_fits, fault_of}
use Rattle.message.specs.Faults.{party_fits_to, fault_to}

-- ---- the order of ballots

-- no ballot is above itself
pub above_itself : (b : Ballot) → is_above b b ≡ false
unfolding is_above
above_itself b = rw (eq-eqb b.tick b.tick refl, le-ltb b.host b.host (omega arith))

-- of two ballots at most one is above the other
pub above_one_way : (a b : Ballot) → is_above a b ≡ true → is_above b a ≡ false
unfolding is_above
above_one_way a b e = go (eqb a.tick b.tick) refl e
  where
    go : (t : Bool) → eqb a.tick b.tick ≡ t
        → cond t (ltb b.host a.host) (ltb b.tick a.tick) ≡ true
        → cond (eqb b.tick a.tick) (ltb a.host b.host) (ltb a.tick b.tick) ≡ false
    go true p q =
        let l = ltb-true b.host a.host q in
        rw (
          eq-eqb b.tick a.tick (sym (eqb-true a.tick b.tick p)),
          le-ltb a.host b.host (omega arith),
        )
    go false p q =
        let l = ltb-true b.tick a.tick q in
        rw (ne_eqb b.tick a.tick (λ s. omega arith), le-ltb a.tick b.tick (omega arith))

-- ---- messages as numbers

pub message_numbers : (m : Message) → message_of (numbers_of m) ≡ m
unfolding message_of numbers_of
message_numbers (PrepareRequest h) = refl
message_numbers (PrepareResponseEmpty h) = refl
message_numbers (PrepareResponseLease m) = refl
message_numbers (ProposeRequest m) = refl
message_numbers (ProposeResponse h) = refl
message_numbers (Learn m) = refl
message_numbers (ReleaseRequest h) = refl

-- another target changes nothing else
pub numbers_to : (m : Message) (h : ℕ)
    → numbers_of (addressed_to m h) ≡ with_target (numbers_of m) h
unfolding addressed_to message_of numbers_of
numbers_to (PrepareRequest _) h = refl
numbers_to (PrepareResponseEmpty _) h = refl
numbers_to (PrepareResponseLease m) h = refl
numbers_to (ProposeRequest m) h = refl
numbers_to (ProposeResponse _) h = refl
numbers_to (Learn m) h = refl
numbers_to (ReleaseRequest _) h = refl

-- ---- kinds

-- what holds of each of the seven kinds holds of every number that is a kind
pub by_kind : (P : ℕ → Type 0) → P prepare_request → P prepare_response_empty
    → P prepare_response_lease
    → P propose_request → P propose_response → P learn → P release_request → (k : ℕ)
    → known_kind k ≡ true → P k
unfolding known_kind
by_kind P a b c d e f g zero h =
    absurd
    (omega (
      arith,
      leb-true prepare_request 0 (both (leb prepare_request 0) (leb 0 release_request) h).0,
    ))
by_kind P a b c d e f g (suc zero) h = a
by_kind P a b c d e f g (suc (suc zero)) h = b
by_kind P a b c d e f g (suc (suc (suc zero))) h = c
by_kind P a b c d e f g (suc (suc (suc (suc zero)))) h = d
by_kind P a b c d e f g (suc (suc (suc (suc (suc zero))))) h = e
by_kind P a b c d e f g (suc (suc (suc (suc (suc (suc zero)))))) h = f
by_kind P a b c d e f g (suc (suc (suc (suc (suc (suc (suc zero))))))) h = g
by_kind P a b c d e f g (suc (suc (suc (suc (suc (suc (suc (suc k)))))))) h =
    let n : ℕ = suc (suc (suc (suc (suc (suc (suc (suc k))))))) in
    absurd
    (omega (
      arith,
      leb-true n release_request (both (leb prepare_request n) (leb n release_request) h).1,
    ))

pub kind_known : (m : Message) → known_kind (numbers_of m).kind ≡ true
unfolding known_kind numbers_of
kind_known (PrepareRequest h) = refl
kind_known (PrepareResponseEmpty h) = refl
kind_known (PrepareResponseLease m) = refl
kind_known (ProposeRequest m) = refl
kind_known (ProposeResponse h) = refl
kind_known (Learn m) = refl
kind_known (ReleaseRequest h) = refl

-- ---- what is refused in a message

-- what holds of numbers in which nothing is refused
pub record Passed (z : Sizes) (f : Numbers) (targetFits party_fits : Bool) : Type 0 where
  pub sender : f.sender < z.n
  pub target : targetFits ≡ true
  pub ballot_host : f.ballot.host < z.n
  pub accepted_host : f.accepted.host < z.n
  pub owner : f.owner < z.n
  pub ballot_tick : f.ballot.tick ≤ last_tick
  pub accepted_tick : f.accepted.tick ≤ last_tick
  pub keepers_end : f.keepers.0 ≤ last_end
  pub holders_end : f.holders.0 ≤ last_end
  pub party : party_fits ≡ true

pub passed : (z : Sizes) (f : Numbers) (t p : Bool) → answer_by (message_refusals z f t p) ≡ 0
    → Passed z f t p
unfolding All
passed z f t p e =
    let q1 = unless_passed (all_hold (host_tests z f t)) refused_host _ refl e in
    let q2 = unless_passed (all_hold (tick_tests f)) refused_tick _ refl q1.1 in
    let q3 = unless_passed (all_of (p ∷ [])) refused_party [] refl q2.1 in
    let h = all_of_in _ q1.0 in
    let k = all_of_in _ q2.0 in
    record {
      sender = ltb-true f.sender z.n h.0;
      target = h.1.0;
      ballot_host = ltb-true f.ballot.host z.n h.1.1.0;
      accepted_host = ltb-true f.accepted.host z.n h.1.1.1.0;
      owner = ltb-true f.owner z.n h.1.1.1.1.0;
      ballot_tick = leb-true f.ballot.tick last_tick k.0;
      accepted_tick = leb-true f.accepted.tick last_tick k.1.0;
      keepers_end = leb-true f.keepers.0 last_end k.1.1.0;
      holders_end = leb-true f.holders.0 last_end k.1.1.1.0;
      party = (all_of_in (p ∷ []) q3.0).0;
    }

-- and where all that holds, nothing is refused
pub passing : (z : Sizes) (f : Numbers) (t p : Bool) → Passed z f t p
    → answer_by (message_refusals z f t p) ≡ 0
unfolding first_of All
passing z f t p i =
    let n = z.n in
    let hosts : all_hold (host_tests z f t) ≡ true =
    out_all_of _ (
      lt-ltb f.sender n i.sender,
      (
        i.target,
        (
          lt-ltb f.ballot.host n i.ballot_host,
          (lt-ltb f.accepted.host n i.accepted_host, (lt-ltb f.owner n i.owner, tt)),
        ),
      ),
    ) in
    let ticks : all_hold (tick_tests f) ≡ true =
    out_all_of _ (
      le-leb f.ballot.tick last_tick i.ballot_tick,
      (
        le-leb f.accepted.tick last_tick i.accepted_tick,
        (
          le-leb f.keepers.0 last_end i.keepers_end,
          (le-leb f.holders.0 last_end i.holders_end, tt),
        ),
      ),
    ) in
    rw (hosts, ticks, out_all_of (p ∷ []) (i.party, tt))

pub fault_passed : (z : Sizes) (f : Numbers) → fault_of z f ≡ 0
    → Passed z f (ltb f.target z.n) (party_fits f)
unfolding fault_of
fault_passed z f e = passed z f _ _ e

pub passed_to : (z : Sizes) (f : Numbers) (set : ℕ) → fault_to z f set ≡ 0
    → Passed z f (is_below set z.n) (party_fits_to f set)
unfolding fault_to
passed_to z f set e = passed z f _ _ e

pub passing_to : (z : Sizes) (f : Numbers) (set : ℕ)
    → Passed z f (is_below set z.n) (party_fits_to f set) → fault_to z f set ≡ 0
unfolding fault_to
passing_to z f set i = passing z f _ _ i

-- a message to no host is refused as the one to its ballot's host is
pub fault_none : (z : Sizes) (f : Numbers)
    → fault_to z f 0 ≡ fault_of z (with_target f f.ballot.host)
unfolding fault_to fault_of party_fits party_fits_to all_of
fault_none z f =
    let h = f.ballot.host in
    rw (lt-ltb 0 (2 ^ z.n) (pow_pos z.n), eq-eqb h h refl)
    (go (ltb h z.n) refl (party_fits_to f 0))
  where
    go : (b : Bool) → ltb f.ballot.host z.n ≡ b → (p : Bool)
        → answer_by (message_refusals z f true p)
        ≡ answer_by (message_refusals z f (ltb f.ballot.host z.n) p)
    go true e p = rw e
    go false e p = rw e

-- what may be sent to each host that a set names may be sent to the set, if it names one

party_all : (b : Bool) (f : Numbers) (set g : ℕ) → is_in set g ≡ true
    → ((h : ℕ) → is_in set h ≡ true
    → cond b (eqb h f.ballot.host) (eqb f.sender f.ballot.host) ≡ true)
    → cond b (is_only set f.ballot.host) (eqb f.sender f.ballot.host) ≡ true
party_all true f set g m e =
    named_only set f.ballot.host (λ h i. eqb-true h f.ballot.host (e h i))
party_all false f set g m e = e g m

pub fault_all : (z : Sizes) (f : Numbers) (set : ℕ) → 0 < set
    → ((h : ℕ) → is_in set h ≡ true → fault_of z (with_target f h) ≡ 0) → fault_to z f set ≡ 0
unfolding party_fits party_fits_to
fault_all z f set p e =
    let one = some_host set p in
    let each : (h : ℕ) → is_in set h ≡ true
    → Passed z (with_target f h) (ltb h z.n) (party_fits (with_target f h)) =
    λ h i. fault_passed z (with_target f h) (e h i) in
    let q = each one.0 one.1 in
    passing_to z f set (record {
      sender = q.sender;
      target = named_below z.n set (λ h i. ltb-true h z.n (each h i).target);
      ballot_host = q.ballot_host;
      accepted_host = q.accepted_host;
      owner = q.owner;
      ballot_tick = q.ballot_tick;
      accepted_tick = q.accepted_tick;
      keepers_end = q.keepers_end;
      holders_end = q.holders_end;
      party =
          party_all (is_response f.kind) f set one.0 one.1 (λ h i. (each h i).party);
    })

party_each : (b : Bool) (f : Numbers) (set h : ℕ) → is_in set h ≡ true
    → cond b (is_only set f.ballot.host) (eqb f.sender f.ballot.host) ≡ true
    → cond b (eqb h f.ballot.host) (eqb f.sender f.ballot.host) ≡ true
party_each true f set h m e = eq-eqb h f.ballot.host (only_one set f.ballot.host h e m)
party_each false f set h m e = e

-- what may be sent to a set may be sent to each of its hosts
pub fault_each : (z : Sizes) (f : Numbers) (set h : ℕ) → fault_to z f set ≡ 0 → Member z.n set h
    → fault_of z (with_target f h) ≡ 0
unfolding fault_to fault_of party_fits party_fits_to
fault_each z f set h e m =
    let q = passed_to z f set e in
    let p = party_each (is_response f.kind) f set h m.within q.party in
    rw (lt-ltb h z.n m.below, p) (rw (q.target, q.party) at e)

-- its target is a host of the cell
pub target_in_lem : (z : Sizes) (m : Message) → fault_of z (numbers_of m) ≡ 0 → target_of m < z.n
target_in_lem z m f = ltb-true (target_of m) z.n (fault_passed z (numbers_of m) f).target
