-- What the limits of settings and of a host's state tell, as orders of numbers, and the limits from
-- that. Assumes nothing.
use Rattle.std.specs.Prelude.{Some}
use mathlib.Core.Path.{◌≡◌}
use mathlib.Core.Bool.{true}
use Prim.Native.Nat.{ℕ, ◌+◌, ◌≤◌, ◌<◌}
use borrow.Author.Tests.{leb-true, ltb-true, eqb-true, lt-ltb, le-leb, eq-eqb}
use Rattle.base.specs.Lists.{All}
use Rattle.base.proofs.Lists.{all_of_in, out_all_of}
use Rattle.base.proofs.Tests.{both}
use Rattle.quorum.specs.Sets.{is_below}
use Rattle.message.specs.declared.Ballot.{Ballot}
use Rattle.message.specs.Leases.{Lease, Holder}
use Rattle.message.specs.Message.{last_tick, last_end}
use Rattle.state.specs.declared.Settings.{Settings}
use Rattle.state.specs.declared.Asking.{Asking}
use Rattle.state.specs.declared.Proposing.{Proposing}
use Rattle.state.specs.declared.Round.{Round}
use Rattle.state.specs.declared.State.{State}
use Rattle.state.specs.StateLimits.{last_longest, settings_ok, duration_ok, ballot_ok, lease_ok}
use Rattle.state.specs.StateLimits.{accepted_ok, promised_ok, last_ok, round_ok, named_ok}
use Rattle.state.specs.StateLimits.{asking_ok, proposing_ok, state_ok}

pub record SettingsIn (s : Settings) : Type 0 where
  pub some : 1 ≤ s.n
  pub few : s.n ≤ 9
  pub short : s.longest ≤ last_longest
  pub less : s.spread < s.longest

pub settings_in : (s : Settings) → settings_ok s ≡ true → SettingsIn s
unfolding settings_ok All
settings_in s e =
    let p = all_of_in _ e in
    let q = both _ _ p.0 in
    record {
      some = leb-true _ _ q.0;
      few = leb-true _ _ q.1;
      short = leb-true _ _ p.1.1.0;
      less = ltb-true _ _ p.1.1.1.0;
    }

pub record BallotIn (n : ℕ) (b : Ballot) : Type 0 where
  pub tick : b.tick ≤ last_tick
  pub host : b.host < n

pub ballot_in : (n : ℕ) (b : Ballot) → ballot_ok n b ≡ true → BallotIn n b
unfolding ballot_ok All
ballot_in n b e =
    let p = all_of_in _ e in record { tick = leb-true _ _ p.0; host = ltb-true _ _ p.1.0 }

pub out_ballot : (n : ℕ) (b : Ballot) → BallotIn n b → ballot_ok n b ≡ true
unfolding ballot_ok All
out_ballot n b i = out_all_of _ (le-leb _ _ i.tick, (lt-ltb _ _ i.host, tt))

-- a lease, or a holder, of this ballot, owner and end
pub record LeaseIn (n : ℕ) (b : Ballot) (o e : ℕ) : Type 0 where
  pub tick : b.tick ≤ last_tick
  pub host : b.host < n
  pub owner : o < n
  pub end : e ≤ last_end

pub lease_in : (n : ℕ) (b : Ballot) (owner end : ℕ) → lease_ok n b owner end ≡ true
    → LeaseIn n b owner end
unfolding lease_ok All
lease_in n b owner end e =
    let p = all_of_in _ e in
    let q = ballot_in n b p.0 in
    record {
      tick = q.tick;
      host = q.host;
      owner = ltb-true _ _ p.1.0;
      end = leb-true _ _ p.1.1.0;
    }

pub out_lease : (n : ℕ) (b : Ballot) (owner end : ℕ) → LeaseIn n b owner end
    → lease_ok n b owner end ≡ true
unfolding lease_ok All
out_lease n b owner end i =
    out_all_of _ (
      out_ballot n b (record { tick = i.tick; host = i.host }),
      (lt-ltb _ _ i.owner, (le-leb _ _ i.end, tt)),
    )

pub accepted_in : (n : ℕ) (l : Lease) → accepted_ok n (Some l) ≡ true
    → LeaseIn n l.ballot l.owner l.end.0
unfolding accepted_ok
accepted_in n l e = lease_in n l.ballot l.owner l.end.0 e

pub out_accepted : (n : ℕ) (l : Lease) → LeaseIn n l.ballot l.owner l.end.0
    → accepted_ok n (Some l) ≡ true
unfolding accepted_ok
out_accepted n l i = out_lease n l.ballot l.owner l.end.0 i

pub out_named : (n : ℕ) (k : Holder) → LeaseIn n k.ballot k.owner k.end.0
    → named_ok n (Some k) ≡ true
unfolding named_ok
out_named n k i = out_lease n k.ballot k.owner k.end.0 i

pub record AskingIn (s : Settings) (number : ℕ) (a : Asking) : Type 0 where
  pub host : a.ballot.host ≡ number
  pub tick : a.ballot.tick ≤ last_tick
  pub duration : a.duration + s.spread ≤ s.longest
  pub replied : is_below a.replied s.n ≡ true
  pub kept : accepted_ok s.n a.kept ≡ true

pub asking_in : (s : Settings) (number : ℕ) (a : Asking) → asking_ok s number a ≡ true
    → AskingIn s number a
unfolding asking_ok duration_ok All
asking_in s number a e =
    let p = all_of_in _ e in
    let q = p.1.1 in
    record {
      host = eqb-true _ _ p.0;
      tick = (ballot_in s.n a.ballot p.1.0).tick;
      duration = leb-true _ _ q.0;
      replied = q.1.0;
      kept = q.1.1.0;
    }

pub out_asking : (s : Settings) (number : ℕ) (a : Asking) → number < s.n → AskingIn s number a
    → round_ok s number (Round.Asking a) ≡ true
unfolding round_ok asking_ok duration_ok All
out_asking s number a b i =
    let q = out_ballot s.n a.ballot (record { tick = i.tick; host = rw i.host b }) in
    out_all_of _
    (eq-eqb _ _ i.host, (q, (le-leb _ _ i.duration, (i.replied, (i.kept, tt)))))

pub record ProposingIn (s : Settings) (number : ℕ) (p : Proposing) : Type 0 where
  pub host : p.ballot.host ≡ number
  pub lease : LeaseIn s.n p.ballot p.owner p.end.0
  pub replied : is_below p.replied s.n ≡ true

pub proposing_in : (s : Settings) (number : ℕ) (p : Proposing) → proposing_ok s number p ≡ true
    → ProposingIn s number p
unfolding proposing_ok All
proposing_in s number p e =
    let q = all_of_in _ e in
    record {
      host = eqb-true _ _ q.0;
      lease = lease_in s.n p.ballot p.owner p.end.0 q.1.0;
      replied = q.1.1.0;
    }

pub out_proposing : (s : Settings) (number : ℕ) (p : Proposing) → ProposingIn s number p
    → round_ok s number (Round.Proposing p) ≡ true
unfolding round_ok proposing_ok All
out_proposing s number p i =
    out_all_of _ (
      eq-eqb _ _ i.host,
      (out_lease s.n p.ballot p.owner p.end.0 i.lease, (i.replied, tt)),
    )

pub record StateIn (s : Settings) (number : ℕ) (t : State) : Type 0 where
  pub promised : promised_ok s.n t.promised ≡ true
  pub accepted : accepted_ok s.n t.accepted ≡ true
  pub last : last_ok t.last ≡ true
  pub round : round_ok s number t.round ≡ true
  pub named : named_ok s.n t.named ≡ true

pub state_in : (s : Settings) (number : ℕ) (t : State) → state_ok s number t ≡ true
    → StateIn s number t
unfolding state_ok All
state_in s number t e =
    let p = all_of_in _ e in
    let q = p.1.1 in
    record { promised = p.0; accepted = p.1.0; last = q.0; round = q.1.0; named = q.1.1.0 }

pub out_state : (s : Settings) (number : ℕ) (t : State) → StateIn s number t
    → state_ok s number t ≡ true
unfolding state_ok All
out_state s number t i =
    out_all_of _ (i.promised, (i.accepted, (i.last, (i.round, (i.named, tt)))))
