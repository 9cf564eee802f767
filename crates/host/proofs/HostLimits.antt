-- What the limits of a host tell, as orders of numbers, and the limits from that. Assumes nothing.
use mathlib.Core.Path.{◌≡◌, sym, ap, ◌∙◌}
use mathlib.Core.Bool.{true}
use Prim.Native.Nat.{◌≤◌, ◌<◌}
use native.Mathlib.Omega.{arith}
use borrow.Author.Tests.{leb-true, ltb-true, lt-ltb, le-leb}
use Rattle.base.specs.Lists.{All}
use Rattle.base.proofs.Lists.{all_of_in, out_all_of}
use Rattle.message.specs.declared.Numbers.{Numbers}
use Rattle.message.specs.declared.Message.{Message}
use Rattle.message.specs.Message.{last_tick, numbers_of}
use Rattle.message.specs.Faults.{fault_of}
use Rattle.message.proofs.Laws.{fault_passed}
use Rattle.state.specs.declared.Settings.{Settings}
use Rattle.state.specs.declared.Asking.{Asking}
use Rattle.state.specs.declared.Round.{Round}
use Rattle.state.specs.StateLimits.{last_longest, settings_ok, round_ok, state_ok, sizes_of}
use Rattle.state.proofs.StateLimits.{settings_in, asking_in, state_in}
use Rattle.host.specs.declared.Host.{Host}
use Rattle.host.specs.Parts.{Placed, Asks, Handed}
use Rattle.host.specs.Steps.{last_wait, host_ok}

pub record HostIn (s : Settings) (h : Host) : Type 0 where
  pub settings : settings_ok s ≡ true
  pub number : h.number < s.n
  pub clock : h.clock ≤ last_tick
  pub wait : h.wait ≤ last_wait
  pub state : state_ok s h.number h.state ≡ true

pub host_in : (s : Settings) (h : Host) → host_ok s h ≡ true → HostIn s h
unfolding host_ok All
host_in s h e =
    let p = all_of_in _ e in
    let q = p.1.1 in
    record {
      settings = p.0;
      number = ltb-true _ _ p.1.0;
      clock = leb-true _ _ q.0;
      wait = leb-true _ _ q.1.0;
      state = q.1.1.0;
    }

pub out_host : (s : Settings) (h : Host) → HostIn s h → host_ok s h ≡ true
unfolding host_ok All
out_host s h i =
    out_all_of _ (
      i.settings,
      (lt-ltb _ _ i.number, (le-leb _ _ i.clock, (le-leb _ _ i.wait, (i.state, tt)))),
    )

-- ---- what a step supposes

pub placed : (s : Settings) (h : Host) → host_ok s h ≡ true → Placed s h
placed s h e =
    let i = host_in s h e in
    record {
      few = omega (arith, (settings_in s i.settings).few);
      number = i.number;
      clock = i.clock;
    }

pub few_hosts : (s : Settings) (h : Host) → host_ok s h ≡ true → s.n < 16
few_hosts s h e = (placed s h e).few

pub clock_within : (s : Settings) (h : Host) → host_ok s h ≡ true → h.clock ≤ last_tick
clock_within s h e = (host_in s h e).clock

pub asks : (s : Settings) (h : Host) (a : Asking) → host_ok s h ≡ true
    → h.state.round ≡ Round.Asking a → Asks s h a
unfolding round_ok last_longest
asks s h a e r =
    let i = host_in s h e in
    let k =
    asking_in s h.number a
    (sym (ap (λ (x : Round). round_ok s h.number x) r)
    ∙ (state_in s h.number h.state i.state).round) in
    let q = settings_in s i.settings in
    record {
      few = omega (arith, q.few);
      clock = i.clock;
      tick = k.tick;
      duration = omega (arith, k.duration, q.short);
    }

-- in a message in which nothing is refused, hosts are below 16
pub record Small (f : Numbers) : Type 0 where
  pub sender : f.sender < 16
  pub host : f.ballot.host < 16

pub small : (s : Settings) (h : Host) → host_ok s h ≡ true → (f : Numbers)
    → fault_of (sizes_of s) f ≡ 0 → Small f
small s h e f q =
    let few = few_hosts s h e in
    let p = fault_passed (sizes_of s) f q in
    record { sender = omega (arith, p.sender, few); host = omega (arith, p.ballot_host, few) }

pub handed : (s : Settings) (h : Host) (m : Message) → Handed s h m
    → ((numbers_of m).sender < 16) × ((numbers_of m).ballot.host < 16) × Placed s h
handed s h m i =
    let p = small s h i.host (numbers_of m) i.message in
    (p.sender, p.host, placed s h i.host)
