-- The leaf rules keep what a host keeps within its limits. Assumes nothing.
use Rattle.std.specs.Prelude.{Option, Some}
use mathlib.Core.Path.{◌≡◌, refl}
use mathlib.Core.Bool.{true}
use Prim.Native.Nat.{ℕ, ◌+◌, ◌^◌, ◌≤◌, ◌<◌}
use native.Mathlib.Omega.{arith}
use borrow.Author.Tests.{ltb-true, lt-ltb}
use Rattle.quorum.specs.Sets.{is_below, with_host}
use Rattle.quorum.proofs.Majorities.{with_below}
use Rattle.message.specs.declared.KeepersEnd.{KeepersEnd}
use Rattle.message.specs.Leases.{Lease, Holder}
use Rattle.message.specs.Message.{last_tick, last_end}
use Rattle.rules.specs.declared.Value.{Value}
use Rattle.rules.specs.Rules.{own_end}
use Rattle.rules.proofs.Laws.{LeaseLeft, empty, over, live, lease_aged, HolderLeft, nobody, dropped}
use Rattle.rules.proofs.Laws.{stays, holder_aged, earlier, later, Keeping, as_sent, as_empty}
use Rattle.rules.proofs.Laws.{ToPropose, free, ended, renewed, kept, Naming, first, replaced}
use Rattle.rules.proofs.Laws.{unmoved}
use Rattle.state.specs.declared.Settings.{Settings}
use Rattle.state.specs.declared.State.{State}
use Rattle.state.specs.StateLimits.{last_longest, settings_ok, accepted_ok, named_ok}
use Rattle.state.specs.Ageing.{aged_at}
use Rattle.state.proofs.StateLimits.{settings_in, accepted_in, StateIn}

-- ---- time and releases

pub kept_lease : (n : ℕ) {Goes Stays : Lease → Type 0} {a b : Option Lease}
    → LeaseLeft Goes Stays a b → accepted_ok n a ≡ true → accepted_ok n b ≡ true
unfolding accepted_ok
kept_lease n empty e = e
kept_lease n (over l _) e = refl
kept_lease n (live l _) e = e

pub kept_holder : (n : ℕ) {Goes Stays : Holder → Type 0} {m k : Option Holder}
    → HolderLeft Goes Stays m k → named_ok n m ≡ true → named_ok n k ≡ true
unfolding named_ok
kept_holder n nobody e = e
kept_holder n (dropped h _) e = refl
kept_holder n (stays h _) e = e

pub aged_in : (s : Settings) (number clock : ℕ) (t : State) → StateIn s number t
    → StateIn s number (aged_at clock t)
unfolding aged_at
aged_in s number clock t i = record {
  promised = i.promised;
  accepted = kept_lease s.n (lease_aged clock t.accepted) i.accepted;
  last = i.last;
  round = i.round;
  named = kept_holder s.n (holder_aged clock t.named) i.named;
}

-- ---- replies, leases to propose, and naming

pub kept_reply : (n : ℕ) {clock : ℕ} {a b c : Option Lease} → Keeping clock a b c
    → accepted_ok n a ≡ true → accepted_ok n b ≡ true → accepted_ok n c ≡ true
kept_reply n (as_sent (earlier _)) p q = p
kept_reply n (as_sent (later _)) p q = q
kept_reply n (as_empty _ _) p q = p

pub kept_replied : (n set h : ℕ) → is_below set n ≡ true → h < n
    → is_below (with_host set h) n ≡ true
kept_replied n set h e b =
    lt-ltb (with_host set h) (2 ^ n) (with_below n set h (ltb-true set (2 ^ n) e) b)

pub record ValueIn (n : ℕ) (c : Value) : Type 0 where
  pub owner : c.owner < n
  pub end : c.end.0 ≤ last_end

pub value_in_lem : (n : ℕ) {number clock : ℕ} {own : KeepersEnd} {a : Option Lease} {c : Value}
    → ToPropose number clock own a c → number < n → own.0 ≤ last_end → accepted_ok n a ≡ true
    → ValueIn n c
value_in_lem n free b t e = record { owner = b; end = t }
value_in_lem n (ended l _) b t e = record { owner = b; end = t }
value_in_lem n (renewed l _ _) b t e = record { owner = b; end = t }
value_in_lem n (kept l) b t e = let i = accepted_in n l e in record { owner = i.owner; end = i.end }

pub kept_naming : (n : ℕ) {h : Holder} {m k : Option Holder} → Naming h m k → named_ok n m ≡ true
    → named_ok n (Some h) ≡ true → named_ok n k ≡ true
kept_naming n first p q = q
kept_naming n (replaced j _) p q = q
kept_naming n (unmoved j _) p q = p

-- one's own end is within the last
last_end_lem : last_end ≡ last_tick + last_longest
unfolding last_end last_tick last_longest
last_end_lem = refl

pub own_last : (s : Settings) (tick duration : ℕ) → settings_ok s ≡ true → tick ≤ last_tick
    → duration + s.spread ≤ s.longest → (own_end tick duration s.spread).0 ≤ last_end
own_last s tick duration e t d =
    let i = settings_in s e in omega (arith, last_end_lem, i.short, t, d)
