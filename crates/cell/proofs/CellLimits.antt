-- What the limits of a cell tell of each host by its number and of each message under way, and the
-- limits from that. Assumes nothing.
use Rattle.std.specs.Prelude.{Some}
use mathlib.Core.Path.{◌≡◌, refl}
use mathlib.Core.Bool.{Bool, true, false}
use mathlib.Core.List.{[], ◌∷◌}
use Prim.Native.Nat.{ℕ, ◌+◌, ◌≤◌, ◌<◌}
use native.Mathlib.Nat.{zero-add}
use native.Mathlib.Decide.{dec_lt}
use native.Mathlib.Omega.{arith}
use lib.Dec.{leb, eqb}
use lib.ListN.{length, get_or-eq_default}
use borrow.Author.Tests.{leb-true}
use Rattle.base.specs.Refusals.{done, unless, first_of, all_hold, refused_cell, refused_tick}
use Rattle.base.specs.Refusals.{refused_full}
use Rattle.base.specs.Lists.{All, all_of}
use Rattle.base.proofs.Tests.{unless_passed}
use Rattle.base.proofs.Lists.{every_in, out_every, all_of_in, out_all_of}
use Rattle.message.specs.declared.Message.{Message}
use Rattle.message.specs.Message.{last_tick, numbers_of}
use Rattle.message.specs.Faults.{fault_of}
use Rattle.state.specs.declared.Settings.{Settings}
use Rattle.state.specs.StateLimits.{last_longest, settings_tests, settings_ok, sizes_of}
use Rattle.host.specs.Steps.{host_ok}
use Rattle.state.proofs.StateLimits.{SettingsIn, settings_in}
use Rattle.state.proofs.Blank.{blank_fits}
use Rattle.host.proofs.HostLimits.{HostIn, host_in}
use Rattle.slots.specs.Slots.{slots_ok}
use Rattle.slots.proofs.Laws.{Holds, Sendable, slots_in, out_slots, holds_at}
use Rattle.places.specs.Places.{blank_host, place_ok, own_state_ok, places_ok, states_ok}
use Rattle.places.specs.Parts.{Opens}
use Rattle.places.proofs.PlaceLimits.{own_host, blank_place, out_place, out_own_state, out_blank}
use Rattle.cell.specs.declared.Cell.{Cell}
use Rattle.cell.specs.CellLimits.{host_at, content_at, clocks_near, cell_ok}
use Rattle.cell.specs.Events.{opening_refusal, least_settings}
use Rattle.cell.specs.Claims.{Sized}
use Rattle.cell.proofs.Hosts.{near_in, out_near}

-- opening that refuses nothing, and the least settings
pub opens_in : (s : Settings) (clock : ℕ) → opening_refusal s clock ≡ done → Opens s clock
unfolding opening_refusal settings_ok all_of
opens_in s clock e =
    let p = unless_passed (all_hold (settings_tests s)) refused_cell _ refl e in
    let q = unless_passed (leb clock last_tick) refused_tick [] refl p.1 in
    record { settings = p.0; early = leb-true clock last_tick q.0 }

-- 13 does not refuse it
pub opening_places : (s : Settings) (clock : ℕ) → eqb (opening_refusal s clock) refused_full ≡ false
unfolding opening_refusal settings_ok first_of all_of
opening_places s clock = go (settings_ok s) (leb clock last_tick)
  where
    go : (a b : Bool)
        → eqb (first_of (unless a refused_cell ∷ unless b refused_tick ∷ [])) refused_full ≡ false
    go true true = refl
    go true false = refl
    go false b = refl

pub least_opens : Opens least_settings 0
unfolding settings_ok last_longest all_of
least_opens = record { settings = refl; early = omega arith }

pub record CellIn (c : Cell) : Type 0 where
  pub settings : settings_ok c.settings ≡ true
  pub number : (h : ℕ) → h < c.settings.n → (host_at c h).number ≡ h
  pub host : (h : ℕ) → h < c.settings.n → host_ok c.settings (host_at c h) ≡ true
  pub blank : (h : ℕ) → c.settings.n ≤ h → host_at c h ≡ blank_host
  pub near : (h k : ℕ) → h < c.settings.n → k < c.settings.n
      → (host_at c h).clock ≤ (host_at c k).clock + c.settings.spread
  pub messages : Holds (Sendable (sizes_of c.settings)) c.slots

-- the five tests
record Tests (c : Cell) : Type 0 where
  settings : settings_ok c.settings ≡ true
  places : places_ok c.settings c.hosts ≡ true
  states : states_ok c.settings c.hosts ≡ true
  clocks : clocks_near c ≡ true
  slots : slots_ok (sizes_of c.settings) c.slots ≡ true

tests_in_lem : (c : Cell) → cell_ok c ≡ true → Tests c
unfolding cell_ok All
tests_in_lem c e =
    let p = all_of_in _ e in
    let q = p.1.1 in
    record {
      settings = p.0;
      places = p.1.0;
      states = q.0;
      clocks = q.1.0;
      slots = q.1.1.0;
    }

-- of a place that is there
place_in : (c : Cell) → Tests c → (h : ℕ) → h < length c.hosts
    → (place_ok c.settings h (host_at c h) ≡ true)
    × (own_state_ok c.settings h (host_at c h) ≡ true)
unfolding places_ok states_ok
place_in c t h p = (
  rw (zero-add h) at (every_in (place_ok c.settings) 0 c.hosts blank_host t.places h p),
  rw (zero-add h) at (every_in (own_state_ok c.settings) 0 c.hosts blank_host t.states h p),
)

own_in : (c : Cell) → Tests c → (h : ℕ) → h < c.settings.n → h < length c.hosts
    → ((host_at c h).number ≡ h) × (host_ok c.settings (host_at c h) ≡ true)
own_in c t h b p =
    let q = place_in c t h p in
    own_host c.settings h (host_at c h) t.settings b q.0 q.1

pub cell_in : (c : Cell) → Sized c → cell_ok c ≡ true → CellIn c
cell_in c z e =
    let s = c.settings in
    let t = tests_in_lem c e in
    let few = (settings_in s t.settings).few in
    let own : (h : ℕ) → h < s.n → ((host_at c h).number ≡ h) × (host_ok s (host_at c h) ≡ true) =
    λ h b. own_in c t h b (omega (arith, b, few, z.hosts)) in
    record {
      settings = t.settings;
      number = λ h b. (own h b).0;
      host = λ h b. (own h b).1;
      blank = λ h b. go h b t (dec_lt h 9);
      near = near_in c z t.settings t.clocks;
      messages = slots_in (sizes_of s) c.slots t.slots;
    }
  where
    go : (h : ℕ) → c.settings.n ≤ h → Tests c → Dec (h < 9) → host_at c h ≡ blank_host
    go h b t (yes p) =
        let q = place_in c t h (omega (arith, p, z.hosts)) in
        blank_place c.settings h (host_at c h) b q.0 q.1
    go h b t (no q) = get_or-eq_default c.hosts blank_host (omega (arith, z.hosts))

pub out_cell : (c : Cell) → Sized c → CellIn c → cell_ok c ≡ true
unfolding cell_ok places_ok states_ok All
out_cell c z i =
    let s = c.settings in
    let places =
    out_every (place_ok s) 0 c.hosts blank_host
    (λ h _. rw (zero-add h) (go h (dec_lt h s.n)).0) in
    let states =
    out_every (own_state_ok s) 0 c.hosts blank_host
    (λ h _. rw (zero-add h) (go h (dec_lt h s.n)).1) in
    out_all_of _ (
      i.settings,
      (
        places,
        (
          states,
          (
            out_near c z i.settings i.near,
            (out_slots (sizes_of s) c.slots i.messages, tt),
          ),
        ),
      ),
    )
  where
    go : (h : ℕ) → Dec (h < c.settings.n) → (place_ok c.settings h (host_at c h) ≡ true)
        × (own_state_ok c.settings h (host_at c h) ≡ true)
    go h (yes p) = (
      out_place c.settings h (host_at c h) p (i.number h p) (i.host h p),
      out_own_state c.settings h (host_at c h) p (i.number h p) (i.host h p),
    )
    go h (no q) = out_blank c.settings h (host_at c h) (omega arith) (i.blank h (omega arith))

-- ---- what the limits tell with no word on lengths

-- n is 1 to 9
pub n_of : (c : Cell) → cell_ok c ≡ true → SettingsIn c.settings
n_of c e = settings_in c.settings (tests_in_lem c e).settings

-- writing to its target refuses nothing in a message under way
pub message_of_lem : (c : Cell) (i : ℕ) (m : Message) → cell_ok c ≡ true
    → content_at c i ≡ Some m
    → fault_of (sizes_of c.settings) (numbers_of m) ≡ done
message_of_lem c i m e f =
    holds_at (Sendable (sizes_of c.settings)) c.slots i m
    (slots_in (sizes_of c.settings) c.slots (tests_in_lem c e).slots) f

-- a host below n is within its limits; where its place is missing it is the blank host
pub host_of_lem : (c : Cell) (h : ℕ) → cell_ok c ≡ true → h < c.settings.n
    → HostIn c.settings (host_at c h)
host_of_lem c h e b = go (tests_in_lem c e) (dec_lt h (length c.hosts))
  where
    go : Tests c → Dec (h < length c.hosts) → HostIn c.settings (host_at c h)
    go t (yes p) = host_in c.settings (host_at c h) (own_in c t h b p).1
    go t (no q) =
        let blank : host_at c h ≡ blank_host =
        get_or-eq_default c.hosts blank_host (omega (arith, q)) in
        rw blank
        (record {
          settings = t.settings;
          number = omega (arith, b);
          clock = omega arith;
          wait = omega arith;
          state = blank_fits c.settings 0;
        })
