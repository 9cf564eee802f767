-- What the limits of a place and of the state at it tell of a host, and the limits from that; how
-- far apart the clocks are. Assumes nothing.
use mathlib.Core.Path.{◌≡◌, refl, ap}
use mathlib.Core.Bool.{true}
use mathlib.Core.List.{List}
use Prim.Native.Nat.{ℕ, ◌+◌, ◌≤◌, ◌<◌}
use native.Mathlib.Omega.{arith}
use lib.ListN.{length, get_or, take}
use lib.Seq.{get_or-take, length-take-le}
use borrow.Author.Tests.{leb-true, eqb-true, lt-ltb, le-ltb, le-leb, eq-eqb}
use Rattle.base.specs.Lists.{All, all_of}
use Rattle.base.proofs.Lists.{every_in, out_every, all_of_in, out_all_of}
use Rattle.state.specs.declared.Settings.{Settings}
use Rattle.state.specs.declared.State.{State}
use Rattle.state.specs.StateLimits.{settings_ok, state_ok}
use Rattle.state.specs.Blank.{blank_state}
use Rattle.state.proofs.Blank.{blank_state_lem, blank_is}
use Rattle.host.specs.declared.Host.{Host}
use Rattle.host.specs.Steps.{host_ok}
use Rattle.host.proofs.HostLimits.{host_in, out_host}
use Rattle.places.specs.Places.{blank_host, place_ok, state_at_ok, is_near, all_near, clocks_ok}

-- ---- one place and the state at it

-- what both tell of the host at place i
pub own_host : (s : Settings) (i : ℕ) (h : Host) → settings_ok s ≡ true → i < s.n
    → place_ok s i h ≡ true → state_at_ok s i h.state ≡ true
    → (h.number ≡ i) × (host_ok s h ≡ true)
unfolding place_ok state_at_ok All
own_host s i h o b e f =
    let t = lt-ltb i s.n b in
    let p = all_of_in _ (rw t at e) in
    let own = eqb-true _ _ p.0 in
    let g : state_ok s i h.state ≡ true = rw t at f in (
      own,
      out_host s h
          (record {
            settings = o;
            number = omega (arith, own, b);
            clock = leb-true _ _ p.1.0;
            wait = leb-true _ _ p.1.1.0;
            state = rw own g;
          }),
    )

pub blank_place : (s : Settings) (i : ℕ) (h : Host) → s.n ≤ i → place_ok s i h ≡ true
    → state_at_ok s i h.state ≡ true → h ≡ blank_host
unfolding place_ok state_at_ok All
blank_place s i h b e f =
    let t = le-ltb i s.n b in
    let p = all_of_in _ (rw t at e) in
    go (eqb-true _ _ p.0) (eqb-true _ _ p.1.0) (eqb-true _ _ p.1.1.0)
    (blank_state_lem h.state (rw t at f))
  where
    go : {n c w : ℕ} {t : State} → n ≡ 0 → c ≡ 0 → w ≡ 0 → t ≡ blank_state
        → ◌≡◌ {A = Host} (record { number = n; clock = c; wait = w; state = t }) blank_host
    go a b c d = rw (a, b, c, d)

pub out_place : (s : Settings) (i : ℕ) (h : Host) → i < s.n → h.number ≡ i → host_ok s h ≡ true
    → place_ok s i h ≡ true
unfolding place_ok All
out_place s i h b e f =
    let p = host_in s h f in
    rw (lt-ltb i s.n b)
    (out_all_of _ (eq-eqb _ _ e, (le-leb _ _ p.clock, (le-leb _ _ p.wait, tt))))

pub out_own_state : (s : Settings) (i : ℕ) (h : Host) → i < s.n → h.number ≡ i → host_ok s h ≡ true
    → state_at_ok s i h.state ≡ true
unfolding state_at_ok
out_own_state s i h b e f = rw (lt-ltb i s.n b, ← e) (host_in s h f).state

pub out_blank : (s : Settings) (i : ℕ) (h : Host) → s.n ≤ i → h ≡ blank_host
    → (place_ok s i h ≡ true) × (state_at_ok s i h.state ≡ true)
unfolding place_ok state_at_ok all_of
out_blank s i h b e = rw (le-ltb i s.n b, e) (refl, blank_is)

-- ---- the clocks, by number

abbrev pub clock_at : List Host → ℕ → ℕ
clock_at hs k = (get_or hs k blank_host).clock

module _ (s : Settings) (hs : List Host) (few : s.n ≤ length hs) where
  abbrev first : List Host
  first = take s.n hs

  first_clock : (k : ℕ) → k < s.n → (k < length first) × (clock_at first k ≡ clock_at hs k)
  first_clock k b = (
    rw (length-take-le s.n hs few) b,
    ap (λ (h : Host). h.clock) (get_or-take s.n hs k blank_host b),
  )

  below : (k : ℕ) → k < length first → k < s.n
  below k b = rw (length-take-le s.n hs few) at b

  pub clocks_in : clocks_ok s hs ≡ true → (h k : ℕ) → h < s.n → k < s.n
      → clock_at hs h ≤ clock_at hs k + s.spread
  unfolding clocks_ok
  clocks_in e h k a b =
      let i = first_clock h a in
      let j = first_clock k b in
      let near = every_in (all_near s.spread first) 0 first blank_host e h i.0 in
      let below : clock_at first h ≤ clock_at first k + s.spread =
      leb-true _ _
      (every_in (is_near s.spread (clock_at first h)) 0 first blank_host near k j.0) in
      omega (arith, below, i.1, j.1)

  pub out_clocks : ((h k : ℕ) → h < s.n → k < s.n → clock_at hs h ≤ clock_at hs k + s.spread)
      → clocks_ok s hs ≡ true
  unfolding clocks_ok
  out_clocks f =
      out_every (all_near s.spread first) 0 first blank_host
      (λ h a. out_every (is_near s.spread (clock_at first h)) 0 first blank_host
      (λ k b.
      let p = f h k (below h a) (below k b) in
      le-leb (clock_at first h) (clock_at first k + s.spread)
      (omega (arith, p, (first_clock h (below h a)).1, (first_clock k (below k b)).1))))
