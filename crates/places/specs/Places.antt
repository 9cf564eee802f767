-- The nine places for hosts: the limits of what they hold, how far apart their clocks are, and what
-- opening and an advance of all leave there. Assumes nothing.
use Rattle.std.specs.Prelude.{ℕ, zero, suc, ◌+◌, Bool, cond, List, [], ◌∷◌, map, ltb, leb, eqb}
use Rattle.std.specs.Prelude.{take}
use Rattle.base.specs.Refusals.{first_of}
use Rattle.base.specs.Lists.{every, all_of}
use Rattle.message.specs.Message.{last_tick}
use Rattle.state.specs.declared.Settings.{Settings}
use Rattle.state.specs.declared.State.{State}
use Rattle.host.specs.declared.Host.{Host}
use Rattle.host.specs.Steps.{last_wait, restarted_host, advance_refusal, advanced_host}
use Rattle.state.specs.StateLimits.{state_ok}
use Rattle.state.specs.Blank.{blank_state, is_blank_state}

-- ---- what a place holds

-- what a place at n or above holds
abbrev pub blank_host : Host
blank_host = record { number = 0; clock = 0; wait = 0; state = blank_state }

-- ---- limits, of a place and of the state that stands at it, apart

-- 1 where it does not hold: 'a host's number is not its place', or its clock or its wait is past
-- its limit; at n or above a number is not 0
unfoldable pub place_ok : Settings → ℕ → Host → Bool
place_ok s i h =
    cond (ltb i s.n)
    (all_of (eqb h.number i ∷ leb h.clock last_tick ∷ leb h.wait last_wait ∷ []))
    (all_of (eqb h.number 0 ∷ eqb h.clock 0 ∷ eqb h.wait 0 ∷ []))

-- 1 where it does not hold: the state of host i is past its limits; at n or above something in it
-- is not none
unfoldable pub state_at_ok : Settings → ℕ → State → Bool
state_at_ok s i t = cond (ltb i s.n) (state_ok s i t) (is_blank_state t)

abbrev pub own_state_ok : Settings → ℕ → Host → Bool
own_state_ok s i h = state_at_ok s i h.state

unfoldable pub places_ok : Settings → List Host → Bool
places_ok s hs = every (place_ok s) 0 hs

unfoldable pub states_ok : Settings → List Host → Bool
states_ok s hs = every (own_state_ok s) 0 hs

-- this clock is at most S above that of the host at place i
abbrev pub is_near : ℕ → ℕ → ℕ → Host → Bool
is_near spread clock i h = leb clock (h.clock + spread)

-- the clock of the host at place i is at most S above each of these hosts'
abbrev pub all_near : ℕ → List Host → ℕ → Host → Bool
all_near spread hs i h = every (is_near spread h.clock) 0 hs

-- 'any two clocks differ by at most S': each host's is at most S above each other's
unfoldable pub clocks_ok : Settings → List Host → Bool
clocks_ok s hs = every (all_near s.spread (take s.n hs)) 0 (take s.n hs)

-- ---- opening

-- a host of this number and clock with nothing in its state, before its restart
abbrev pub unwaited : ℕ → ℕ → Host
unwaited clock i = record { number = i; clock = clock; wait = 0; state = blank_state }

-- 'sets every clock to one given tick, and every host waits as after a restart'
unfoldable pub new_host : Settings → ℕ → ℕ → Host
new_host s clock i = cond (ltb i s.n) (restarted_host s (unwaited clock i)) blank_host

abbrev pub new_hosts : Settings → ℕ → List Host
new_hosts s clock = map (new_host s clock) (0 ∷ 1 ∷ 2 ∷ 3 ∷ 4 ∷ 5 ∷ 6 ∷ 7 ∷ 8 ∷ [])

-- ---- an advance of all hosts by d

-- the first k hosts, each changed
unfoldable pub each_host : ℕ → (Host → Host) → List Host → List Host
each_host zero f hs = hs
each_host (suc k) f [] = []
each_host (suc k) f (h ∷ hs) = f h ∷ each_host k f hs

-- the first refusal of a host
unfoldable pub advances_refusal : Settings → List Host → ℕ → ℕ
advances_refusal s hs d = first_of (map (λ h. advance_refusal s h d) (take s.n hs))

abbrev pub advanced_hosts : Settings → List Host → ℕ → List Host
advanced_hosts s hs d = each_host s.n (λ h. advanced_host h d) hs
