-- What holds behind opening's refusals, a turn of the walk over clocks, and numbers that are kept
-- beside the hosts. No claim rests on it. Assumes nothing.
use Rattle.std.specs.Prelude.{◌≡◌, true, cond, List, ℕ, ◌≤◌, ◌<◌, eqb, length, get_or}
use Rattle.message.specs.Message.{last_tick}
use Rattle.state.specs.declared.Settings.{Settings}
use Rattle.state.specs.StateLimits.{settings_ok}
use Rattle.host.specs.declared.Host.{Host}
use Rattle.places.specs.Places.{blank_host}

-- opening refuses nothing: the settings and the clock are within their limits
pub record Opens (s : Settings) (clock : ℕ) : Type 0 where
  pub settings : settings_ok s ≡ true
  pub early : clock ≤ last_tick

-- the clock at place i, where the host at one place has a new clock
unfoldable pub clock_with : ℕ → ℕ → ℕ → ℕ → ℕ
clock_with i host moved clock = cond (eqb i host) moved clock

-- nine numbers, of which the first i are what f is of the hosts at their places
pub record MirrorsTo (i : ℕ) (f : Host → ℕ) (hosts : List Host) (xs : List ℕ) : Type 0 where
  pub many : length xs ≡ 9
  pub each : (k : ℕ) → k < i → get_or xs k 0 ≡ f (get_or hosts k blank_host)

-- all of them
abbrev pub Mirrors : (Host → ℕ) → List Host → List ℕ → Type 0
Mirrors f hosts xs = MirrorsTo 9 f hosts xs

abbrev pub clock_of : Host → ℕ
clock_of h = h.clock
