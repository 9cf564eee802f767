-- The hosts that opening sets, by their place: each of the first n as after a restart and within
-- its limits, the others blank. Assumes nothing.
use mathlib.Core.Path.{◌≡◌, refl, sym, ◌∙◌}
use mathlib.Core.Bool.{true}
use mathlib.Core.List.{List, map}
use Prim.Native.Nat.{ℕ, ◌≤◌, ◌<◌}
use native.Mathlib.Nat.{zero-add}
use native.Mathlib.Decide.{dec_lt}
use native.Mathlib.Omega.{arith}
use lib.ListN.{get_or, get_or-eq_default}
use borrow.Author.Tests.{lt-ltb, le-ltb}
use Rattle.std.specs.List.{range_with_len}
use Rattle.std.proofs.lemmas.List.FromFn.{get_or-map-range_with_len}
use Rattle.state.specs.declared.Settings.{Settings}
use Rattle.state.proofs.Blank.{blank_fits}
use Rattle.host.specs.declared.Host.{Host}
use Rattle.host.specs.Steps.{host_ok, quiet_with, restarted_host, restart_of}
use Rattle.host.proofs.HostLimits.{HostIn, out_host}
use Rattle.host.proofs.Refusals.{restart_passed}
use Rattle.host.proofs.Within.{fine_restart, lawful_restart}
use Rattle.places.specs.Places.{blank_host, unwaited, new_host, new_hosts}
use Rattle.places.specs.Parts.{Opens}

unwaited_in : (s : Settings) (clock i : ℕ) → Opens s clock → i < s.n → HostIn s (unwaited clock i)
unwaited_in s clock i o b =
    record {
      settings = o.settings;
      number = b;
      clock = o.early;
      wait = omega arith;
      state = blank_fits s i;
    }

pub unwaited_restarts : (s : Settings) (clock i : ℕ) → Opens s clock → i < s.n
    → restart_of s (unwaited clock i) ≡ quiet_with (restarted_host s (unwaited clock i))
unwaited_restarts s clock i o b =
    (lawful_restart s (unwaited clock i)).carried_out
    (restart_passed s (unwaited clock i)
    (out_host s (unwaited clock i) (unwaited_in s clock i o b)))

-- 'every host waits as after a restart'
pub new_fits : (s : Settings) (clock i : ℕ) → Opens s clock → i < s.n
    → ((new_host s clock i).number ≡ i) × ((new_host s clock i).clock ≡ clock)
    × (host_ok s (new_host s clock i) ≡ true)
unfolding new_host restarted_host
new_fits s clock i o b =
    rw (lt-ltb i s.n b)
    (refl, refl, (fine_restart s (unwaited clock i) (unwaited_in s clock i o b)).kept)

pub new_blank : (s : Settings) (clock i : ℕ) → s.n ≤ i → new_host s clock i ≡ blank_host
unfolding new_host
new_blank s clock i b = rw (le-ltb i s.n b)

pub new_at : (s : Settings) (clock k : ℕ) → s.n ≤ 9
    → get_or (new_hosts s clock) k blank_host ≡ new_host s clock k
new_at s clock k few = go (dec_lt k 9)
  where
    nine : List Host
    nine = map (new_host s clock) (range_with_len 0 9)

    go : Dec (k < 9) → get_or nine k blank_host ≡ new_host s clock k
    go (yes p) = get_or-map-range_with_len (new_host s clock) 0 9 k k blank_host p (zero-add k)
    go (no q) =
        get_or-eq_default nine blank_host {n = k} (omega arith)
        ∙ sym (new_blank s clock k (omega arith))
