-- No event sets a clock back: an advance raises it, and no other change of a host touches it.
-- Assumes nothing.
use mathlib.Core.List.{List, [], ◌∷◌}
use Prim.Native.Nat.{ℕ, ◌≤◌}
use native.Mathlib.Omega.{arith}
use Rattle.state.specs.declared.Settings.{Settings}
use Rattle.host.specs.declared.Host.{Host}
use Rattle.host.specs.Steps.{advanced_host, restarted_host}
use Rattle.host.proofs.Outcomes.{stays_step}
use Rattle.cell.specs.declared.Cell.{Cell}
use Rattle.cell.specs.declared.Event.{Event}
use Rattle.cell.specs.CellLimits.{host_at}
use Rattle.cell.specs.Events.{cell_of, event_of}
use Rattle.cell.specs.Runs.{run}
use Rattle.cell.specs.Claims.{Sound}
use Rattle.cell.proofs.HostChanges.{Changes, by_change}
use Rattle.cell.proofs.StaysWithin.{kept_event}

abbrev NotBehind : Host → Host → Type 0
NotBehind h x = h.clock ≤ x.clock

rises : (s : Settings) → Changes s NotBehind
unfolding advanced_host restarted_host
rises s = record {
  same = λ h. omega arith;
  advanced = λ h d. omega arith;
  stepped = λ h cause. omega (arith, (stays_step s h cause).clock);
  restarted = λ h. omega arith;
}

pub clock_rises_run : (c : Cell) (es : List Event) → Sound c → (h : ℕ)
    → (host_at c h).clock ≤ (host_at (run c es) h).clock
unfolding run
clock_rises_run c [] o h = omega arith
clock_rises_run c (e ∷ es) o h =
    let one = by_change c NotBehind (rises c.settings) o e h in
    omega (arith, one, clock_rises_run (cell_of (event_of c e)) es (kept_event c e o) h)
