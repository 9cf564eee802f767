-- The hosts of a cell by their number: one of them replaced, all of them advanced, and their
-- clocks. But for the limits, which walk them, the other proofs of this crate speak of hosts by
-- `host_at` and `with_host_at` alone. Assumes nothing.
use mathlib.Core.Path.{◌≡◌, refl, ◌∙◌}
use mathlib.Core.Bool.{true}
use Prim.Native.Nat.{ℕ, ◌+◌, ◌≤◌, ◌<◌}
use native.Mathlib.Omega.{arith}
use lib.ListN.{length, length-set}
use lib.Seq.{get_or-set_same}
use Rattle.base.specs.Refusals.{done}
use Rattle.base.proofs.Lists.{by_place}
use Rattle.state.specs.StateLimits.{settings_ok}
use Rattle.host.specs.declared.Host.{Host}
use Rattle.host.specs.Steps.{advance_refusal, advanced_host}
use Rattle.state.proofs.StateLimits.{settings_in}
use Rattle.places.specs.Places.{blank_host, advances_refusal}
use Rattle.places.proofs.PlaceLimits.{clocks_in, out_clocks}
use Rattle.places.proofs.Each.{length_each, each_below, each_above, first_each, each_of}
use Rattle.cell.specs.declared.Cell.{Cell}
use Rattle.cell.specs.CellLimits.{host_at, with_host_at, clocks_near}
use Rattle.cell.specs.Events.{hosts_refusal, advanced_all}
use Rattle.cell.specs.Claims.{Sized}

-- ---- one host replaced

module _ (c : Cell) (h : ℕ) (x : Host) where
  pub sized_host : Sized c → Sized (with_host_at c h x)
  sized_host z = record { hosts = length-set c.hosts h x ∙ z.hosts; slots = z.slots }

  pub host_same : Sized c → h < 9 → host_at (with_host_at c h x) h ≡ x
  host_same z b = get_or-set_same c.hosts h x blank_host (omega (arith, z.hosts))

  -- what holds of the new host under its number, and of the old host of a number, holds of the host
  -- of that number now
  pub by_host : (P : Host → Type 0) (k : ℕ) → (k ≡ h → P x) → P (host_at c k)
      → P (host_at (with_host_at c h x) k)
  by_host P k p q = by_place P c.hosts h x k blank_host p q

  pub host_other : (k : ℕ) → (k ≡ h → ⊥) → host_at (with_host_at c h x) k ≡ host_at c k
  host_other k d = by_host (λ (y : Host). y ≡ host_at c k) k (λ e. absurd (d e)) refl

-- ---- all hosts advanced

module _ (c : Cell) (d : ℕ) where
  pub sized_all : Sized c → Sized (advanced_all c d)
  unfolding advanced_all
  sized_all z =
      record {
        hosts = length_each c.settings.n (λ h. advanced_host h d) c.hosts
            ∙ z.hosts;
        slots = z.slots;
      }

  pub all_below : Sized c → c.settings.n ≤ 9 → (k : ℕ) → k < c.settings.n
      → host_at (advanced_all c d) k ≡ advanced_host (host_at c k) d
  unfolding advanced_all
  all_below z few k b =
      each_below c.settings.n (λ h. advanced_host h d) c.hosts k blank_host b
      (omega (arith, z.hosts))

  pub all_above : (k : ℕ) → c.settings.n ≤ k → host_at (advanced_all c d) k ≡ host_at c k
  unfolding advanced_all
  all_above k b = each_above c.settings.n (λ h. advanced_host h d) c.hosts k blank_host b

  -- where an advance of all is not refused, no host refuses it
  pub all_passed : Sized c → c.settings.n ≤ 9 → hosts_refusal c d ≡ done → (k : ℕ)
      → k < c.settings.n → advance_refusal c.settings (host_at c k) d ≡ done
  unfolding advances_refusal
  all_passed z few e k b =
      first_each (λ h. advance_refusal c.settings h d) c.settings.n c.hosts e k b
      (omega (arith, z.hosts))

  -- what holds of each host's number holds of the number that it is refused by
  pub by_advances : (P : ℕ → Type 0) → P done
      → ((k : ℕ) → k < c.settings.n → P (advance_refusal c.settings (host_at c k) d))
      → P (hosts_refusal c d)
  unfolding advances_refusal
  by_advances P z p =
      each_of P (λ h. advance_refusal c.settings h d) c.settings.n c.hosts z p

-- ---- clocks

module _ (c : Cell) (z : Sized c) (o : settings_ok c.settings ≡ true) where
  -- n is at most the number of places
  within : c.settings.n ≤ length c.hosts
  within = omega (arith, z.hosts, (settings_in c.settings o).few)

  pub near_in : clocks_near c ≡ true → (h k : ℕ) → h < c.settings.n → k < c.settings.n
      → (host_at c h).clock ≤ (host_at c k).clock + c.settings.spread
  near_in e = clocks_in c.settings c.hosts within e

  pub out_near : ((h k : ℕ) → h < c.settings.n → k < c.settings.n
      → (host_at c h).clock ≤ (host_at c k).clock + c.settings.spread) → clocks_near c ≡ true
  out_near f = out_clocks c.settings c.hosts within f
