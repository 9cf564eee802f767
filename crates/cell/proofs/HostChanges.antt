-- What an event does to each host: nothing, an advance, a step or a restart. So what holds of these
-- holds of every host from before an event to after it. Assumes nothing.
use Rattle.std.specs.Prelude.{Option, Some, None}
use Rattle.message.specs.declared.Message.{Message}
use mathlib.Core.List.{List}
use Prim.Native.Nat.{ℕ, ◌<◌}
use native.Mathlib.Decide.{dec_lt}
use native.Mathlib.Omega.{arith}
use Rattle.message.specs.Message.{target_of}
use Rattle.state.specs.declared.Settings.{Settings}
use Rattle.host.specs.declared.Host.{Host}
use Rattle.host.specs.Steps.{advanced_host, restarted_host}
use Rattle.host.proofs.Outcomes.{Cause, begins, lets_go, gets, step_on}
use Rattle.slots.specs.declared.Slot.{Slot}
use Rattle.cell.specs.declared.Cell.{Cell}
use Rattle.cell.specs.declared.Event.{Event}
use Rattle.cell.specs.declared.Event.TheVariants.{AdvanceAll, AdvanceOne, Start, Deliver}
use Rattle.cell.specs.declared.Event.TheVariants.{Lose, Repeat, Restart, Release}
use Rattle.cell.specs.Answered.{Answered}
use Rattle.cell.specs.CellLimits.{host_at, with_host_at, content_at}
use Rattle.cell.specs.Events.{cell_of, stepped, advanced_all, advanced_one, delivered, repeated}
use Rattle.cell.specs.Events.{after_of, event_of}
use Rattle.cell.specs.Claims.{Sound}
use Rattle.cell.proofs.Hosts.{by_host, all_below, all_above}
use Rattle.cell.proofs.CellLimits.{n_of}
use Rattle.cell.proofs.Events.{by_outcome}

-- what holds of a host and of what each change makes of it
pub record Changes (s : Settings) (P : Host → Host → Type 0) : Type 0 where
  pub same : (h : Host) → P h h
  pub advanced : (h : Host) (d : ℕ) → P h (advanced_host h d)
  pub stepped : (h : Host) (cause : Cause) → P h (step_on s h cause).host
  pub restarted : (h : Host) → P h (restarted_host s h)

module _ (c : Cell) (P : Host → Host → Type 0) (q : Changes c.settings P) (o : Sound c) where
  -- from before to the cell d, of every host
  abbrev To : Cell → Type 0
  To d = (k : ℕ) → P (host_at c k) (host_at d k)

  one_host : (h : ℕ) (x : Host) → P (host_at c h) x → To (with_host_at c h x)
  one_host h x p k = by_host c h x (P (host_at c k)) k (λ e. rw e p) (q.same (host_at c k))

  all_hosts : (d : ℕ) → To (advanced_all c d)
  all_hosts d k = go (dec_lt k c.settings.n)
    where
      go : Dec (k < c.settings.n) → P (host_at c k) (host_at (advanced_all c d) k)
      go (yes b) = rw (all_below c d o.0 (n_of c o.1).few k b) (q.advanced (host_at c k) d)
      go (no b) = rw (all_above c d k (omega arith)) (q.same (host_at c k))

  a_step : (h : ℕ) (ss : List Slot) (cause : Cause)
      → To (stepped c h ss (step_on c.settings (host_at c h) cause))
  unfolding stepped
  a_step h ss cause = one_host h _ (q.stepped (host_at c h) cause)

  a_delivery : (i : ℕ) (t : Option Message) → To (delivered c i t)
  unfolding delivered
  a_delivery i None k = q.same (host_at c k)
  a_delivery i (Some m) k = a_step (target_of m) _ (gets m) k

  a_repeat : (t : Option Message) → To (repeated c t)
  unfolding repeated
  a_repeat None k = q.same (host_at c k)
  a_repeat (Some m) k = q.same (host_at c k)

  after : (e : Event) → To (after_of c e)
  unfolding after_of advanced_one
  after (AdvanceAll d) k = all_hosts d k
  after (AdvanceOne h d) k = one_host h _ (q.advanced (host_at c h) d) k
  after (Start h d) k = a_step h c.slots (begins d) k
  after (Deliver i) k = a_delivery i (content_at c i) k
  after (Lose i) k = q.same (host_at c k)
  after (Repeat i) k = a_repeat (content_at c i) k
  after (Restart h) k = one_host h _ (q.restarted (host_at c h)) k
  after (Release h) k = a_step h c.slots lets_go k

  pub by_change : (e : Event) → To (cell_of (event_of c e))
  by_change e =
      by_outcome (λ (x : Answered). To (cell_of x)) c e (λ _. after e) (λ _ k. q.same (host_at c k))
