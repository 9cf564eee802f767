-- What holds of both outcomes of an event holds of it; that the settings stay; what a step sends;
-- and that a delivery counts its own slot as empty. Assumes nothing.
use Rattle.std.specs.Prelude.{Option, Some, None}
use mathlib.Core.Path.{◌≡◌, refl, sym, ap}
use mathlib.Core.Bool.{Bool}
use mathlib.Core.List.{List}
use Prim.Native.Nat.{ℕ, ◌≤◌, ◌<◌}
use native.Mathlib.Omega.{arith}
use lib.Dec.{eqb}
use lib.ListN.{length}
use borrow.Author.Tests.{eqb-true, eqb-false, le-leb}
use Rattle.base.specs.Refusals.{done, unless, refused_full}
use Rattle.base.proofs.Lists.{all_map}
use Rattle.base.proofs.Tests.{by_test}
use Rattle.quorum.specs.Sets.{Member, members}
use Rattle.quorum.proofs.Laws.{members_all}
use Rattle.message.specs.declared.Message.{Message}
use Rattle.message.specs.Message.{addressed_to}
use Rattle.host.specs.Stepped.{Stepped}
use Rattle.slots.specs.declared.Slot.{Slot}
use Rattle.slots.specs.Slots.{empties}
use Rattle.slots.proofs.Laws.{Holds, holds_placed_each, length_placed_each, freed_counts}
use Rattle.cell.specs.declared.Cell.{Cell}
use Rattle.cell.specs.declared.Event.{Event}
use Rattle.cell.specs.declared.Event.TheVariants.{AdvanceAll, AdvanceOne, Start, Deliver}
use Rattle.cell.specs.declared.Event.TheVariants.{Lose, Repeat, Restart, Release}
use Rattle.cell.specs.Answered.{Answered}
use Rattle.cell.specs.CellLimits.{content_at}
use Rattle.cell.specs.Events.{answered_with, cell_of, messages_in, step_full, sent_to, stepped}
use Rattle.cell.specs.Events.{advanced_all, advanced_one, deliver_step, counted_for, deliver_full}
use Rattle.cell.specs.Events.{delivered, repeated, refusal_of, after_of, looked_of, event_of}

-- ---- both outcomes

-- what holds of both outcomes of an event holds of it
pub by_outcome : (P : Answered → Type 0) (c : Cell) (e : Event)
    → (refusal_of c e ≡ done → P (answered_with done (looked_of c e) (after_of c e)))
    → ((refusal_of c e ≡ done → ⊥) → P (answered_with (refusal_of c e) (looked_of c e) c))
    → P (event_of c e)
unfolding event_of
by_outcome P c e f g =
    by_test P (eqb (refusal_of c e) done) (answered_with done (looked_of c e) (after_of c e))
    (answered_with (refusal_of c e) (looked_of c e) c)
    (λ p. f (eqb-true (refusal_of c e) done p)) (λ p. g (eqb-false (refusal_of c e) done p))

pub answer_is : (c : Cell) (e : Event) → (event_of c e).answer ≡ refusal_of c e
answer_is c e = by_outcome (λ (x : Answered). x.answer ≡ refusal_of c e) c e sym (λ _. refl)

-- a refused event hands back the same cell
pub refused_same : (c : Cell) (e : Event) → ((event_of c e).answer ≡ done → ⊥)
    → cell_of (event_of c e) ≡ c
refused_same c e =
    by_outcome (λ (x : Answered). (x.answer ≡ done → ⊥) → cell_of x ≡ c) c e
    (λ _ n. absurd (n refl)) (λ _ _. refl)

-- ---- the settings stay

delivered_settings : (c : Cell) (i : ℕ) (t : Option Message) → (delivered c i t).settings
    ≡ c.settings
unfolding delivered stepped
delivered_settings c i None = refl
delivered_settings c i (Some m) = refl

repeated_settings : (c : Cell) (t : Option Message) → (repeated c t).settings ≡ c.settings
unfolding repeated
repeated_settings c None = refl
repeated_settings c (Some m) = refl

after_settings : (c : Cell) (e : Event) → (after_of c e).settings ≡ c.settings
unfolding after_of advanced_all advanced_one stepped
after_settings c (AdvanceAll d) = refl
after_settings c (AdvanceOne h d) = refl
after_settings c (Start h d) = refl
after_settings c (Deliver i) = delivered_settings c i (content_at c i)
after_settings c (Lose i) = refl
after_settings c (Repeat i) = repeated_settings c (content_at c i)
after_settings c (Restart h) = refl
after_settings c (Release h) = refl

pub settings_same : (c : Cell) (e : Event) → (event_of c e).settings ≡ c.settings
settings_same c e =
    by_outcome (λ (x : Answered). x.settings ≡ c.settings) c e (λ _. after_settings c e)
    (λ _. refl)

-- ---- what a step sends

pub length_sent : (n : ℕ) (ss : List Slot) (sent : Option Message) (receivers : ℕ)
    → length (sent_to n ss sent receivers) ≡ length ss
unfolding sent_to
length_sent n ss None receivers = refl
length_sent n ss (Some m) receivers = length_placed_each ss m (members n receivers)

pub holds_sent : (P : Message → Type 0) (n : ℕ) (ss : List Slot) (sent : Option Message)
    (receivers : ℕ) → Holds P ss
    → ((m : Message) (h : ℕ) → sent ≡ Some m → Member n receivers h → P (addressed_to m h))
    → Holds P (sent_to n ss sent receivers)
unfolding sent_to
holds_sent P n ss None receivers p f = p
holds_sent P n ss (Some m) receivers p f =
    holds_placed_each P ss m (members n receivers) p
    (all_map (members n receivers) (λ h i. f m h refl i) (members_all n receivers))

-- ---- a delivery counts the slot that it frees as empty, so that what it sends to one host always
-- fits

freed_counted : (c : Cell) (i : ℕ) → i < length c.slots → 1 ≤ empties (counted_for c i)
freed_counted c i b = freed_counts c.slots i b

-- as many messages as there are empty slots are not refused
full_passed : (ss : List Slot) (step : Stepped)
    → messages_in step.sent step.receivers ≤ empties ss → step_full ss step ≡ done
full_passed ss step l =
    ap (λ (b : Bool). unless b refused_full)
    (le-leb (messages_in step.sent step.receivers) (empties ss) l)

pub reply_fits : (c : Cell) (i : ℕ) (m : Message) → i < length c.slots
    → messages_in (deliver_step c m).sent (deliver_step c m).receivers ≤ 1
    → deliver_full c i (Some m) ≡ done
unfolding deliver_full
reply_fits c i m b k =
    full_passed (counted_for c i) (deliver_step c m) (omega (arith, freed_counted c i b))
