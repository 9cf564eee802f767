-- A cell within its limits stays within them, whatever the events: opening, each event, and any
-- run. A loop over events may carry `Sound` and test nothing again. Assumes nothing.
use Rattle.std.specs.Prelude.{Option, Some, None}
use Rattle.message.specs.declared.Message.{Message}
use mathlib.Core.Path.{◌≡◌, refl, sym, ◌∙◌}
use mathlib.Core.Bool.{true}
use mathlib.Core.List.{List, [], ◌∷◌}
use Prim.Native.Nat.{ℕ, ◌+◌, ◌≤◌, ◌<◌}
use native.Mathlib.Omega.{arith}
use lib.Dec.{ltb, eqb}
use lib.ListN.{length}
use borrow.Author.Tests.{ltb-true, eqb-true}
use Rattle.base.specs.Refusals.{done, unless, first_of, refused_cell, refused_host, refused_spread}
use Rattle.base.proofs.Tests.{by_test, first_passed, unless_passed}
use Rattle.message.specs.Message.{target_of}
use Rattle.message.proofs.Laws.{target_in_lem}
use Rattle.state.specs.declared.Settings.{Settings}
use Rattle.state.specs.StateLimits.{sizes_of}
use Rattle.host.specs.declared.Host.{Host}
use Rattle.host.specs.Stepped.{Stepped}
use Rattle.host.specs.Steps.{host_ok, advance_refusal, advanced_host, restart_refusal}
use Rattle.host.specs.Steps.{restarted_host}
use Rattle.state.proofs.StateLimits.{settings_in}
use Rattle.host.proofs.HostLimits.{host_in}
use Rattle.host.proofs.Writable.{writable_each}
use Rattle.host.proofs.Refusals.{restart_in}
use Rattle.host.proofs.Within.{Fine, Passes, fine_restart, fine_advance, fine_step}
use Rattle.host.specs.Claims.{Stays}
use Rattle.host.proofs.Outcomes.{Cause, begins, lets_go, gets, step_on, stays_step}
use Rattle.places.specs.Places.{blank_host, new_host}
use Rattle.places.specs.Parts.{Opens}
use Rattle.places.proofs.Opening.{new_blank, new_at, new_fits}
use Rattle.slots.specs.declared.Slot.{Slot}
use Rattle.slots.specs.Slots.{placed, freed}
use Rattle.slots.proofs.Laws.{Holds, Sendable, length_placed, length_freed, holds_none, holds_freed}
use Rattle.slots.proofs.Laws.{holds_placed, holds_at}
use Rattle.cell.specs.declared.Cell.{Cell}
use Rattle.cell.specs.declared.Event.{Event}
use Rattle.cell.specs.declared.Event.TheVariants.{AdvanceAll, AdvanceOne, Start, Deliver}
use Rattle.cell.specs.declared.Event.TheVariants.{Lose, Repeat, Restart, Release}
use Rattle.cell.specs.Answered.{Answered}
use Rattle.cell.specs.CellLimits.{host_at, with_host_at, content_at, clocks_near, cell_ok}
use Rattle.cell.specs.Events.{answered_with, cell_of, with_slots, sent_to, stepped}
use Rattle.cell.specs.Events.{opening_refusal, opened_with, least_settings, opening_of}
use Rattle.cell.specs.Events.{hosts_refusal, advance_all_refusal, advanced_all, advanced_one}
use Rattle.cell.specs.Events.{advance_one_refusal, step_at_refusal, start_at_refusal, deliver_step}
use Rattle.cell.specs.Events.{delivered, repeated, restart_at_refusal, release_at_refusal}
use Rattle.cell.specs.Events.{refusal_of, after_of, event_of}
use Rattle.cell.specs.Runs.{opening, run}
use Rattle.cell.specs.Claims.{Sized, Sound}
use Rattle.cell.proofs.Hosts.{sized_host, by_host, sized_all, all_below, all_above}
use Rattle.cell.proofs.Hosts.{all_passed, near_in}
use Rattle.cell.proofs.CellLimits.{opens_in, least_opens, CellIn, cell_in, out_cell}
use Rattle.cell.proofs.Events.{by_outcome, length_sent, holds_sent}

-- ---- opening

-- the host that opening puts at each place
pub opened_at_lem : (s : Settings) (clock k : ℕ) → s.n ≤ 9
    → host_at (opened_with s clock) k ≡ new_host s clock k
unfolding opened_with
opened_at_lem s clock k few = new_at s clock k few

opened_in : (s : Settings) (clock : ℕ) → Opens s clock → Sound (opened_with s clock)
unfolding opened_with
opened_in s clock o = (
  z,
  out_cell (opened_with s clock) z (record {
    settings = o.settings;
    number = λ h b. rw (at h) (new_fits s clock h o b).0;
    host = λ h b. rw (at h) (new_fits s clock h o b).2;
    blank = λ h b. at h ∙ new_blank s clock h b;
    near = λ h k a b. omega (arith, clock_at_lem h a, clock_at_lem k b);
    messages = holds_none (Sendable (sizes_of s));
  }),
)
  where
    z : Sized (opened_with s clock)
    z = record { hosts = refl; slots = refl }

    at : (k : ℕ) → host_at (opened_with s clock) k ≡ new_host s clock k
    at k = opened_at_lem s clock k (settings_in s o.settings).few

    clock_at_lem : (k : ℕ) → k < s.n → (host_at (opened_with s clock) k).clock ≡ clock
    clock_at_lem k b = rw (at k) (new_fits s clock k o b).1

-- what holds of every cell opened within the limits holds of what opening hands back, whatever the
-- numbers: a refused opening's cell is opened with the least settings
pub by_opening : (P : Cell → Type 0)
    → ((s : Settings) (clock : ℕ) → Opens s clock → P (opened_with s clock))
    → (s : Settings) (clock : ℕ) → P (opening s clock)
unfolding opening_of
by_opening P f s clock =
    by_test (λ (x : Answered). P (cell_of x)) (eqb (opening_refusal s clock) done)
    (answered_with done 0 (opened_with s clock))
    (answered_with (opening_refusal s clock) 0 (opened_with least_settings 0))
    (λ p. f s clock (opens_in s clock (eqb-true (opening_refusal s clock) done p)))
    (λ _. f least_settings 0 least_opens)

pub opening_in : (s : Settings) (clock : ℕ) → Sound (opening s clock)
opening_in = by_opening Sound opened_in

-- ---- the slots changed

slots_kept : (c : Cell) (ss : List Slot) → Sound c → length ss ≡ length c.slots
    → Holds (Sendable (sizes_of c.settings)) ss → Sound (with_slots c ss)
slots_kept c ss o l p =
    let z : Sized (with_slots c ss) = record { hosts = o.0.hosts; slots = l ∙ o.0.slots } in
    let i = cell_in c o.0 o.1 in (
      z,
      out_cell (with_slots c ss) z
          (record {
            settings = i.settings;
            number = i.number;
            host = i.host;
            blank = i.blank;
            near = i.near;
            messages = p;
          }),
    )

-- ---- the hosts changed

-- one host replaced by one within its limits, where the clocks are near afterwards
host_kept : (c : Cell) (h : ℕ) (x : Host) → Sound c → h < c.settings.n
    → x.number ≡ (host_at c h).number → host_ok c.settings x ≡ true
    → ((j k : ℕ) → j < c.settings.n → k < c.settings.n
    → (host_at (with_host_at c h x) j).clock ≤ (host_at (with_host_at c h x) k).clock
    + c.settings.spread)
    → Sound (with_host_at c h x)
host_kept c h x o b e f near =
    let i = cell_in c o.0 o.1 in
    let z = sized_host c h x o.0 in (
      z,
      out_cell (with_host_at c h x) z (record {
        settings = i.settings;
        number = λ k a.
            by_host c h x (λ y. y.number ≡ k) k (λ g. e ∙ i.number h b ∙ sym g) (i.number k a);
        host = λ k a. by_host c h x (λ y. host_ok c.settings y ≡ true) k (λ _. f) (i.host k a);
        blank = λ k a.
            by_host c h x (λ y. y ≡ blank_host) k (λ g. absurd (omega (arith, a, b, g)))
            (i.blank k a);
        near = near;
        messages = i.messages;
      }),
    )

-- one host replaced by one with the same clock
still_near : (c : Cell) (h : ℕ) (x : Host) → CellIn c → x.clock ≡ (host_at c h).clock → (j k : ℕ)
    → j < c.settings.n → k < c.settings.n
    → (host_at (with_host_at c h x) j).clock ≤ (host_at (with_host_at c h x) k).clock
    + c.settings.spread
still_near c h x i t j k p q = rw (same j, same k) (i.near j k p q)
  where
    same : (k : ℕ) → (host_at (with_host_at c h x) k).clock ≡ (host_at c k).clock
    same k = by_host c h x (λ y. y.clock ≡ (host_at c k).clock) k (λ g. rw g t) refl

still_kept : (c : Cell) (h : ℕ) (x : Host) → Sound c → h < c.settings.n
    → x.number ≡ (host_at c h).number → x.clock ≡ (host_at c h).clock → host_ok c.settings x ≡ true
    → Sound (with_host_at c h x)
still_kept c h x o b e t f = host_kept c h x o b e f (still_near c h x (cell_in c o.0 o.1) t)

-- a step carried into the cell
step_kept : (c : Cell) (h : ℕ) (ss : List Slot) (step : Stepped) → Sound c → h < c.settings.n
    → Stays (host_at c h) step → Fine c.settings step
    → length ss ≡ length c.slots → Holds (Sendable (sizes_of c.settings)) ss
    → Sound (stepped c h ss step)
unfolding stepped
step_kept c h ss step o b y f l p =
    let n = c.settings.n in
    slots_kept (with_host_at c h step.host) (sent_to n ss step.sent step.receivers)
    (still_kept c h step.host o b y.number y.clock f.kept)
    (length_sent n ss step.sent step.receivers ∙ l)
    (holds_sent (Sendable (sizes_of c.settings)) n ss step.sent step.receivers p
    (λ m k e i. writable_each c.settings step m k f.writable e i))

-- ---- each event, where nothing is refused

-- 1 comes first, and 5 next where a host is named
pub host_passed : (c : Cell) (h : ℕ) (ks : List ℕ)
    → first_of (unless (cell_ok c) refused_cell ∷ unless (ltb h c.settings.n) refused_host ∷ ks)
    ≡ done → (h < c.settings.n) × (first_of ks ≡ done)
host_passed c h ks e =
    let p1 = unless_passed (cell_ok c) refused_cell _ refl e in
    let p2 = unless_passed (ltb h c.settings.n) refused_host ks refl p1.1 in
    (ltb-true h c.settings.n p2.0, p2.1)

kept_advance_all : (c : Cell) (d : ℕ) → Sound c → advance_all_refusal c d ≡ done
    → Sound (advanced_all c d)
unfolding advance_all_refusal advanced_all advanced_host
kept_advance_all c d o e =
    let s = c.settings in
    let i = cell_in c o.0 o.1 in
    let few = (settings_in s i.settings).few in
    let z = sized_all c d o.0 in
    let p = first_passed (hosts_refusal c d) []
    (unless_passed (cell_ok c) refused_cell _ refl e).1 in
    let at = all_below c d o.0 few in
    let fine : (k : ℕ) → k < s.n → host_ok s (advanced_host (host_at c k) d) ≡ true = λ k a.
    (fine_advance s (host_at c k) d (all_passed c d o.0 few p.0 k a)).kept in (
      z,
      out_cell (advanced_all c d) z (record {
        settings = i.settings;
        number = λ k a. rw (at k a) (i.number k a);
        host = λ k a. rw (at k a) (fine k a);
        blank = λ k a. all_above c d k a ∙ i.blank k a;
        near = λ j k a b. rw (at j a, at k b) (omega (arith, i.near j k a b));
        messages = i.messages;
      }),
    )

kept_advance_one : (c : Cell) (h d : ℕ) → Sound c → advance_one_refusal c h d ≡ done
    → Sound (advanced_one c h d)
unfolding advance_one_refusal advanced_one advanced_host
kept_advance_one c h d o e =
    let s = c.settings in
    let x = advanced_host (host_at c h) d in
    let p1 = host_passed c h _ e in
    let p2 = first_passed (advance_refusal s (host_at c h) d) _ p1.1 in
    let p3 = unless_passed (clocks_near (with_host_at c h x)) refused_spread [] refl p2.1 in
    host_kept c h x o p1.0 refl (fine_advance s (host_at c h) d p2.0).kept
    (near_in (with_host_at c h x) (sized_host c h x o.0) (cell_in c o.0 o.1).settings
    p3.0)

-- a host's own step that nothing refuses by k or for its place or its room
kept_step_at : (c : Cell) (h k : ℕ) (cause : Cause)
    → let step = step_on c.settings (host_at c h) cause in Sound c
    → (k ≡ done → Passes c.settings (host_at c h) cause) → step_at_refusal c h k step ≡ done
    → Sound (stepped c h c.slots step)
kept_step_at c h k cause o f e =
    let s = c.settings in
    let x = host_at c h in
    let p1 = host_passed c h _ e in
    let p2 = first_passed k _ p1.1 in
    let j = cell_in c o.0 o.1 in
    step_kept c h c.slots (step_on s x cause) o p1.0 (stays_step s x cause)
    (fine_step s x cause (host_in s x (j.host h p1.0)) (f p2.0)) refl j.messages

kept_deliver : (c : Cell) (i : ℕ) (t : Option Message) → content_at c i ≡ t → Sound c
    → Sound (delivered c i t)
unfolding delivered
kept_deliver c i None e o = o
kept_deliver c i (Some m) e o =
    let s = c.settings in
    let j = cell_in c o.0 o.1 in
    let f = holds_at (Sendable (sizes_of s)) c.slots i m j.messages e in
    let b = target_in_lem (sizes_of s) m f in
    let h = host_at c (target_of m) in
    step_kept c (target_of m) (freed c.slots i) (deliver_step c m) o b (stays_step s h (gets m))
    (fine_step s h (gets m) (host_in s h (j.host (target_of m) b)) f) (length_freed c.slots i)
    (holds_freed (Sendable (sizes_of s)) c.slots i j.messages)

kept_repeat : (c : Cell) (i : ℕ) (t : Option Message) → content_at c i ≡ t → Sound c
    → Sound (repeated c t)
unfolding repeated
kept_repeat c i None e o = o
kept_repeat c i (Some m) e o =
    let s = c.settings in
    let p = (cell_in c o.0 o.1).messages in
    slots_kept c (placed c.slots m) o (length_placed c.slots m)
    (holds_placed (Sendable (sizes_of s)) c.slots m p
    (holds_at (Sendable (sizes_of s)) c.slots i m p e))

kept_lose : (c : Cell) (i : ℕ) → Sound c → Sound (with_slots c (freed c.slots i))
kept_lose c i o =
    slots_kept c (freed c.slots i) o (length_freed c.slots i)
    (holds_freed (Sendable (sizes_of c.settings)) c.slots i
    (cell_in c o.0 o.1).messages)

kept_restart : (c : Cell) (h : ℕ) → Sound c → restart_at_refusal c h ≡ done
    → Sound (with_host_at c h (restarted_host c.settings (host_at c h)))
unfolding restart_at_refusal restarted_host
kept_restart c h o e =
    let p1 = host_passed c h _ e in
    let p2 = first_passed (restart_refusal c.settings (host_at c h)) [] p1.1 in
    still_kept c h (restarted_host c.settings (host_at c h)) o p1.0 refl refl
    (fine_restart c.settings (host_at c h) (restart_in c.settings (host_at c h) p2.0)).kept

kept_after_lem : (c : Cell) (e : Event) → Sound c → refusal_of c e ≡ done → Sound (after_of c e)
unfolding refusal_of after_of start_at_refusal release_at_refusal
kept_after_lem c (AdvanceAll d) o p = kept_advance_all c d o p
kept_after_lem c (AdvanceOne h d) o p = kept_advance_one c h d o p
kept_after_lem c (Start h d) o p = kept_step_at c h _ (begins d) o (λ e. e) p
kept_after_lem c (Deliver i) o p = kept_deliver c i (content_at c i) refl o
kept_after_lem c (Lose i) o p = kept_lose c i o
kept_after_lem c (Repeat i) o p = kept_repeat c i (content_at c i) refl o
kept_after_lem c (Restart h) o p = kept_restart c h o p
kept_after_lem c (Release h) o p = kept_step_at c h _ lets_go o (λ e. e) p

-- ---- any event, and any run

pub kept_event : (c : Cell) (e : Event) → Sound c → Sound (cell_of (event_of c e))
kept_event c e o =
    by_outcome (λ (x : Answered). Sound (cell_of x)) c e (λ p. kept_after_lem c e o p) (λ _. o)

pub kept_run : (c : Cell) (es : List Event) → Sound c → Sound (run c es)
unfolding run
kept_run c [] o = o
kept_run c (e ∷ es) o = kept_run (cell_of (event_of c e)) es (kept_event c e o)
