-- No round of a run holds a majority of replies: a round begins with none, and acts on the reply
-- that makes them one. Assumes nothing.
use mathlib.Core.Path.{◌≡◌, sym, ap, ◌∙◌}
use mathlib.Core.Bool.{false}
use mathlib.Core.List.{List, [], ◌∷◌}
use Prim.Native.Nat.{ℕ}
use lib.Dec.{ltb}
use Rattle.base.proofs.Tests.{by_test}
use Rattle.quorum.specs.Sets.{is_majority}
use Rattle.quorum.proofs.Majorities.{nobody_short}
use Rattle.rules.specs.Rules.{acts_on}
use Rattle.rules.proofs.Laws.{acts_first}
use Rattle.state.specs.declared.Settings.{Settings}
use Rattle.state.specs.Ageing.{aged_at}
use Rattle.state.proofs.StateLimits.{settings_in}
use Rattle.host.specs.declared.Host.{Host}
use Rattle.host.specs.Stepped.{Stepped}
use Rattle.host.specs.Steps.{advanced_host, restarted_host, on_start, on_release}
use Rattle.host.proofs.Outcomes.{Cause, step_on, Outcome, outcome, begun, released, heard, proposed}
use Rattle.host.proofs.Outcomes.{gave_up, counted_vote, named, named_alone}
use Rattle.places.specs.Places.{new_host}
use Rattle.places.specs.Parts.{Opens}
use Rattle.cell.specs.declared.Cell.{Cell}
use Rattle.cell.specs.declared.Event.{Event}
use Rattle.cell.specs.CellLimits.{host_at}
use Rattle.cell.specs.Events.{cell_of, opened_with, event_of}
use Rattle.cell.specs.Runs.{opening, run}
use Rattle.cell.specs.Claims.{Sound}
use Rattle.cell.proofs.HostChanges.{Changes, by_change}
use Rattle.cell.proofs.Events.{settings_same}
use Rattle.cell.proofs.StaysWithin.{opened_at_lem, by_opening, kept_event}
use Rattle.agreement.specs.EveryRun.{replied_in}

-- who replied in the host's round is no majority of n
abbrev pub Short : ℕ → Host → Type 0
Short n h = is_majority n (replied_in h.state.round) ≡ false

-- ---- one host

-- a reply on which a round does not act leaves it short of a majority
counted_short : (n before after : ℕ) → is_majority n before ≡ false → acts_on n before after ≡ false
    → is_majority n after ≡ false
counted_short n before after p e = sym (acts_first n before after p) ∙ e

short_by : (s : Settings) (h : Host) {t : Stepped} → Outcome s h (λ _. Unit {0}) t → Short s.n h
    → Short s.n t.host
unfolding replied_in on_start on_release
short_by s h (begun d _) p = nobody_short s.n
short_by s h (released _) p = nobody_short s.n
short_by s h (heard a d r x e) p = counted_short s.n _ _ (rw x.round at p) e
short_by s h (proposed a d r _ _) p = nobody_short s.n
short_by s h gave_up p = nobody_short s.n
short_by s h (counted_vote v d x e) p = counted_short s.n _ _ (rw x.round at p) e
short_by s h (named v d _) p = nobody_short s.n
short_by s h (named_alone v d _) p = nobody_short s.n
short_by s h others p = p

short_step : (s : Settings) (h : Host) (c : Cause) → Short s.n h
    → Short s.n (step_on s h c).host
short_step s h c p = short_by s h (outcome s h (λ _. Unit {0}) c tt) p

short_advanced : (n : ℕ) (h : Host) (d : ℕ) → Short n h → Short n (advanced_host h d)
unfolding advanced_host aged_at
short_advanced n h d p = p

short_restarted : (n : ℕ) (s : Settings) (h : Host) → Short n (restarted_host s h)
unfolding replied_in restarted_host
short_restarted n s h = nobody_short n

short_new : (n : ℕ) (s : Settings) (clock k : ℕ) → Short n (new_host s clock k)
unfolding replied_in new_host
short_new n s clock k =
    by_test (Short n) (ltb k s.n) _ _ (λ _. short_restarted n s _) (λ _. nobody_short n)

-- ---- the cell

abbrev pub Undecided : Cell → Type 0
Undecided c = (h : ℕ) → Short c.settings.n (host_at c h)

-- what is short of a majority stays so, whatever changes a host
stays_short : (s : Settings) → Changes s (λ h x. Short s.n h → Short s.n x)
stays_short s = record {
  same = λ h p. p;
  advanced = short_advanced s.n;
  stepped = short_step s;
  restarted = λ h _. short_restarted s.n s h;
}

event_short : (c : Cell) (e : Event) → Sound c → Undecided c → Undecided (cell_of (event_of c e))
event_short c e o u h =
    rw (settings_same c e) (by_change c _ (stays_short c.settings) o e h (u h))

pub undecided_run : (c : Cell) (es : List Event) → Sound c → Undecided c → Undecided (run c es)
unfolding run
undecided_run c [] o u = u
undecided_run c (e ∷ es) o u =
    undecided_run (cell_of (event_of c e)) es (kept_event c e o) (event_short c e o u)

opened_undecided : (s : Settings) (clock : ℕ) → Opens s clock → Undecided (opened_with s clock)
unfolding opened_with
opened_undecided s clock o h =
    ap (λ (x : Host). is_majority s.n (replied_in x.state.round))
    (opened_at_lem s clock h (settings_in s o.settings).few)
    ∙ short_new s.n s clock h

pub opening_undecided : (s : Settings) (clock : ℕ) → Undecided (opening s clock)
opening_undecided = by_opening Undecided opened_undecided
