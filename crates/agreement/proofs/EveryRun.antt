-- Every run keeps its limits, its numbers and its clocks, and each name has its source. Assumes
-- nothing.
use mathlib.Core.Path.{◌≡◌, refl, ◌∙◌}
use mathlib.Core.List.{List, [], ◌∷◌}
use Rattle.rules.proofs.Laws.{acts_first}
use Rattle.cell.specs.declared.Cell.{Cell}
use Rattle.cell.specs.declared.Event.{Event}
use Rattle.cell.specs.Events.{cell_of, event_of}
use Rattle.cell.specs.Runs.{opening, run}
use Rattle.cell.proofs.CellLimits.{cell_in}
use Rattle.cell.proofs.Events.{refused_same, settings_same}
use Rattle.agreement.specs.EveryRun.{replied_at, EveryRun}
use Rattle.cell.proofs.StaysWithin.{opening_in, kept_run}
use Rattle.agreement.proofs.AnswerNumbers.{own_number, never_cell}
use Rattle.agreement.proofs.Clocks.{clock_rises_run}
use Rattle.agreement.proofs.Rounds.{opening_undecided, undecided_run}
use Rattle.agreement.proofs.Sources.{sourced}

settings_run : (c : Cell) (events : List Event) → (run c events).settings ≡ c.settings
unfolding run
settings_run c [] = refl
settings_run c (e ∷ events) = settings_run (cell_of (event_of c e)) events ∙ settings_same c e

pub every_run : EveryRun
every_run s clock events =
    let c = run (opening s clock) events in
    let kept = kept_run (opening s clock) events (opening_in s clock) in
    let open-rounds =
    undecided_run (opening s clock) events (opening_in s clock) (opening_undecided s clock) in
    record {
      within = kept.1;
      never_1 = λ e. never_cell c e kept.0 kept.1;
      own_number = λ e. own_number c e kept.0 kept.1;
      unchanged = refused_same c;
      settings = settings_run c;
      rising = λ later. clock_rises_run c later kept;
      near = (cell_in c kept.0 kept.1).near;
      undecided = open-rounds;
      reaches = λ h after. acts_first c.settings.n (replied_at c h) after (open-rounds h);
      learned = sourced c kept;
    }
