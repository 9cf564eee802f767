-- `apply` is `event_of` of any cell: 1 past the limits, within them the event of a cell that runs.
use mathlib.Core.Path.{sym, ◌∙◌}
use borrow.Author.Rules.{rules}
use Rattle.base.proofs.Lists.{length_mapped}
use Rattle.cell.specs.Claims.{Sized}
use Rattle.run.proofs.Acting.{past_limits, answers_event}
use Rattle.run.proofs.apply.Goals as goal
use Rattle.run.proofs.apply.Goals.{After-new-running}

pub returns-then-not-within_limits : goal.returns-then-not-within_limits
returns-then-not-within_limits c =
    past_limits _ _ (sym c.within_limits.ensures ∙ c.if-not-within_limits.true)

sized : (c : After-new-running) → Sized c.args.cell
sized c =
    record {
      hosts = search (rules, length_mapped);
      slots = c.new-running.ensures.free.slots;
    }

pub event-requires : goal.event-requires
event-requires c =
    let new = c.new-running.ensures in
    record {
      sound = rw new.cell (
        sized (goal.at.event-requires c).After-new-running,
        sym c.within_limits.ensures ∙ c.if-not-within_limits.false,
      );
      frees = rw new.cell new.free;
    }

pub returns : goal.returns
returns c =
    answers_event _ _ (sized (goal.at.returns c).After-new-running) _ _ _ _
    (λ q. search rules) (λ k q. search rules)
    (rw c.new-running.ensures.cell at c.event.ensures.is)
