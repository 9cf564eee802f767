-- `fill` stores what is sent into the slots that were found for it.
use mathlib.Core.Path.{◌≡◌}
use Rattle.cell.specs.Events.{with_slots}
use Rattle.placing.specs.Parts.{Frees, stored}
use Rattle.run.proofs.running.Running.fill.Given as goal

abbrev pub invariant-loop-fill : goal.invariant-loop-fill
invariant-loop-fill l =
    let cell = l.self.1.0 in
    let first = l.initial.self.1.0 in
    (cell ≡ with_slots first (stored l.fill-index l.fill-items l.sent.message first.slots))
    × Frees cell.slots l.self.1.1.0
