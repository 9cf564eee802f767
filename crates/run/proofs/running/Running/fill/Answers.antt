-- `fill` stores what is sent into the slots that were found for it.
use mathlib.Core.Path.{refl, ap, ◌∙◌}
use mathlib.Core.List.{List}
use native.Mathlib.Omega.{arith}
use Rattle.slots.specs.declared.Slot.{Slot}
use Rattle.cell.specs.Events.{with_slots}
use Rattle.run.proofs.Acting.{filled_first, filled_next, filled_frees, found_at, stored_all}
use Rattle.run.proofs.running.Running.fill.Goals as goal

pub loop-fill-init : goal.loop-fill-init
loop-fill-init c = (filled_first _ _ _, c.requires.frees)

pub loop-fill-preserved : goal.loop-fill-preserved
loop-fill-preserved c = (
  filled_next _ _ _ _ _ _ c.loop-fill.invariant.0 c.addressed_to-message.ensures,
  filled_frees _ _ c.loop-fill.invariant.1
      (found_at _ _ _ c.requires c.fills-fill-items.ensures.those
      (omega (arith, c.fills-fill-items.ensures.many, c.loop-fill-test.true))),
)

pub returns : goal.returns
returns c =
    let x = c.args.self.now in
    record {
      cell =
          c.loop-fill.invariant.0
          ∙ ap (λ (ss : List Slot). with_slots x.cell ss)
          (stored_all _ _ _ _ _ _ c.fills-fill-items.ensures.those
          (omega (
            arith,
            c.fills-fill-items.ensures.many,
            c.loop-fill-test.false,
            c.loop-fill.auto.fill-index-end,
          )));
      frees = c.loop-fill.invariant.1;
      placed = refl;
    }
