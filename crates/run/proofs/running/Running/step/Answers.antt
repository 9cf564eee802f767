-- `step` hands back what refuses a step, and carries out one that nothing refuses.
use mathlib.Core.Path.{refl}
use mathlib.Core.Logic.{inr}
use Rattle.std.specs.declared.result.Result.{Result}
use Rattle.run.specs.Running.{Stepping}
use Rattle.run.proofs.running.Running.step.Goals as goal

pub returns-in-Ok : goal.returns-in-Ok
unfolding Stepping
returns-in-Ok g c =
    let h = c.in_ok-actor.ensures in
    inr (h.0, (Result.Ok c.in-Ok.step, rw (h.1, c.in-Ok.is) at c.step.ensures, c.carry.ensures))

pub returns-in-Err : goal.returns-in-Err
unfolding Stepping
returns-in-Err g c =
    let h = c.in_ok-actor.ensures in
    inr (h.0, (Result.Err c.in-Err.refusal, rw (h.1, c.in-Err.is) at c.step.ensures, (refl, refl)))
