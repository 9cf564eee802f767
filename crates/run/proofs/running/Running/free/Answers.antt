-- `free` frees the slot that an event frees.
use mathlib.Core.Path.{refl}
use Rattle.placing.specs.Parts.{with_freed}
use Rattle.run.specs.Running.{freed_in}
use Rattle.run.proofs.running.Running.free.Goals as goal

pub returns-in-Some : goal.returns-in-Some
unfolding freed_in with_freed
returns-in-Some c = rw c.in-Some.is refl

pub returns-in_default : goal.returns-in_default
unfolding freed_in with_freed
returns-in_default c = rw c.in_default.is refl
