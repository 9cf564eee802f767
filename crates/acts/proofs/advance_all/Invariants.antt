-- `advance_all` moves every host where `all_refusal` refuses nothing.
use mathlib.Core.Path.{◌≡◌}
use Rattle.host.specs.Steps.{advanced_host}
use Rattle.places.specs.Places.{each_host}
use Rattle.acts.proofs.advance_all.Given as goal

abbrev pub invariant-loop-h : goal.invariant-loop-h
invariant-loop-h l = l.h-items ≡ each_host l.h-index (λ h. advanced_host h l.d) l.initial.h-items
