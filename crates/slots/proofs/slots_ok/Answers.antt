-- `slots_ok`: what `all` finds of the slots is the definition's walk (`all_every`).
use Rattle.std.proofs.Common.{rules, tests, ◌∙◌}
use Rattle.std.proofs.lemmas.Iterator.{YieldsList-from_slice}
use Rattle.std.proofs.lemmas.Iterator.Search.{all_from_yields_List}
use Rattle.base.proofs.Lists.{all_every}
use Rattle.slots.specs.Slots.{content_ok, slots_ok}
use Rattle.slots.specs.declared.Slot.{Slot}
use Rattle.slots.proofs.slots_ok.Goals as goal

pub returns : goal.returns
unfolding slots_ok
returns c =
    let a = c.args in
    all_from_yields_List (λ (s : Slot). content_ok a.z s.content) _ _ _ c.all.ensures.ran
    (YieldsList-from_slice a.slots.now cc) (λ x b q k. search (rules, tests))
    ∙ all_every (λ (s : Slot). content_ok a.z s.content) 0 a.slots.now
