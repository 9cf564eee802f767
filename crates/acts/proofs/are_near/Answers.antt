-- `are_near`: what `all` finds of the hosts with their places is the definition's walk
-- (`all_placed`).
use Rattle.std.proofs.Common.{rules, tests, ℕ, ◌∙◌}
use Rattle.std.proofs.lemmas.Iterator.{YieldsList-from_slice}
use Rattle.std.proofs.lemmas.Iterator.Consumers.{YieldsList-from_enumerate}
use Rattle.std.proofs.lemmas.Iterator.Search.{all_from_yields_List}
use Rattle.base.proofs.Lists.{all_placed}
use Rattle.host.specs.declared.Host.{Host}
use Rattle.acts.specs.Parts.{is_near}
use Rattle.acts.proofs.are_near.Goals as goal

pub returns : goal.returns
returns c =
    let a = c.args in
    all_from_yields_List (λ (p : ℕ × Host). is_near a.who a.moved a.spread p.0 p.1) _ _ _
    c.all.ensures.ran (YieldsList-from_enumerate (YieldsList-from_slice a.hosts.now (cc)) cc)
    (λ x b q k. search (rules, tests))
    ∙ all_placed (is_near a.who a.moved a.spread) 0 a.hosts.now
