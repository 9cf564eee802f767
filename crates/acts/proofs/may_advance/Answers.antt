-- `may_advance`: what `all` finds of the hosts is the definition's walk (`all_every`).
use Rattle.std.proofs.Common.{rules, tests, ◌∙◌}
use Rattle.std.proofs.lemmas.Iterator.{YieldsList-from_slice}
use Rattle.std.proofs.lemmas.Iterator.Search.{all_from_yields_List}
use Rattle.base.proofs.Lists.{all_every}
use Rattle.message.specs.Message.{last_tick}
use Rattle.host.specs.declared.Host.{Host}
use Rattle.acts.specs.Parts.{may_advance}
use Rattle.acts.proofs.may_advance.Goals as goal

pub returns : goal.returns
unfolding last_tick
returns c =
    let a = c.args in
    all_from_yields_List (λ (h : Host). may_advance a.d 0 h) _ _ _ c.all.ensures.ran
    (YieldsList-from_slice a.hosts.now cc) (λ x b q k. search (rules, tests))
    ∙ all_every (λ (h : Host). may_advance a.d 0 h) 0 a.hosts.now
