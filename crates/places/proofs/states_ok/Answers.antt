-- `states_ok`: what `all` finds of the hosts with their places is the definition's walk
-- (`all_placed`).
use Rattle.std.proofs.Common.{rules, tests, ℕ, ◌∙◌}
use Rattle.std.proofs.lemmas.Iterator.{YieldsList-from_slice}
use Rattle.std.proofs.lemmas.Iterator.Consumers.{YieldsList-from_enumerate}
use Rattle.std.proofs.lemmas.Iterator.Search.{all_from_yields_List}
use Rattle.base.proofs.Lists.{all_placed}
use Rattle.host.specs.declared.Host.{Host}
use Rattle.places.specs.Places.{own_state_ok, states_ok}
use Rattle.places.proofs.states_ok.Goals as goal

pub returns : goal.returns
unfolding states_ok
returns c =
    all_from_yields_List (λ (p : ℕ × Host). own_state_ok c.args.s p.0 p.1) _ _ _ c.all.ensures.ran
    (YieldsList-from_enumerate (YieldsList-from_slice c.args.hosts.now (cc)) cc)
    (λ x b q k. search (rules, tests))
    ∙ all_placed (own_state_ok c.args.s) 0 c.args.hosts.now
