-- Naming by one's own majority: what such a step does. Assumes nothing.
use mathlib.Core.Path.{◌≡◌, refl, sym, ap, ◌∙◌}
use mathlib.Core.Bool.{Bool, true, false, cond}
use lib.Dec.{eqb}
use borrow.Author.Tests.{not-true}
use Rattle.base.specs.Refusals.{done}
use Rattle.base.specs.Lists.{All}
use Rattle.base.proofs.Lists.{all_of_in}
use Rattle.base.proofs.Tests.{true_false}
use Rattle.message.specs.declared.Head.{Head}
use Rattle.message.specs.declared.Message.{Message}
use Rattle.message.specs.declared.Message.TheVariants.{PrepareRequest, PrepareResponseEmpty}
use Rattle.message.specs.declared.Message.TheVariants.{PrepareResponseLease, ProposeRequest}
use Rattle.message.specs.declared.Message.TheVariants.{ProposeResponse, Learn, ReleaseRequest}
use Rattle.rules.specs.Rules.{is_waiting}
use Rattle.state.specs.declared.Settings.{Settings}
use Rattle.state.specs.declared.Proposing.{Proposing}
use Rattle.state.specs.declared.Round.{Round}
use Rattle.host.specs.declared.Host.{Host}
use Rattle.host.specs.Stepped.{Stepped}
use Rattle.host.specs.Steps.{quiet_with, holder_of, on_naming, on_chosen, proposing_after}
use Rattle.host.specs.Steps.{on_counted_vote, on_vote, on_propose_response, on_message, on_delivery}
use Rattle.host.specs.Steps.{receive_refusal, receive_of}
use Rattle.host.specs.Claims.{decides, is_deciding_vote, named_by_majority, naming_host}

-- naming hands on the host that it is given
naming_host_lem : (s : Settings) (h : Host) (p : Proposing) (after : Host)
    → (on_naming s h (holder_of s p) after).host ≡ after
unfolding on_naming
naming_host_lem s h p after = go (eqb s.n 1) _ refl
  where
    go : (b : Bool) (x : Stepped) → x.host ≡ after → (cond b (quiet_with after) x).host ≡ after
    go true x e = refl
    go false x e = e

-- the proposing round of a host, if its majority has named by this vote
named_round : (s : Settings) (h : Host) (r : Round) (m : Head) → decides s h r m ≡ true
    → (p : Proposing) × (r ≡ Round.Proposing p)
    × ((on_propose_response s h r m).host ≡ naming_host s h p)
unfolding All decides on_propose_response on_vote on_counted_vote on_chosen proposing_after
named_round s h Round.Idle m e = true_false (sym e)
named_round s h (Round.Asking a) m e = true_false (sym e)
named_round s h (Round.Proposing p) m e =
    let q = all_of_in _ e in
    (p, refl, rw (q.0, q.1.0, q.1.1.0, q.1.1.1.0) (naming_host_lem s h p (naming_host s h p)))

voted_message : (s : Settings) (h : Host) (m : Message) → is_deciding_vote s h m ≡ true
    → (p : Proposing) × (h.state.round ≡ Round.Proposing p)
    × ((on_message s h m).host ≡ naming_host s h p)
unfolding is_deciding_vote on_message
voted_message s h (ProposeResponse m) e = named_round s h h.state.round m e
voted_message s h (PrepareRequest m) e = true_false (sym e)
voted_message s h (PrepareResponseEmpty m) e = true_false (sym e)
voted_message s h (PrepareResponseLease m) e = true_false (sym e)
voted_message s h (ProposeRequest m) e = true_false (sym e)
voted_message s h (Learn m) e = true_false (sym e)
voted_message s h (ReleaseRequest m) e = true_false (sym e)

step_message : (s : Settings) (h : Host) (m : Message) → eqb (receive_refusal s h m) done ≡ true
    → is_waiting h.clock h.wait ≡ false → receive_of s h m ≡ on_message s h m
unfolding receive_of on_delivery
step_message s h m a b = rw (a, b)

-- such a step ends the host's proposing round and names the owner of its proposal, replacing or not
pub majority_names : (s : Settings) (h : Host) (m : Message) → named_by_majority s h m ≡ true
    → (p : Proposing) × (h.state.round ≡ Round.Proposing p)
    × ((receive_of s h m).host ≡ naming_host s h p)
unfolding named_by_majority All
majority_names s h m e =
    let q = all_of_in _ e in
    let v = voted_message s h m q.1.1.0 in (
      v.0,
      v.1,
      ap (λ (x : Stepped). x.host)
          (step_message s h m q.0 (not-true (is_waiting h.clock h.wait) q.1.0)) ∙ v.2,
    )
