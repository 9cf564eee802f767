-- `all_refusal`: 15 by the test of all hosts.
use mathlib.Core.Path.{◌∙◌, sym}
use Rattle.base.specs.Answers.{refusal_number, answer_of}
use Rattle.acts.proofs.Advances.{few, all_zero, all_late, all_clear}
use Rattle.acts.proofs.all_refusal.Goals as goal
use Rattle.acts.proofs.all_refusal.Goals.{then-d-eq0-via-then-d-eq0}
use Rattle.acts.proofs.all_refusal.Goals.{then-d-eq0-via-else-d-eq0+then-not-may_advance}

pub shared_ref_as_front-may_advance : goal.shared_ref_as_front-may_advance
shared_ref_as_front-may_advance c = few _ c.requires

pub returns-then-d-eq0 : goal.returns-then-d-eq0
unfolding answer_of refusal_number
returns-then-d-eq0 c =
    elim c.then-d-eq0.branch [
      | then-d-eq0-via-then-d-eq0 w ↦ all_zero _ c.requires _ w.if-d-eq0.true
      | then-d-eq0-via-else-d-eq0+then-not-may_advance w ↦
          all_late _ c.requires _ (sym w.may_advance.ensures ∙ w.if-not-may_advance.true)
    ]

pub returns : goal.returns
unfolding answer_of
returns c =
    all_clear _ c.requires _ c.if-d-eq0.false
    (sym c.may_advance.ensures ∙ c.if-not-may_advance.false)
