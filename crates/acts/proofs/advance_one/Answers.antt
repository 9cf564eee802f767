-- `advance_one` moves one host where `one_refusal` refuses nothing.
use mathlib.Core.Path.{◌≡◌, sym}
use native.Mathlib.Omega.{arith}
use borrow.Author.Rules.{rules}
use Rattle.std.specs.declared.result.Result.{Result}
use Rattle.std.proofs.lemmas.List.{set-get_or}
use Rattle.base.specs.Answers.{answer_of}
use Rattle.acts.proofs.Advances.{few, not_done, one_kept, one_room, one_moved}
use Rattle.acts.proofs.advance_one.Goals as goal

pub returns-in_err-one_refusal : goal.returns-in_err-one_refusal
unfolding answer_of
returns-in_err-one_refusal c =
    let k = c.in_err-one_refusal.field-0.0 in
    let e : c.from_residual.result ≡ Result.Err k = search rules in
    rw e
    (one_kept _ c.requires _ _ _ _ (search (rules, set-get_or)) c.in_err-one_refusal.ensures
    (not_done k))

pub bounds-c-who : goal.bounds-c-who
unfolding answer_of
bounds-c-who c =
    let r = one_room _ c.requires _ _ (sym c.in_ok-one_refusal.ensures) in
    omega (arith, few _ c.requires, r.0)

pub advanced_host-requires : goal.advanced_host-requires
unfolding answer_of
advanced_host-requires c =
    omega (arith, (one_room _ c.requires _ _ (sym c.in_ok-one_refusal.ensures)).1)

pub bounds-c-who-2 : goal.bounds-c-who-2
unfolding answer_of
bounds-c-who-2 c =
    let r = one_room _ c.requires _ _ (sym c.in_ok-one_refusal.ensures) in
    omega (arith, few _ c.requires, r.0)

pub returns : goal.returns
unfolding answer_of
returns c =
    one_moved _ c.requires _ _ _ (sym c.in_ok-one_refusal.ensures) c.advanced_host.ensures
