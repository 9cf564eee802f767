-- `advance_all` moves every host where `all_refusal` refuses nothing.
use mathlib.Core.Path.{◌≡◌, refl, sym}
use Prim.Native.Nat.{◌<◌}
use native.Mathlib.Omega.{arith}
use borrow.Author.Rules.{rules}
use Rattle.std.specs.declared.result.Result.{Result}
use Rattle.std.proofs.lemmas.List.{set-get_or}
use Rattle.base.specs.Answers.{answer_of}
use Rattle.host.specs.declared.Host.{Host}
use Rattle.host.specs.Steps.{advanced_host}
use Rattle.places.specs.Places.{each_host}
use Rattle.acts.proofs.Advances.{few, not_done, all_kept, next_room, moves_next, all_moved}
use Rattle.acts.proofs.Advances.{each_front, as_many}
use Rattle.acts.proofs.advance_all.Goals as goal

pub returns-in_err-all_refusal : goal.returns-in_err-all_refusal
unfolding answer_of
returns-in_err-all_refusal c =
    let k = c.in_err-all_refusal.field-0.0 in
    let e : c.from_residual.result ≡ Result.Err k = search rules in
    rw e
    (all_kept _ c.requires _ _ _ (search (rules, set-get_or)) c.in_err-all_refusal.ensures
    (not_done k))

pub slice_bounds-h-items-end : goal.slice_bounds-h-items-end
slice_bounds-h-items-end c = few _ c.requires

pub loop-h-init : goal.loop-h-init
unfolding each_host
loop-h-init c = refl

pub advanced_host-requires : goal.advanced_host-requires
unfolding answer_of
advanced_host-requires c =
    let i : c.loop-h.h-index < c.args.c.now.settings.n =
    omega (arith, c.loop-h-test.true, as_many _ c.requires) in
    omega (
      arith,
      next_room _ c.requires _ _ _ (sym c.in_ok-all_refusal.ensures) c.loop-h.invariant i,
    )

pub loop-h-preserved : goal.loop-h-preserved
loop-h-preserved c =
    moves_next _ c.requires _ _ _ _ c.loop-h.invariant
    (omega (arith, c.loop-h-test.true, as_many _ c.requires)) c.advanced_host.ensures

pub returns : goal.returns
unfolding answer_of
returns c =
    let k = c.args.c.now in
    let f = λ (h : Host). advanced_host h c.args.d in
    let all : c.loop-h.h-index ≡ k.settings.n =
    omega (arith, c.loop-h-test.false, c.loop-h.auto.h-index-end, as_many _ c.requires) in
    all_moved _ c.requires _ _ (sym c.in_ok-all_refusal.ensures)
    (rw (c.loop-h.invariant, all) (each_front k.settings.n f k.hosts))
