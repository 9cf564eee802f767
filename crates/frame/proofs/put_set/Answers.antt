-- `put_set` puts the frames to the hosts of a set end to end at the front: what is still to be put,
-- put from where the walk stands, gives what the whole gives.
use mathlib.Core.Path.{◌≡◌, refl, sym, ap, ◌∙◌}
use Prim.Native.Nat.{ℕ, ◌+◌, ◌-◌, ◌/◌, ◌^◌}
use native.Mathlib.Nat.{div-one, div-le_self}
use native.Mathlib.Omega.{arith}
use lib.Count.{count_trailing_zeros, trailing_le}
use lib.ListN.{length}
use lib.Pow.{shr-shr}
use lib.Seq.{sets}
use Rattle.base.proofs.Stores.{sets_append}
use Rattle.quorum.proofs.Laws.{half_set, members_none}
use Rattle.message.specs.Message.{with_target}
use Rattle.layout.specs.Layout.{bytes_of}
use Rattle.layout.proofs.Laws.{bytes_length}
use Rattle.frame.specs.Writing.{frames_in}
use Rattle.frame.proofs.Walk.{due, next_due, due_length}
use Rattle.frame.proofs.put_set.Goals as goal

pub loop-rest-init : goal.loop-rest-init
unfolding frames_in
loop-rest-init c =
    record {
      left = sym (div-one c.args.set);
      long = refl;
      fits = omega arith;
      gives = refl;
    }

pub overflow_cast-rest : goal.overflow_cast-rest
unfolding frames_in
overflow_cast-rest c =
    omega (arith, trailing_le 16 c.loop-rest.rest)

pub overflow_shr-rest : goal.overflow_shr-rest
unfolding frames_in
overflow_shr-rest c =
    let a = c.args in
    let l = c.loop-rest in
    let next =
    next_due a.f a.set l.h l.rest l.invariant.left (omega arith) c.loop-rest-test.true
    in
    omega (arith, next.below)

pub overflow_cast-h : goal.overflow_cast-h
unfolding frames_in
overflow_cast-h c =
    omega (arith, trailing_le 16 c.loop-rest.rest)

pub overflow_add-h : goal.overflow_add-h
unfolding frames_in
overflow_add-h c =
    let a = c.args in
    let l = c.loop-rest in
    let next =
    next_due a.f a.set l.h l.rest l.invariant.left (omega arith) c.loop-rest-test.true
    in
    omega (arith, next.below)

pub put_numbers-requires : goal.put_numbers-requires
unfolding frames_in
put_numbers-requires c =
    let a = c.args in
    let l = c.loop-rest in
    let next =
    next_due a.f a.set l.h l.rest l.invariant.left (omega arith) c.loop-rest-test.true
    in
    let g = l.h + count_trailing_zeros 16 l.rest in
    let lengths = due_length a.f a.set l.h g a.len next c.requires.long in
    record {
      long = rw c.with_target.ensures c.requires.long;
      room = omega (arith, lengths, l.invariant.long, l.invariant.fits);
    }

pub overflow_add-at : goal.overflow_add-at
unfolding frames_in
overflow_add-at c =
    let a = c.args in
    let l = c.loop-rest in
    let next =
    next_due a.f a.set l.h l.rest l.invariant.left (omega arith) c.loop-rest-test.true
    in
    let g = l.h + count_trailing_zeros 16 l.rest in
    let lengths = due_length a.f a.set l.h g a.len next c.requires.long in
    omega (arith, lengths, l.invariant.fits)

pub overflow_add-h-in-loop-rest : goal.overflow_add-h-in-loop-rest
unfolding frames_in
overflow_add-h-in-loop-rest c =
    let a = c.args in
    let l = c.loop-rest in
    let next =
    next_due a.f a.set l.h l.rest l.invariant.left (omega arith) c.loop-rest-test.true
    in
    omega (arith, next.below)

pub loop-rest-smaller : goal.loop-rest-smaller
unfolding frames_in
loop-rest-smaller c =
    let rest = c.loop-rest.rest in
    omega (arith, div-le_self rest (2 ^ count_trailing_zeros 16 rest), c.loop-rest-test.true)

pub loop-rest-preserved : goal.loop-rest-preserved
unfolding frames_in
loop-rest-preserved c =
    let a = c.args in
    let l = c.loop-rest in
    let next =
    next_due a.f a.set l.h l.rest l.invariant.left (omega arith) c.loop-rest-test.true
    in
    let g = l.h + count_trailing_zeros 16 l.rest in
    let lengths = due_length a.f a.set l.h g a.len next c.requires.long in
    let p = c.put_numbers in
    let w = c.with_target.ensures in
    let one = bytes_of (with_target a.f g) in
    let more = due a.f a.set (g + 1) in
    let skipped = count_trailing_zeros 16 (a.set / 2 ^ l.h) in
    let long : length one ≡ a.len = bytes_length (with_target a.f g) ∙ sym c.requires.long in
    let again =
    sets_append l.out l.at one more
    ∙ ap (sets l.out l.at) (sym next.frames)
    ∙ l.invariant.gives
    in
    record {
      left = rw l.invariant.left
          (ap (λ (x : ℕ). x / 2) (shr-shr a.set l.h skipped)
          ∙ half_set a.set (l.h + skipped));
      long = p.auto.out ∙ l.invariant.long;
      fits = omega (arith, lengths, l.invariant.fits);
      gives = rw (p.ensures, w, ← long) again;
    }

pub shape_of-out : goal.shape_of-out
unfolding frames_in
shape_of-out c =
    c.loop-rest.invariant.long

pub returns : goal.returns
unfolding frames_in
returns c =
    let a = c.args in
    let l = c.loop-rest in
    let z = sym l.invariant.left ∙ c.loop-rest-test.false in
    rw (members_none a.set l.h (16 - l.h) z) at l.invariant.gives
