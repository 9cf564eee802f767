-- What one more read gives stands behind what was read so far, and both were taken in turn.
use Rattle.std.proofs.Common.{◌≡◌, ℕ, ◌+◌, ◌-◌, ◌≤◌, List, ◌++◌, arith, length, take, drop}
use Rattle.std.proofs.Common.{sym, ap, ◌∙◌, subst, le_refl, drop_at, length-take-le}
use Rattle.std.proofs.lemmas.Slice.{take-put_mid_below}
use Rattle.std.specs.Io.KnownBytes.{Consumes}
use Rattle.std.proofs.KnownBytes.{Consumes-trans}
use borrow.Rule.Slice.PartMut.{put_mid, post_of}
use lib.Seq.{take-add, take-append-le}
use Rattle.room.proofs.fill.Goals as goal

-- the first a bytes as they were, and n bytes of ys behind them
front_and_part : (a k n : ℕ) (xs ys : List ℕ) → a ≤ length xs → n ≤ length ys
    → take a xs ++ take n ys ≡ take (a + n) (put_mid a k xs ys)
front_and_part a k n xs ys within fits =
    let new = put_mid a k xs ys in
    let part : take n (drop a new) ≡ take n ys =
    ap (take n) (drop_at (take a xs) (ys ++ post_of a k xs) a (length-take-le a xs within))
    ∙ take-append-le n ys (post_of a k xs) fits in
    let front : take a new ≡ take a xs = take-put_mid_below _ _ _ _ _ (le_refl _) within in
    sym (take-add a n new ∙ ap (λ l. l ++ take n (drop a new)) front
    ∙ ap (λ l. take a xs ++ l) part)

pub loop-done-preserved : goal.loop-done-preserved
loop-done-preserved g c =
    let from = c.loop-done.done in
    let k = length c.loop-done.bytes - from in
    let read = c.in_ok-n.ensures in (
      omega (arith, read.bound.0),
      subst (Consumes _ _)
          (front_and_part from k c.in_ok-n.n c.loop-done.bytes c.read.new.buf
          c.loop-done.invariant.0
          read.bound.0)
          (Consumes-trans _ _ _ _ _ c.loop-done.invariant.1 read.bytes.0),
    )
