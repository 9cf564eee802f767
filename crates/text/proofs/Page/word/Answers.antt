-- `word` copies the bytes over those from where the page stood.
use mathlib.Core.Path.{refl}
use native.Mathlib.Omega.{arith}
use Rattle.text.proofs.Laws.{put_part, wrote}
use Rattle.text.proofs.Page.word.Goals as goal

pub returns : goal.returns
returns c =
    wrote (put_part _ _ _ _ _ (omega arith) c.requires c.copy_from_slice.ensures.after) refl
