-- What the parts of the code of writing numbers give. Assumes nothing.
use Rattle.std.specs.Prelude.{ℕ, [], ◌∷◌}
use Rattle.base.specs.Refusals.{unless, first_of, refused_cell, refused_kind}
use Rattle.message.specs.declared.Sizes.{Sizes}
use Rattle.message.specs.Message.{known_kind}
use Rattle.message.specs.Faults.{sizes_fit}

unfoldable pub kind_answer : Sizes → ℕ → ℕ
kind_answer z kind =
    first_of (unless (sizes_fit z) refused_cell ∷ unless (known_kind kind) refused_kind ∷ [])
