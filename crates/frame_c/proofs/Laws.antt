-- The answers of writing numbers: 1 and 3, then writing's. Assumes nothing.
use mathlib.Core.Path.{◌≡◌, refl}
use mathlib.Core.Bool.{Bool, true, false, cond}
use mathlib.Core.List.{List, [], ◌∷◌}
use Prim.Native.Nat.{ℕ}
use lib.Dec.{eqb}
use borrow.Author.Tests.{ne_eqb}
use Rattle.base.specs.Refusals.{refused_cell, refused_kind, unless, first_of, Refusal, answer_by}
use Rattle.base.specs.Lists.{all_of}
use Rattle.base.proofs.Answers.{number_least}
use Rattle.message.specs.declared.Sizes.{Sizes}
use Rattle.message.specs.declared.Numbers.{Numbers}
use Rattle.message.specs.Message.{known_kind, message_of}
use Rattle.message.specs.Faults.{sizes_fit, Field}
use Rattle.frame.specs.Writing.{write_refusals, write_answer, answer_to}
use Rattle.frame_c.specs.Interface.{kind_refusal, handed_answer, handed_answer_to}
use Rattle.frame_c.specs.Parts.{kind_answer}

first_two : (c b : Bool) (ks : List ℕ) →
    let a = first_of (unless c refused_cell ∷ unless b refused_kind ∷ []) in
    first_of (unless c refused_cell ∷ unless b refused_kind ∷ ks)
    ≡ cond (eqb a 0) (first_of (unless c refused_cell ∷ ks)) a
unfolding first_of
first_two true true ks = refl
first_two true false ks = refl
first_two false b ks = refl

pub kind_found : (z : Sizes) (k : ℕ) (message : List (Refusal Field)) (bytes : List ℕ) (room : ℕ)
    → answer_by (write_refusals z (kind_refusal k ∷ message) bytes room)
    ≡ cond (eqb (kind_answer z k) 0) (answer_by (write_refusals z message bytes room))
    (kind_answer z k)
unfolding all_of kind_answer
kind_found z k message bytes room = first_two (sizes_fit z) (known_kind k) _

-- what is refused before writing, and what writing gives else

module _ (z : Sizes) (f : Numbers) (room : ℕ) where
  pub handed_refused : (kind_answer z f.kind ≡ 0 → ⊥)
      → handed_answer z f room ≡ kind_answer z f.kind
  unfolding handed_answer
  handed_refused e = rw (kind_found z f.kind _ _ _, ne_eqb (kind_answer z f.kind) 0 e)

  pub handed_on : kind_answer z f.kind ≡ 0
      → handed_answer z f room ≡ write_answer z (message_of f) room
  unfolding handed_answer write_answer
  handed_on e = rw (kind_found z f.kind _ _ _, e)

  module _ (set : ℕ) where
    pub sent_refused : (kind_answer z f.kind ≡ 0 → ⊥)
        → handed_answer_to z f set room ≡ kind_answer z f.kind
    unfolding handed_answer_to
    sent_refused e = rw (kind_found z f.kind _ _ _, ne_eqb (kind_answer z f.kind) 0 e)

    pub sent_on : kind_answer z f.kind ≡ 0
        → handed_answer_to z f set room ≡ answer_to z (message_of f) set room
    unfolding handed_answer_to answer_to
    sent_on e = rw (kind_found z f.kind _ _ _, e)

-- the laws by which `write_handed` and `write_handed_to` prove
pub ruleset handed_rules = (handed_refused, handed_on, sent_refused, sent_on, number_least)
