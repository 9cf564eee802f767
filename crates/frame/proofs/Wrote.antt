-- What writing answers, by the first test that fails: `write` and `write_to` meet the tests in this
-- order. Assumes nothing.
use mathlib.Core.Path.{◌≡◌, sym, ◌∙◌}
use mathlib.Core.Bool.{true, false}
use Prim.Native.Nat.{ℕ, ◌*◌, ◌≤◌, ◌<◌, ◌^◌}
use native.Mathlib.Omega.{arith}
use lib.Count.{ones}
use lib.ListN.{length}
use borrow.Author.Tests.{ltb-true}
use Rattle.base.specs.Refusals.{refused_cell, refused_room}
use Rattle.base.proofs.Answers.{number_least}
use Rattle.base.proofs.Stores.{sets_front}
use Rattle.quorum.specs.Sets.{members}
use Rattle.quorum.proofs.Laws.{members_below}
use Rattle.message.specs.declared.Sizes.{Sizes}
use Rattle.message.specs.declared.Message.{Message}
use Rattle.message.specs.Message.{numbers_of}
use Rattle.message.specs.Faults.{sizes_fit, fault_of, fault_to}
use Rattle.message.proofs.Laws.{kind_known, passed_to}
use Rattle.layout.specs.Layout.{kind_length}
use Rattle.layout.proofs.Laws.{bytes_length, length_most}
use Rattle.frame.specs.Writing.{frame_of, write_answer, answer_to}
use Rattle.frame.proofs.Answers.{answer_cell, answer_bad, answer_room, answer_done, cell_most}
use Rattle.frame.proofs.Answers.{write_found, found_to, length_to}

-- ---- to the message's own target

module _ (z : Sizes) (m : Message) (room : ℕ) where
  pub wrote_cell : sizes_fit z ≡ false → write_answer z m room ≡ refused_cell
  wrote_cell c = sym (write_found z m room) ∙ answer_cell _ _ _ _ c

  pub wrote_bad : sizes_fit z ≡ true → (fault_of z (numbers_of m) ≡ 0 → ⊥)
      → write_answer z m room ≡ fault_of z (numbers_of m)
  wrote_bad c e = sym (write_found z m room) ∙ answer_bad _ _ _ _ c e

  pub wrote_room : sizes_fit z ≡ true → fault_of z (numbers_of m) ≡ 0
      → room < kind_length (numbers_of m).kind → write_answer z m room ≡ refused_room
  wrote_room c e l = sym (write_found z m room) ∙ answer_room _ _ _ _ c e l

  pub wrote_done : sizes_fit z ≡ true → fault_of z (numbers_of m) ≡ 0
      → kind_length (numbers_of m).kind ≤ room → write_answer z m room ≡ 0
  wrote_done c e l = sym (write_found z m room) ∙ answer_done _ _ _ _ c e l

pub frame_length : (m : Message) → length (frame_of m) ≡ kind_length (numbers_of m).kind
unfolding frame_of
frame_length m = bytes_length (numbers_of m)

-- ---- to a set of receivers

module _ (z : Sizes) (m : Message) (set room : ℕ) where
  pub sent_cell : sizes_fit z ≡ false → answer_to z m set room ≡ refused_cell
  sent_cell c = sym (found_to z m set room) ∙ answer_cell _ _ _ _ c

  pub sent_bad : sizes_fit z ≡ true → (fault_to z (numbers_of m) set ≡ 0 → ⊥)
      → answer_to z m set room ≡ fault_to z (numbers_of m) set
  sent_bad c e = sym (found_to z m set room) ∙ answer_bad _ _ _ _ c e

  pub sent_room : sizes_fit z ≡ true → fault_to z (numbers_of m) set ≡ 0
      → room < ones set * kind_length (numbers_of m).kind → answer_to z m set room ≡ refused_room
  sent_room c e l = sym (found_to z m set room) ∙ answer_room _ _ _ _ c e l

  pub sent_done : sizes_fit z ≡ true → fault_to z (numbers_of m) set ≡ 0
      → ones set * kind_length (numbers_of m).kind ≤ room → answer_to z m set room ≡ 0
  sent_done c e l = sym (found_to z m set room) ∙ answer_done _ _ _ _ c e l

-- the hosts of a set below 16 are those below n
pub hosts_below : (z : Sizes) (m : Message) (set : ℕ) → sizes_fit z ≡ true
    → fault_to z (numbers_of m) set ≡ 0 → members 16 set ≡ members z.n set
hosts_below z m set c e =
    let in-n = ltb-true set (2 ^ z.n) (passed_to z (numbers_of m) set e).target in
    members_below set z.n 16 in-n (omega (arith, cell_most z c))

pub message_most : (m : Message) → kind_length (numbers_of m).kind ≤ 33
message_most m = length_most _ (kind_known m)

-- the laws by which `write` and `write_to` prove
pub ruleset wrote_rules = (
  wrote_cell,
  wrote_bad,
  wrote_room,
  wrote_done,
  frame_length,
  number_least,
  sets_front,
)

pub ruleset sent_rules = (
  sent_cell,
  sent_bad,
  sent_room,
  sent_done,
  hosts_below,
  length_to,
  message_most,
  number_least,
  sets_front,
)
