-- `offset_of`: a field that a kind lacks counts as past the end of its frames.
use mathlib.Core.Logic.{inl, inr}
use borrow.Author.Tests.{ne_eqb}
use Rattle.layout.proofs.Laws.{no_accepted, no_owner_lem, no_keepers_lem, no_holders_lem}
use Rattle.layout.proofs.offset_of.Goals.{in_default-via-in-AcceptedTick+in_default}
use Rattle.layout.proofs.offset_of.Goals.{in_default-via-in-AcceptedHost+in_default}
use Rattle.layout.proofs.offset_of.Goals.{in_default-via-in-Owner+in_default}
use Rattle.layout.proofs.offset_of.Goals.{in_default-via-in-KeepersEnd+in_default}
use Rattle.layout.proofs.offset_of.Goals.{in_default-via-in-HoldersEnd+in_default}
use Rattle.layout.proofs.offset_of.Goals as goal

pub returns-in_default : goal.returns-in_default
returns-in_default c = rw c.kind_length.ensures (elim c.in_default.branch [
  | in_default-via-in-AcceptedTick+in_default w ↦
      let d = w.in_default in
      rw d.is-0 (no_accepted _ (ne_eqb _ _ d.is-1.1)).0
  | in_default-via-in-AcceptedHost+in_default w ↦
      let d = w.in_default in
      rw d.is-0 (no_accepted _ (ne_eqb _ _ d.is-1.1)).1
  | in_default-via-in-Owner+in_default w ↦
      let d = w.in_default in
      rw d.is-0 (no_owner_lem _ (ne_eqb _ _ d.is-1.0.1)
      (ne_eqb _ _ (λ e. d.is-1.1 (inl e)))
      (ne_eqb _ _ (λ e. d.is-1.1 (inr e))))
  | in_default-via-in-KeepersEnd+in_default w ↦
      let d = w.in_default in
      rw d.is-0 (no_keepers_lem _ (ne_eqb _ _ d.is-1.0.1) (ne_eqb _ _ d.is-1.1))
  | in_default-via-in-HoldersEnd+in_default w ↦
      let d = w.in_default in
      rw d.is-0 (no_holders_lem _ (ne_eqb _ _ d.is-1.1))
])
