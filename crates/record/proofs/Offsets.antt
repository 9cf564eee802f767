-- Where a fault of a record is found, and where settings that opening refuses are: at a field that
-- gives the number, the lowest one; and within the record's bytes but for 2. Assumes nothing.
use mathlib.Core.Path.{◌≡◌, refl}
use mathlib.Core.Bool.{Bool, false}
use mathlib.Core.List.{List, [], ◌∷◌}
use mathlib.Core.Logic.{inr}
use Prim.Native.Nat.{ℕ, ◌+◌, ◌≤◌, ◌<◌}
use native.Mathlib.Omega.{arith}
use lib.ListN.{drop}
use lib.Dec.{lit<, lit≤, leb, eqb}
use borrow.Author.Tests.{leb-true, eqb-false}
use Rattle.base.specs.Refusals.{done, refused_cell, refused_cut, refused_kind, refused_length}
use Rattle.base.specs.Refusals.{refused_tick, refused_short, test, Refusal, answer_by, place_by}
use Rattle.base.specs.Refusals.{first_of, tests_in, fails_at}
use Rattle.base.specs.Claims.{GivenAt, Lowest}
use Rattle.base.specs.Lists.{All, all_of}
use Rattle.base.proofs.Places.{Rising, first_place, apart, lowest_first, lowest_lone, given, lone}
use Rattle.wire.specs.Wire.{total}
use Rattle.message.specs.Message.{last_tick}
use Rattle.message.specs.Faults.{Field, lent_bytes, frame_length, kind_number}
use Rattle.layout.specs.Layout.{offset_in, fore_length}
use Rattle.state.specs.declared.Settings.{Settings}
use Rattle.state.specs.StateLimits.{opening_clock, settings_tests}
use Rattle.cell.specs.Events.{opening_refusals, opening_refusal}
use Rattle.record.specs.Record.{is_allowed, record_length, left_at}
use Rattle.record.specs.Record.{told_length_at, told_kind_at, record_refusals, record_fault}
use Rattle.record.specs.Record.{fault_offset, opening_place, opening_offset}
use Rattle.record.specs.Claims.{places_at}

-- what is claimed of a fault's number and its offset, of a record with so many bytes left
record Placed (left k at : ℕ) : Type 0 where
  cut : k ≡ refused_cut → at ≡ left
  within : (k ≡ done → ⊥) → (k ≡ refused_cut → ⊥) → at < left

placed_cut : (left : ℕ) → Placed left refused_cut left
placed_cut left = record { cut = λ _. refl; within = λ _ n. absurd (n refl) }

placed_field : (left k at : ℕ) → eqb k refused_cut ≡ false → at < left → Placed left k at
placed_field left k at n l =
    record { cut = λ e. absurd (eqb-false k refused_cut n e); within = λ _ _. l }

placed_none : (left : ℕ) (place : Field → ℕ)
    → Placed left (answer_by {Field = Field} []) (place_by place [])
unfolding first_of tests_in fails_at
placed_none left place =
    record { cut = λ e. absurd (omega (arith, e)); within = λ n. absurd (n refl) }

module _ (first : Bool) (s : List ℕ) (at : ℕ) where
  abbrev left : ℕ
  left = left_at s at

  abbrev len : ℕ
  len = record_length (told_kind_at s at)

  abbrev place : Field → ℕ
  place = places_at s at

  abbrev rs : List (Refusal Field)
  rs = record_refusals first s at

  pub offset_given : (record_fault first s at ≡ done → ⊥)
      → GivenAt place rs (record_fault first s at) (fault_offset first s at)
  unfolding record_fault fault_offset all_of
  offset_given n = given place rs refl n

  -- both forms of 2 are found past all the bytes
  cut_again : leb fore_length left ≡ false
      → Lowest place (drop 1 rs) refused_cut
      (fails_at place (test lent_bytes (leb fore_length left) ∷ []))
  unfolding All fails_at
  cut_again e = (
    (λ q. absurd (omega (arith, q))),
    (
      (λ q. absurd (omega (arith, q))),
      ((λ q. absurd (omega (arith, q))), ((λ _. ((λ _. rw e (omega arith)), tt)), tt)),
    ),
  )

  pub offset_lowest : Lowest place rs (record_fault first s at) (fault_offset first s at)
  unfolding record_fault fault_offset all_of
  offset_lowest =
      let told = told_length_at s at in
      lowest_first place 0 (left + 1) _ (drop 1 rs) refl
      (lone place (test lent_bytes (leb fore_length left))) cut_again
      (λ _.
      lowest_lone place refused_kind (test kind_number (is_allowed first (told_kind_at s at)))
      (drop 2 rs) refl refl
      (λ _.
      lowest_lone place refused_short (test frame_length (leb len told)) (drop 3 rs) refl refl
      (λ _.
      lowest_lone place refused_length (test frame_length (leb told len)) (drop 4 rs) refl refl
      (λ _.
      lowest_lone place refused_cut (test lent_bytes (leb len left)) [] refl refl
      (λ _. apart place [] _ _ refl)))))

  placed : Placed left (record_fault first s at) (fault_offset first s at)
  unfolding record_fault fault_offset all_of fails_at offset_in
  placed =
      first_place place (Placed left) _ _ refl (λ e. rw e (placed_cut left))
      (λ four.
      let l : fore_length ≤ left = leb-true fore_length left four in
      first_place place (Placed left) _ _ refl
      (λ e. rw e (placed_field left refused_kind _ refl (omega arith)))
      (λ _.
      first_place place (Placed left) _ _ refl
      (λ e. rw e (placed_field left refused_short _ refl (omega arith)))
      (λ _.
      first_place place (Placed left) _ _ refl
      (λ e. rw e (placed_field left refused_length _ refl (omega arith)))
      (λ _.
      first_place place (Placed left) _ [] refl (λ e. rw e (placed_cut left))
      (λ _. placed_none left place)))))

  pub offset_cut : record_fault first s at ≡ refused_cut → fault_offset first s at ≡ left
  offset_cut e = placed.cut e

  pub offset_within : (record_fault first s at ≡ done → ⊥)
      → (record_fault first s at ≡ refused_cut → ⊥) → fault_offset first s at < left
  offset_within a b = placed.within a b

-- ---- opening

-- n, T, T and S stand at rising places
settings_rise : (g : Settings) → Rising opening_place 0 21 (settings_tests g)
unfolding Rising total
settings_rise g = inr (
  lit≤ tt,
  (lit< tt, inr (lit≤ tt, (lit< tt, inr (lit≤ tt, (lit< tt, inr (lit≤ tt, (lit< tt, tt))))))),
)

module _ (g : Settings) (clock : ℕ) where
  pub opening_given : (opening_refusal g clock ≡ done → ⊥)
      → GivenAt opening_place (opening_refusals g clock) (opening_refusal g clock)
      (opening_offset g clock)
  unfolding opening_refusal opening_offset all_of
  opening_given n = given opening_place (opening_refusals g clock) refl n

  pub opening_lowest : Lowest opening_place (opening_refusals g clock) (opening_refusal g clock)
      (opening_offset g clock)
  unfolding opening_refusal opening_offset all_of
  opening_lowest =
      let rest = drop 1 (opening_refusals g clock) in
      lowest_first opening_place 0 21 _ rest refl (settings_rise g)
      (λ _. apart opening_place rest refused_cell _ refl)
      (λ _.
      lowest_lone opening_place refused_tick (test opening_clock (leb clock last_tick)) [] refl refl
      (λ _. apart opening_place [] _ _ refl))
