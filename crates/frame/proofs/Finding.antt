-- What is found in lent bytes, by the first test that fails: `find` meets the tests in this order.
-- Assumes nothing.
use mathlib.Core.Path.{◌≡◌}
use mathlib.Core.Bool.{true, false}
use mathlib.Core.List.{List}
use Prim.Native.Nat.{ℕ, ◌≤◌, ◌<◌}
use native.Mathlib.Omega.{arith}
use lib.ListN.{length}
use borrow.Author.Tests.{le-leb, lt-leb}
use Rattle.base.specs.Refusals.{first_of, tests_in, fails_at, place_by}
use Rattle.base.specs.Refusals.{refused_cell, refused_cut, refused_kind, refused_length}
use Rattle.base.specs.Refusals.{refused_short}
use Rattle.base.specs.Lists.{all_of}
use Rattle.message.specs.declared.Sizes.{Sizes}
use Rattle.message.specs.Message.{known_kind}
use Rattle.message.specs.Faults.{sizes_fit, fault_of, refusals_of}
use Rattle.layout.specs.Layout.{kind_length, kind_offset, length_offset, fore_length, offset_in}
use Rattle.layout.specs.Layout.{offset_of, numbers_in}
use Rattle.frame.specs.Parts.{Fault}
use Rattle.frame.specs.Reading.{told_length, told_kind, read_answer, read_offset}
use Rattle.frame.specs.Parts.{found_of, found_with}
use Rattle.layout.proofs.Laws.{fault_place}
use Rattle.frame.proofs.Answers.{Tested, read_whole, offset_whole, fault_number}

pub found_cell : (z : Sizes) (s : List ℕ) → sizes_fit z ≡ false
    → found_of z s ≡ Fault refused_cell 0
unfolding found_of read_answer read_offset first_of all_of tests_in fails_at offset_in
found_cell z s c = rw c

pub found_fore : (z : Sizes) (s : List ℕ) → sizes_fit z ≡ true → length s < fore_length
    → found_of z s ≡ Fault refused_cut (length s)
unfolding found_of read_answer read_offset first_of all_of tests_in fails_at offset_in
found_fore z s c l = rw (c, lt-leb fore_length (length s) l)

pub found_kind : (z : Sizes) (s : List ℕ) → sizes_fit z ≡ true → fore_length ≤ length s
    → known_kind (told_kind s) ≡ false → found_of z s ≡ Fault refused_kind kind_offset
unfolding found_of read_answer read_offset first_of all_of tests_in fails_at offset_in
found_kind z s c l k = rw (c, le-leb fore_length (length s) l, k)

pub found_short : (z : Sizes) (s : List ℕ) → sizes_fit z ≡ true → fore_length ≤ length s
    → known_kind (told_kind s) ≡ true → told_length s < kind_length (told_kind s)
    → found_of z s ≡ Fault refused_short length_offset
unfolding found_of read_answer read_offset first_of all_of tests_in fails_at offset_in
found_short z s c l k t =
    rw (c, le-leb fore_length (length s) l, k, lt-leb (kind_length (told_kind s)) (told_length s) t)

pub found_long : (z : Sizes) (s : List ℕ) → sizes_fit z ≡ true → fore_length ≤ length s
    → known_kind (told_kind s) ≡ true → kind_length (told_kind s) < told_length s
    → found_of z s ≡ Fault refused_length length_offset
unfolding found_of read_answer read_offset first_of all_of tests_in fails_at offset_in
found_long z s c l k t =
    rw (
      c,
      le-leb fore_length (length s) l,
      k,
      le-leb (kind_length (told_kind s)) (told_length s) (omega arith),
      lt-leb (told_length s) (kind_length (told_kind s)) t,
    )

pub found_cut : (z : Sizes) (s : List ℕ) → sizes_fit z ≡ true → fore_length ≤ length s
    → known_kind (told_kind s) ≡ true → told_length s ≡ kind_length (told_kind s)
    → length s < kind_length (told_kind s) → found_of z s ≡ Fault refused_cut (length s)
unfolding found_of read_answer read_offset first_of all_of tests_in fails_at offset_in
found_cut z s c l k t r =
    let len = kind_length (told_kind s) in
    rw (
      c,
      le-leb fore_length (length s) l,
      k,
      t,
      le-leb len len (omega arith),
      lt-leb len (length s) r,
    )

-- a whole frame's numbers, unless something in them is refused
pub found_whole : (z : Sizes) (s : List ℕ) → sizes_fit z ≡ true → fore_length ≤ length s
    → known_kind (told_kind s) ≡ true → told_length s ≡ kind_length (told_kind s)
    → kind_length (told_kind s) ≤ length s →
    let f = numbers_in s (told_kind s) in
    found_of z s
    ≡ found_with (fault_of z f) (place_by (offset_of f.kind) (refusals_of z f)) f
    (kind_length (told_kind s))
unfolding found_of
found_whole z s c l k t r =
    let whole : Tested z s = record {
      cell = c;
      fore = le-leb fore_length (length s) l;
      kind = k;
      told = t;
      room = le-leb (kind_length (told_kind s)) (length s) r;
    }
    in
    rw (read_whole z s whole, offset_whole z s whole)

-- the laws by which `read_numbers` and `find` prove
pub ruleset number_rules = (fault_number, fault_place)

pub ruleset found_rules = (
  found_cell,
  found_fore,
  found_kind,
  found_short,
  found_long,
  found_cut,
  found_whole,
)
