-- Laws of the answers of reading and writing: which tests lead to which. Assumes nothing.
use mathlib.Core.Path.{◌≡◌, refl, sym, ap, ◌∙◌}
use mathlib.Core.Bool.{Bool, true, false, cond}
use mathlib.Core.List.{List, [], ◌∷◌, ◌++◌}
use Prim.Native.Nat.{ℕ, suc, ◌+◌, ◌*◌, ◌≤◌, ◌<◌, ◌^◌}
use native.Mathlib.Nat.{add-mul, one-mul, zero-mul}
use native.Mathlib.Omega.{arith}
use lib.Count.{ones}
use lib.ListN.{length, drop, length-append}
use lib.Dec.{ltb, leb, eqb}
use borrow.Author.Tests.{leb-true, ltb-true, le-leb, lt-leb, ne_eqb}
use Rattle.base.specs.Refusals.{unless, first_of, refused_cell, refused_room, tests_in, fails_at}
use Rattle.base.specs.Refusals.{answer_by, place_by, all_hold, refused_length, refused_host}
use Rattle.base.specs.Refusals.{refused_tick, refused_party, refused_short}
use Rattle.base.specs.Lists.{all_of}
use Rattle.base.proofs.Tests.{both, first_passed, unless_passed, first_same, first_append}
use Rattle.quorum.specs.Sets.{most_hosts, members}
use Rattle.quorum.proofs.Laws.{members_length}
use Rattle.message.specs.declared.Sizes.{Sizes}
use Rattle.message.specs.declared.Numbers.{Numbers}
use Rattle.message.specs.declared.Message.{Message}
use Rattle.message.specs.Message.{known_kind, numbers_of, message_of, with_target}
use Rattle.message.specs.Faults.{sizes_fit, host_tests, tick_tests, party_fits, refusals_of}
use Rattle.message.specs.Faults.{fault_of}
use Rattle.message.specs.Faults.{fault_to}
use Rattle.message.proofs.Laws.{passed_to}
use Rattle.layout.specs.Layout.{kind_length, offset_of, fore_length, bytes_of, numbers_in}
use Rattle.layout.proofs.Laws.{message_place, short_refused, long_refused, bytes_length}
use Rattle.frame.specs.Parts.{Frame, Fault}
use Rattle.frame.specs.Reading.{Whole, Refused}
use Rattle.frame.specs.Reading.{told_length, told_kind, read_refusals, read_answer, read_offset}
use Rattle.frame.specs.Reading.{read_of}
use Rattle.frame.specs.Writing.{frame_of, write_answer, frames_in, frames_of, answer_to}
use Rattle.frame.specs.Parts.{found_of, reading_of, answer_of}

-- ---- reading

-- with a cell that fits, 4 bytes and a known kind, the length field is looked at next, and refused
-- where it is below, or above, the kind's length
module _ (z : Sizes) (s : List ℕ) (c : sizes_fit z ≡ true) (l : fore_length ≤ length s)
    (k : known_kind (told_kind s) ≡ true) where
  length_next : read_answer z s ≡ answer_by (drop 3 (read_refusals z s))
  unfolding read_answer first_of all_of
  length_next = rw (c, le-leb fore_length (length s) l, k)

  pub too_short : told_length s < kind_length (told_kind s) → read_answer z s ≡ refused_short
  too_short t = length_next ∙ short_refused _ _ (drop 5 (read_refusals z s)) t

  pub too_long : kind_length (told_kind s) < told_length s → read_answer z s ≡ refused_length
  too_long t = length_next ∙ long_refused _ _ (drop 5 (read_refusals z s)) t

-- the cell fits, and the frame is whole
pub record Tested (z : Sizes) (s : List ℕ) : Type 0 where
  pub cell : sizes_fit z ≡ true
  pub fore : leb 4 (length s) ≡ true
  pub kind : known_kind (told_kind s) ≡ true
  pub told : told_length s ≡ kind_length (told_kind s)
  pub room : leb (kind_length (told_kind s)) (length s) ≡ true

-- what is left is then the message's: its refusal, and where it is found
pub read_whole : (z : Sizes) (s : List ℕ) → Tested z s
    → read_answer z s ≡ fault_of z (numbers_in s (told_kind s))
unfolding read_answer first_of all_of fault_of
read_whole z s t =
    let len = kind_length (told_kind s) in
    rw (t.cell, t.fore, t.kind, t.told, le-leb len len (omega arith), t.room)

pub offset_whole : (z : Sizes) (s : List ℕ) → Tested z s →
    let f = numbers_in s (told_kind s) in
    read_offset z s ≡ place_by (offset_of f.kind) (refusals_of z f)
unfolding read_offset tests_in fails_at numbers_in
offset_whole z s t =
    let k = told_kind s in
    let len = kind_length k in
    rw (t.cell, t.fore, t.kind, t.told, le-leb len len (omega arith), t.room)
    (message_place (length s) k z (numbers_in s k))

-- the refusals of a message as three tests: the number of the first that fails
pub fault_number : (z : Sizes) (f : Numbers) → fault_of z f
    ≡ cond (all_hold (host_tests z f (ltb f.target z.n)))
    (cond (all_hold (tick_tests f)) (cond (party_fits f) 0 refused_party) refused_tick) refused_host
unfolding fault_of first_of all_of
fault_number z f =
    go (all_hold (host_tests z f (ltb f.target z.n))) (all_hold (tick_tests f)) (party_fits f)
  where
    go : (a b c : Bool)
        → first_of (unless a refused_host ∷ unless b refused_tick ∷ unless c refused_party ∷ [])
        ≡ cond a (cond b (cond c 0 refused_party) refused_tick) refused_host
    go true true true = refl
    go true true false = refl
    go true false c = refl
    go false b c = refl

-- reading makes the message of what is found
pub found_read : (z : Sizes) (s : List ℕ) → read_of z s ≡ reading_of (found_of z s)
unfolding read_of found_of
found_read z s = go (eqb (read_answer z s) 0)
  where
    go : (b : Bool) →
        let f = numbers_in s (told_kind s) in
        let l = kind_length (told_kind s) in
        let a = read_answer z s in
        let at = read_offset z s in
        cond b (Whole (message_of f) l) (Refused a at)
        ≡ reading_of (cond b (Frame f l) (Fault a at))
    go true = refl
    go false = refl

-- ---- writing

-- each refusal in its turn, and none
pub answer_cell : (z : Sizes) (bad total room : ℕ) → sizes_fit z ≡ false
    → answer_of z bad total room ≡ refused_cell
unfolding answer_of first_of
answer_cell z bad total room c = rw c

pub answer_bad : (z : Sizes) (bad total room : ℕ) → sizes_fit z ≡ true → (bad ≡ 0 → ⊥)
    → answer_of z bad total room ≡ bad
unfolding answer_of first_of
answer_bad z bad total room c e = rw (c, ne_eqb bad 0 e)

pub answer_room : (z : Sizes) (bad total room : ℕ) → sizes_fit z ≡ true → bad ≡ 0 → room < total
    → answer_of z bad total room ≡ refused_room
unfolding answer_of first_of
answer_room z bad total room c e l = rw (c, e, lt-leb total room l)

pub answer_done : (z : Sizes) (bad total room : ℕ) → sizes_fit z ≡ true → bad ≡ 0 → total ≤ room
    → answer_of z bad total room ≡ 0
unfolding answer_of first_of
answer_done z bad total room c e l = rw (c, e, le-leb total room l)

-- with room, the answer does not depend on how much there is
pub answer_roomy : (z : Sizes) (bad total room total' room' : ℕ) → total ≤ room → total' ≤ room'
    → answer_of z bad total room ≡ answer_of z bad total' room'
unfolding answer_of
answer_roomy z bad total room total' room' l l' = rw (le-leb total room l, le-leb total' room' l')

-- what the code finds is the answer of the list of refusals
answer_found : (z : Sizes) (ks bytes : List ℕ) (total room : ℕ)
    → (first_of ks ≡ 0 → length bytes ≡ total)
    → answer_of z (first_of ks) total room
    ≡ first_of
    (unless (sizes_fit z) refused_cell
    ∷ (ks ++ (unless (leb (length bytes) room) refused_room ∷ [])))
unfolding answer_of
answer_found z ks bytes total room h =
    first_same _ _ _
    (λ _.
    first_same (first_of ks) _ _
    (λ e. ap (λ (l : ℕ). first_of (unless (leb l room) refused_room ∷ [])) (sym (h e)))
    ∙ sym (first_append ks _))

-- an answer of 0: the cell fits, nothing is refused in the message, and there is room
pub record Free (z : Sizes) (bad total room : ℕ) : Type 0 where
  pub cell : sizes_fit z ≡ true
  pub message : bad ≡ 0
  pub fits : total ≤ room

pub answer_free : (z : Sizes) (bad total room : ℕ) → answer_of z bad total room ≡ 0
    → Free z bad total room
unfolding answer_of
answer_free z bad total room e =
    let p1 = unless_passed (sizes_fit z) refused_cell _ refl e in
    let p2 = first_passed bad _ p1.1 in
    let p3 = unless_passed (leb total room) refused_room [] refl p2.1 in
    record { cell = p1.0; message = p2.0; fits = leb-true total room p3.0 }

pub cell_most : (z : Sizes) → sizes_fit z ≡ true → z.n ≤ most_hosts
cell_most z e = leb-true z.n most_hosts (both (leb 1 z.n) (leb z.n most_hosts) e).1

pub write_found : (z : Sizes) (m : Message) (room : ℕ)
    → answer_of z (fault_of z (numbers_of m)) (kind_length (numbers_of m).kind) room
    ≡ write_answer z m room
unfolding write_answer frame_of fault_of all_of
write_found z m room =
    let f = numbers_of m in
    answer_found z _ (bytes_of f) (kind_length f.kind) room (λ e. bytes_length f)

-- where the cell fits, nothing is refused in the message and its frame has room, it is written
pub write_free : (z : Sizes) (m : Message) (room : ℕ) → sizes_fit z ≡ true
    → fault_of z (numbers_of m) ≡ 0 → length (frame_of m) ≤ room → write_answer z m room ≡ 0
unfolding answer_of first_of frame_of
write_free z m room c e r =
    let f = numbers_of m in
    let l : kind_length f.kind ≤ room = omega (arith, bytes_length f, r) in
    sym (write_found z m room) ∙ rw (c, e, le-leb (kind_length f.kind) room l)

-- ---- frames to a set

pub frames_length : (f : Numbers) (hs : List ℕ)
    → length (frames_in f hs) ≡ length hs * kind_length f.kind
unfolding frames_in
frames_length f [] = sym (zero-mul (kind_length f.kind))
frames_length f (h ∷ hs) =
    let e : suc (length hs) ≡ 1 + length hs = omega arith in
    rw (length-append, bytes_length (with_target f h), frames_length f hs, e, add-mul, one-mul)

-- as many frames as the set has hosts
pub length_to : (z : Sizes) (m : Message) (set : ℕ) → fault_to z (numbers_of m) set ≡ 0
    → length (frames_of z m set) ≡ ones set * kind_length (numbers_of m).kind
unfolding frames_of
length_to z m set e =
    let f = numbers_of m in
    let b : set < 2 ^ z.n = ltb-true set (2 ^ z.n) (passed_to z f set e).target in
    frames_length f (members z.n set)
    ∙ ap (λ (k : ℕ). k * kind_length f.kind) (members_length z.n set b)

pub found_to : (z : Sizes) (m : Message) (set room : ℕ)
    → answer_of z (fault_to z (numbers_of m) set) (ones set * kind_length (numbers_of m).kind) room
    ≡ answer_to z m set room
unfolding answer_to fault_to all_of
found_to z m set room =
    let f = numbers_of m in
    answer_found z _ (frames_of z m set) (ones set * kind_length f.kind) room (length_to z m set)
