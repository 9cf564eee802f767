-- Reading what writing wrote gives the message and the frame's length, whatever follows; and bytes
-- after a frame are not looked at. Assumes nothing.
use mathlib.Core.Path.{◌≡◌, refl, sym, ap, ◌∙◌}
use mathlib.Core.Bool.{Bool, true, false, cond}
use mathlib.Core.List.{List, ◌++◌}
use Prim.Native.Nat.{ℕ, ◌+◌, ◌≤◌}
use native.Mathlib.Omega.{arith}
use lib.ListN.{length, length-append, drop}
use lib.Dec.{leb, eqb}
use borrow.Author.Tests.{ltb-true, leb-true, eqb-true, le-leb}
use Rattle.base.specs.Refusals.{first_of, tests_in, fails_at}
use Rattle.base.specs.Lists.{all_of}
use Rattle.base.proofs.Tests.{by_test}
use Rattle.wire.specs.Wire.{le, number_at, total, packed}
use Rattle.wire.proofs.Laws.{number_within}
use Rattle.message.specs.declared.Sizes.{Sizes}
use Rattle.message.specs.declared.Numbers.{Numbers}
use Rattle.message.specs.declared.Message.{Message}
use Rattle.message.specs.declared.Message.TheVariants.{PrepareRequest, PrepareResponseEmpty}
use Rattle.message.specs.declared.Message.TheVariants.{PrepareResponseLease, ProposeRequest}
use Rattle.message.specs.declared.Message.TheVariants.{ProposeResponse, Learn, ReleaseRequest}
use Rattle.message.specs.Message.{last_tick, last_end, known_kind, numbers_of}
use Rattle.message.specs.Faults.{sizes_fit, fault_of}
use Rattle.message.proofs.Laws.{fault_passed, kind_known, message_numbers}
use Rattle.layout.specs.Layout.{Fit, more_of, kind_length, offset_in, bytes_of, numbers_in}
use Rattle.layout.specs.Parts.{head_length}
use Rattle.layout.proofs.Laws.{length_least, bytes_length, numbers_back, numbers_whole}
use Rattle.frame.specs.Reading.{Whole, Refused}
use Rattle.frame.specs.Reading.{told_length, told_kind, read_answer, read_offset, read_of}
use Rattle.frame.specs.Reading.{number_of, length_of, refused_at}
use Rattle.frame.specs.Writing.{frame_of, write_answer, written_of, after_write}
use Rattle.frame.proofs.Answers.{Tested, read_whole, offset_whole, answer_free, cell_most}
use Rattle.frame.proofs.Answers.{write_found}

-- ---- the number, the length and the offset that reading gives

-- reading's number is that of the first refusal that applies
pub read_number : (z : Sizes) (s : List ℕ) → number_of (read_of z s) ≡ read_answer z s
unfolding read_of
read_number z s =
    let a = read_answer z s in
    by_test (λ r. number_of r ≡ a) (eqb a 0) (Whole _ _) (Refused a _) (λ e. sym (eqb-true a 0 e))
    (λ _. refl)

-- its length is that of the kind's frames, and 0 where it is refused
pub read_length : (z : Sizes) (s : List ℕ)
    → length_of (read_of z s) ≡ cond (eqb (read_answer z s) 0) (kind_length (told_kind s)) 0
unfolding read_of
read_length z s =
    let a = read_answer z s in
    let l = kind_length (told_kind s) in
    by_test (λ r. length_of r ≡ cond (eqb a 0) l 0) (eqb a 0) (Whole _ l) (Refused a _) (λ e. rw e)
    (λ e. rw e)

-- its offset is that of the field at fault, and 0 where nothing is refused
pub read_offset_lem : (z : Sizes) (s : List ℕ)
    → refused_at (read_of z s) ≡ cond (eqb (read_answer z s) 0) 0 (read_offset z s)
unfolding read_of
read_offset_lem z s =
    let a = read_answer z s in
    let at = read_offset z s in
    by_test (λ r. refused_at r ≡ cond (eqb a 0) 0 at) (eqb a 0) (Whole _ _) (Refused a at)
    (λ e. rw e) (λ e. rw e)

-- ---- written, then read

-- what the checks let through fits its field
pub checked_fit : (z : Sizes) (f : Numbers) → sizes_fit z ≡ true → fault_of z f ≡ 0 → Fit f
unfolding last_tick last_end
checked_fit z f c e =
    let n9 = cell_most z c in
    let p = fault_passed z f e in
    record {
      sender = omega (arith, p.sender);
      target = omega (arith, ltb-true f.target z.n p.target);
      ballot_tick = omega (arith, p.ballot_tick);
      ballot_host = omega (arith, p.ballot_host);
      accepted_tick = omega (arith, p.accepted_tick);
      accepted_host = omega (arith, p.accepted_host);
      owner = omega (arith, p.owner);
      keepers_end = omega (arith, p.keepers_end);
      holders_end = omega (arith, p.holders_end);
    }

-- a frame's first two fields
pub kind_back : (m : Message) (t : List ℕ) → told_kind (frame_of m ++ t) ≡ (numbers_of m).kind
unfolding frame_of bytes_of numbers_of kind_length more_of total packed le number_at
kind_back (PrepareRequest h) t = refl
kind_back (PrepareResponseEmpty h) t = refl
kind_back (PrepareResponseLease m) t = refl
kind_back (ProposeRequest m) t = refl
kind_back (ProposeResponse h) t = refl
kind_back (Learn m) t = refl
kind_back (ReleaseRequest h) t = refl

length_back : (m : Message) (t : List ℕ)
    → told_length (frame_of m ++ t) ≡ kind_length (numbers_of m).kind
unfolding frame_of bytes_of numbers_of kind_length more_of total packed le number_at
length_back (PrepareRequest h) t = refl
length_back (PrepareResponseEmpty h) t = refl
length_back (PrepareResponseLease m) t = refl
length_back (ProposeRequest m) t = refl
length_back (ProposeResponse h) t = refl
length_back (Learn m) t = refl
length_back (ReleaseRequest h) t = refl

pub frame_length_lem : (m : Message) → length (frame_of m) ≡ kind_length (numbers_of m).kind
unfolding frame_of
frame_length_lem m = bytes_length (numbers_of m)

pub frame_back : (m : Message) (t : List ℕ) → Fit (numbers_of m)
    → numbers_in (frame_of m ++ t) (numbers_of m).kind ≡ numbers_of m
unfolding frame_of
frame_back m t h = numbers_back m t h

-- a message in which nothing is refused is read from its frame, whatever follows
pub read_frame : (z : Sizes) (m : Message) (t : List ℕ) → sizes_fit z ≡ true
    → fault_of z (numbers_of m) ≡ 0 → read_of z (frame_of m ++ t) ≡ Whole m (length (frame_of m))
unfolding read_of
read_frame z m t c e =
    let s = frame_of m ++ t in
    let len = kind_length (numbers_of m).kind in
    let k : head_length ≤ len = length_least (numbers_of m).kind in
    let l : length s ≡ len + length t = length-append (frame_of m) t
    ∙ ap (λ (x : ℕ). x + length t) (frame_length_lem m) in
    let a = kind_back m t in
    let back : numbers_in s (numbers_of m).kind ≡ numbers_of m =
    frame_back m t (checked_fit z (numbers_of m) c e) in
    let w =
    read_whole z s (record {
      cell = c;
      fore = le-leb 4 (length s) (omega arith);
      kind = rw a (kind_known m);
      told = rw a (length_back m t);
      room = rw a (le-leb len (length s) (omega arith));
    }) in
    rw (w, a, back, e, message_numbers m, frame_length_lem m)

-- where writing answers 0, reading what it left gives the message and the length that writing gave
pub write_read : (z : Sizes) (m : Message) (out : List ℕ) → write_answer z m (length out) ≡ 0
    → read_of z (after_write z m out) ≡ Whole m (written_of z m (length out)).len
unfolding after_write written_of
write_read z m out q =
    let p = answer_free z _ _ (length out) (write_found z m (length out) ∙ q) in
    rw q (read_frame z m (drop (length (frame_of m)) out) p.cell p.message)

-- ---- what follows is not looked at

-- the told length is below that of the kind's frames, or above it, or it is that one
pub by_length : (P : Type 0) (told len : ℕ) → (leb len told ≡ false → P)
    → (leb len told ≡ true → leb told len ≡ false → P) → (told ≡ len → P) → P
by_length P told len below above same =
    go (leb len told) (leb told len) refl refl
  where
    go : (a b : Bool) → leb len told ≡ a → leb told len ≡ b → P
    go false b p q = below p
    go true false p q = above p q
    go true true p q = same (omega (arith, leb-true len told p, leb-true told len q))

module _ (z : Sizes) (s t : List ℕ) where
  whole_rest : leb 4 (length s) ≡ true → sizes_fit z ≡ true → (read_answer z s ≡ 2 → ⊥)
      → read_of z (s ++ t) ≡ read_of z s
  unfolding read_of read_answer read_offset first_of all_of tests_in fails_at offset_in
  whole_rest four c h =
      kinds (known_kind (told_kind s)) refl
    where
      long : length s ≤ length (s ++ t)
      long = omega (arith, length-append s t)

      four' : leb 4 (length (s ++ t)) ≡ true
      four' = le-leb 4 (length (s ++ t)) (omega (arith, long, leb-true 4 (length s) four))

      kind : told_kind (s ++ t) ≡ told_kind s
      kind = number_within s t 2 2 (leb-true 4 (length s) four)

      told_length_lem : told_length (s ++ t) ≡ told_length s
      told_length_lem = number_within s t 0 2 (omega (arith, leb-true 4 (length s) four))

      len : ℕ
      len = kind_length (told_kind s)

      rooms : known_kind (told_kind s) ≡ true → told_length s ≡ len
          → (r : Bool) → leb len (length s) ≡ r → read_of z (s ++ t) ≡ read_of z s
      rooms k e true r =
          let fits = leb-true len (length s) r in
          let r' = le-leb len (length (s ++ t)) (omega (arith, long, fits)) in
          let one : Tested z s = record { cell = c; fore = four; kind = k; told = e; room = r } in
          let two : Tested z (s ++ t) =
          record {
            cell = c;
            fore = four';
            kind = rw kind k;
            told = rw (kind, told_length_lem) e;
            room = rw kind r';
          } in
          let same = numbers_whole s t (told_kind s) fits in
          rw (
            read_whole z (s ++ t) two,
            offset_whole z (s ++ t) two,
            read_whole z s one,
            offset_whole z s one,
            kind,
            same,
          )
      rooms k e false r =
          absurd (h (rw (c, four, k, e, le-leb len len (omega arith), r)))

      kinds : (k : Bool) → known_kind (told_kind s) ≡ k → read_of z (s ++ t) ≡ read_of z s
      kinds false k = rw (c, four, four', kind, k)
      kinds true k =
          by_length _ (told_length s) len (λ p. rw (c, four, four', kind, told_length_lem, k, p))
          (λ p q. rw (c, four, four', kind, told_length_lem, k, p, q))
          (λ e. rooms k e (leb len (length s)) refl)

  -- unless bytes are missing (2), those that follow change nothing
  pub rest_unread : (read_answer z s ≡ 2 → ⊥) → read_of z (s ++ t) ≡ read_of z s
  unfolding read_of read_answer read_offset first_of all_of tests_in fails_at offset_in
  rest_unread h = cells (sizes_fit z) refl
    where
      fours : sizes_fit z ≡ true → (l : Bool) → leb 4 (length s) ≡ l
          → read_of z (s ++ t) ≡ read_of z s
      fours c true l = whole_rest l c h
      fours c false l = absurd (h (rw (c, l)))

      cells : (c : Bool) → sizes_fit z ≡ c → read_of z (s ++ t) ≡ read_of z s
      cells true c = fours c (leb 4 (length s)) refl
      cells false c = rw c
