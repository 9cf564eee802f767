-- A frame is read only as the message it was made from, and what is read can be written.
-- Assumes nothing.
use mathlib.Core.Path.{◌≡◌, refl, sym, ap, ◌∙◌}
use mathlib.Core.Bool.{Bool, true, false, cond}
use mathlib.Core.List.{List, [], ◌++◌}
use Prim.Native.Nat.{ℕ, ◌<◌}
use native.Mathlib.Omega.{arith}
use lib.ListN.{length, get_or, take}
use lib.Dec.{leb, eqb}
use borrow.Author.Tests.{leb-true, eqb-true}
use Rattle.base.specs.Refusals.{refused_cell, refused_cut, refused_kind, refused_length}
use Rattle.base.specs.Refusals.{refused_short}
use Rattle.base.specs.Lists.{all_of}
use Rattle.base.proofs.Tests.{unless_passed}
use Rattle.message.specs.declared.Sizes.{Sizes}
use Rattle.message.specs.declared.Numbers.{Numbers}
use Rattle.message.specs.declared.Message.{Message}
use Rattle.message.specs.Message.{known_kind, numbers_of, message_of}
use Rattle.message.specs.Faults.{sizes_fit, fault_of}
use Rattle.message.proofs.Laws.{message_numbers}
use Rattle.layout.specs.Layout.{Fit, kind_length, numbers_in}
use Rattle.layout.proofs.Laws.{message_back, bytes_back}
use Rattle.frame.specs.Parts.{Frame, Fault}
use Rattle.frame.specs.Reading.{Whole, Refused}
use Rattle.frame.specs.Reading.{told_length, told_kind, read_answer, read_offset, read_of}
use Rattle.frame.specs.Writing.{frame_of, write_answer}
use Rattle.frame.specs.Parts.{found_of}
use Rattle.frame.proofs.Answers.{Tested, read_whole, write_free}
use Rattle.frame.proofs.Round.{kind_back, frame_length_lem, frame_back}

-- what is read has an answer of 0, and is the message and the length that stand there
pub record Accepted (z : Sizes) (s : List ℕ) (m : Message) (l : ℕ) : Type 0 where
  pub passed : read_answer z s ≡ 0
  pub message : message_of (numbers_in s (told_kind s)) ≡ m
  pub long : kind_length (told_kind s) ≡ l

read_accepted : (z : Sizes) (s : List ℕ) (m : Message) (l : ℕ) → read_of z s ≡ Whole m l
    → Accepted z s m l
unfolding read_of
read_accepted z s m l = go (read_answer z s) (eqb (read_answer z s) 0) refl refl
  where
    go : (a : ℕ) (e : Bool) → read_answer z s ≡ a → eqb a 0 ≡ e
        → cond e (Whole (message_of (numbers_in s (told_kind s))) (kind_length (told_kind s)))
        (Refused a (read_offset z s)) ≡ Whole m l → Accepted z s m l
    go a true p q r = record { passed = p ∙ eqb-true a 0 q; message = cc; long = cc }
    go a false p q r = let absent : ◌≡◌ {A = ℕ} 0 1 = cc in absurd (omega arith)

-- an answer of 0: the cell fits, and the frame is whole
tested : (z : Sizes) (s : List ℕ) → read_answer z s ≡ 0 → Tested z s
unfolding read_answer all_of
tested z s e =
    let told = told_length s in
    let len = kind_length (told_kind s) in
    let p1 = unless_passed (sizes_fit z) refused_cell _ refl e in
    let p2 = unless_passed (leb 4 (length s)) refused_cut _ refl p1.1 in
    let p3 = unless_passed (known_kind (told_kind s)) refused_kind _ refl p2.1 in
    let p4 = unless_passed (leb len told) refused_short _ refl p3.1 in
    let p5 = unless_passed (leb told len) refused_length _ refl p4.1 in
    let p6 = unless_passed (leb len (length s)) refused_cut _ refl p5.1 in
    let same : told ≡ len =
    omega (arith, leb-true len told p4.0, leb-true told len p5.0) in
    record { cell = p1.0; fore = p2.0; kind = p3.0; told = same; room = p6.0 }

-- numbers that are found are those of a message
pub found_numbers : (z : Sizes) (s : List ℕ) (f : Numbers) (l : ℕ) → found_of z s ≡ Frame f l
    → numbers_of (message_of f) ≡ f
unfolding found_of
found_numbers z s f l = go (read_answer z s) (eqb (read_answer z s) 0) refl refl
  where
    go : (a : ℕ) (e : Bool) → read_answer z s ≡ a → eqb a 0 ≡ e
        → cond e (Frame (numbers_in s (told_kind s)) (kind_length (told_kind s)))
        (Fault a (read_offset z s)) ≡ Frame f l → numbers_of (message_of f) ≡ f
    go a true p q r =
        let same : numbers_in s (told_kind s) ≡ f = cc in
        rw (← same) (message_back s (told_kind s) (tested z s (p ∙ eqb-true a 0 q)).kind)
    go a false p q r = let absent : ◌≡◌ {A = ℕ} 0 1 = cc in absurd (omega arith)

-- bytes that are read as a message begin with the frame of that message, byte for byte
pub read_only : (s : List ℕ) → ((i : ℕ) → get_or s i 0 < 256) → (z : Sizes) (m : Message) (l : ℕ)
    → read_of z s ≡ Whole m l → take l s ≡ frame_of m
unfolding frame_of
read_only s bytes z m l q =
    let p = read_accepted z s m l q in
    let t = tested z s p.passed in
    let k = told_kind s in
    let back =
    bytes_back s k bytes t.kind (leb-true (kind_length k) (length s) t.room) refl
    t.told in
    rw (← p.message, ← p.long, message_back s k t.kind) (sym back)

-- what is read can be written, and the length that reading gave is that of the message's frame
pub read_write : (z : Sizes) (s : List ℕ) (m : Message) (l : ℕ) → read_of z s ≡ Whole m l
    → (l ≡ length (frame_of m)) × (write_answer z m l ≡ 0)
unfolding numbers_in
read_write z s m l q =
    let p = read_accepted z s m l q in
    let t = tested z s p.passed in
    let k = told_kind s in
    let f : numbers_of m ≡ numbers_in s k = rw (← p.message) (message_back s k t.kind) in
    let e : l ≡ length (frame_of m) = sym p.long
    ∙ sym (ap (λ (g : Numbers). kind_length g.kind) f) ∙ sym (frame_length_lem m) in
    let bad : fault_of z (numbers_of m) ≡ 0 =
    rw f (sym (read_whole z s t) ∙ p.passed) in
    (e, write_free z m l t.cell bad (omega (arith, e)))

-- two cells that both read some bytes read the same message from them
pub cells_alike : (z z' : Sizes) (s : List ℕ) (m m' : Message) (l l' : ℕ) → read_of z s ≡ Whole m l
    → read_of z' s ≡ Whole m' l' → (m ≡ m') × (l ≡ l')
cells_alike z z' s m m' l l' q q' =
    let p = read_accepted z s m l q in
    let p' = read_accepted z' s m' l' q' in
    (sym p.message ∙ p'.message, sym p.long ∙ p'.long)

-- two messages whose numbers fit their fields never share a frame
pub frames_apart : (m m' : Message) → Fit (numbers_of m) → Fit (numbers_of m')
    → frame_of m ≡ frame_of m' → m ≡ m'
frames_apart m m' h h' e =
    let s = frame_of m ++ [] in
    let same : frame_of m' ++ [] ≡ s = ap (λ (l : List ℕ). l ++ []) (sym e) in
    let k : (numbers_of m).kind ≡ (numbers_of m').kind =
    sym (kind_back m []) ∙ sym (ap told_kind same)
    ∙ kind_back m' [] in
    let f : numbers_of m ≡ numbers_of m' = sym (frame_back m [] h) ∙ ap (numbers_in s) k
    ∙ sym (ap (λ (l : List ℕ). numbers_in l (numbers_of m').kind) same) ∙ frame_back m' [] h' in
    sym (message_numbers m) ∙ ap message_of f ∙ message_numbers m'
