-- The frames written to a set of receivers are those written one by one, and where each of these is
-- written, so is the set. Assumes nothing.
use mathlib.Core.Path.{◌≡◌, refl, sym, ap, ◌∙◌}
use mathlib.Core.Bool.{true}
use mathlib.Core.List.{List, [], ◌∷◌, ◌++◌, append_assoc}
use Prim.Native.Nat.{ℕ, ◌+◌, ◌*◌, ◌≤◌, ◌<◌}
use native.Mathlib.Nat.{zero-mul}
use native.Mathlib.Omega.{arith}
use lib.Count.{ones}
use lib.ListN.{length, drop, length-append, length-drop}
use lib.Seq.{take-append_seam, drop-append_seam, drop-drop}
use Rattle.base.specs.Lists.{All}
use Rattle.quorum.specs.Sets.{Member, is_in, members}
use Rattle.quorum.proofs.Laws.{members_all, ones_zero, some_host, below_named}
use Rattle.message.specs.declared.Sizes.{Sizes}
use Rattle.message.specs.declared.Numbers.{Numbers}
use Rattle.message.specs.declared.Message.{Message}
use Rattle.message.specs.Message.{numbers_of, with_target, addressed_to}
use Rattle.message.specs.Faults.{sizes_fit, fault_of, fault_to, party_fits_to}
use Rattle.message.proofs.Laws.{numbers_to, passed_to, fault_none, fault_all, fault_each}
use Rattle.layout.specs.Layout.{kind_length, bytes_of}
use Rattle.layout.proofs.Laws.{bytes_length}
use Rattle.frame.specs.Writing.{frame_of, write_answer, after_write, frames_in, frames_of}
use Rattle.frame.specs.Writing.{answer_to, after_write_to}
use Rattle.frame.specs.Parts.{answer_of}
use Rattle.frame.specs.Claims.{in_turn}
use Rattle.frame.proofs.Answers.{answer_done, answer_roomy, Free, answer_free, write_found}
use Rattle.frame.proofs.Answers.{write_free, found_to, length_to}

-- a message to one host of a set that nothing refuses is written where its frame has room
write_one : (z : Sizes) (m : Message) (set h room : ℕ) → sizes_fit z ≡ true
    → fault_to z (numbers_of m) set ≡ 0 → Member z.n set h
    → length (frame_of (addressed_to m h)) ≤ room → write_answer z (addressed_to m h) room ≡ 0
write_one z m set h room c e i r =
    write_free z (addressed_to m h) room c
    (rw (numbers_to m h) (fault_each z (numbers_of m) set h e i)) r

frames_same : (f : Numbers) (h : ℕ) (hs : List ℕ) → frames_in (with_target f h) hs ≡ frames_in f hs
unfolding frames_in
frames_same f h [] = refl
frames_same f h (x ∷ hs) = rw (frames_same f h hs)

frame_to : (m : Message) (h : ℕ)
    → frame_of (addressed_to m h) ≡ bytes_of (with_target (numbers_of m) h)
unfolding frame_of
frame_to m h = ap bytes_of (numbers_to m h)

in-turn : (z : Sizes) (m : Message) (set : ℕ) → sizes_fit z ≡ true
    → fault_to z (numbers_of m) set ≡ 0
    → (hs : List ℕ) → All (Member z.n set) hs → (out : List ℕ)
    → length (frames_in (numbers_of m) hs) ≤ length out
    → in_turn z m hs out
    ≡ frames_in (numbers_of m) hs ++ drop (length (frames_in (numbers_of m) hs)) out
unfolding in_turn frames_in after_write All
in-turn z m set c e [] ms out k = refl
in-turn z m set c e (h ∷ hs) ms out k =
    let one = frame_of (addressed_to m h) in
    let more = frames_in (numbers_of m) hs in
    let i : bytes_of (with_target (numbers_of m) h) ≡ one = sym (frame_to m h) in
    let both : length one + length more ≤ length out = rw (i, length-append one more) at k in
    let w : write_answer z (addressed_to m h) (length out) ≡ 0 =
    write_one z m set h (length out) c e ms.0 (omega arith) in
    let room : length more ≤ length (drop (length one) out) =
    omega (arith, length-drop (length one) out) in
    rw (
      w,
      take-append_seam one (drop (length one) out),
      drop-append_seam one (drop (length one) out),
      in-turn z m set c e hs ms.1 (drop (length one) out) room,
      i,
      length-append one more,
      drop-drop (length more) (length one) out,
    )
    (sym (append_assoc one more (drop (length one + length more) out)))

-- where writing to a set answers 0, it leaves what writing to each of its hosts in turn leaves
pub set_in_turn : (z : Sizes) (m : Message) (set : ℕ) (out : List ℕ)
    → answer_to z m set (length out) ≡ 0
    → after_write_to z m set out ≡ in_turn z m (members z.n set) out
unfolding after_write_to frames_of
set_in_turn z m set out q =
    let p = answer_free z _ _ (length out) (found_to z m set (length out) ∙ q) in
    let k : length (frames_of z m set) ≤ length out =
    omega (arith, length_to z m set p.message, p.fits) in
    rw q (sym
    (in-turn z m set p.cell p.message (members z.n set) (members_all z.n set) out k))

-- and to no host that the set names is the message refused where its frame has room
pub each_written : (z : Sizes) (m : Message) (set room h : ℕ) → answer_to z m set room ≡ 0
    → is_in set h ≡ true → (room' : ℕ) → length (frame_of (addressed_to m h)) ≤ room'
    → write_answer z (addressed_to m h) room' ≡ 0
each_written z m set room h q i room' r =
    let p = answer_free z _ _ room (found_to z m set room ∙ q) in
    let b = below_named z.n set h (passed_to z (numbers_of m) set p.message).target i in
    write_one z m set h room' p.cell p.message (record { below = b; within = i }) r

-- a message that is written to each host that a set names is written to the set where there is room
-- for all the frames
pub set_written : (z : Sizes) (m : Message) (set room : ℕ) → 0 < set
    → ((h : ℕ) → is_in set h ≡ true → write_answer z (addressed_to m h) room ≡ 0)
    → length (frames_of z m set) ≤ room → answer_to z m set room ≡ 0
set_written z m set room p e l =
    let each : (h : ℕ) → is_in set h ≡ true → Free z _ _ room =
    λ h i. answer_free z _ _ room (write_found z (addressed_to m h) room ∙ e h i) in
    let one = some_host set p in
    let free : fault_to z (numbers_of m) set ≡ 0 =
    fault_all z (numbers_of m) set p (λ h i. rw (numbers_to m h) at (each h i).message) in
    let fits : ones set * kind_length (numbers_of m).kind ≤ room =
    omega (arith, length_to z m set free, l) in
    sym (found_to z m set room) ∙ answer_done z _ _ room (each one.0 one.1).cell free fits

-- writing to an empty set answers as writing to the ballot's host does where its frame has room
pub empty_written : (z : Sizes) (m : Message) (room room' : ℕ) →
    let own = addressed_to m (numbers_of m).ballot.host in
    length (frame_of own) ≤ room' → answer_to z m 0 room ≡ write_answer z own room'
unfolding frame_of
empty_written z m room room' l =
    let f = numbers_of m in
    let h = f.ballot.host in
    let own = addressed_to m h in
    let len = kind_length (numbers_of own).kind in
    let none : ones 0 * kind_length f.kind ≤ room =
    rw (ones_zero, zero-mul (kind_length f.kind)) (omega arith) in
    let fits : len ≤ room' = omega (arith, bytes_length (numbers_of own), l) in
    sym (found_to z m 0 room)
    ∙ answer_roomy z (fault_to z f 0) _ room len room' none fits
    ∙ ap (λ (bad : ℕ). answer_of z bad len room') (fault_none z f)
    ∙ ap (λ (g : Numbers). answer_of z (fault_of z g) len room') (sym (numbers_to m h))
    ∙ write_found z own room'

-- the message's own target is not looked at
pub target_unread : (z : Sizes) (m : Message) (h set room : ℕ)
    → (answer_to z (addressed_to m h) set room ≡ answer_to z m set room)
    × (frames_of z (addressed_to m h) set ≡ frames_of z m set)
unfolding answer_to frames_of party_fits_to
target_unread z m h set room = (
  rw (numbers_to m h, frames_same (numbers_of m) h (members z.n set)),
  rw (numbers_to m h, frames_same (numbers_of m) h (members z.n set)),
)
