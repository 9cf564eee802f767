-- What is claimed of reading and writing together, in one place; proofs/Claims.antt proves it.
-- Assumes nothing.
use Rattle.std.specs.Prelude.{◌≡◌, true, cond, List, [], ◌∷◌, ◌++◌, ℕ, ◌≤◌, ◌<◌, length, get_or}
use Rattle.std.specs.Prelude.{take, drop, eqb}
use Rattle.base.specs.Refusals.{done, refused_cell, refused_cut, refused_length, refused_party}
use Rattle.base.specs.Refusals.{refused_short, test, Refusal, refusal, answer_by}
use Rattle.base.specs.Claims.{GivenAt, Lowest}
use Rattle.quorum.specs.Sets.{is_in, members}
use Rattle.message.specs.declared.Sizes.{Sizes}
use Rattle.message.specs.declared.Message.{Message}
use Rattle.message.specs.Message.{known_kind, is_response, numbers_of, message_of, addressed_to}
use Rattle.message.specs.Faults.{Field, frame_length, sizes_fit}
use Rattle.layout.specs.Layout.{Fit, kind_length, place_in, fore_length, numbers_in}
use Rattle.frame.specs.Reading.{Reading}
use Rattle.frame.specs.Reading.{Whole, Refused}
use Rattle.frame.specs.Reading.{told_length, told_kind, refusals_with, read_refusals, read_answer}
use Rattle.frame.specs.Reading.{read_offset, read_with, read_of, number_of, length_of, refused_at}
use Rattle.frame.specs.Writing.{frame_of, write_answer, written_of, after_write}
use Rattle.frame.specs.Writing.{frames_of, answer_to, after_write_to}

-- a message written to each of these hosts in turn by itself, each where the one before it ended
unfoldable pub in_turn : Sizes → Message → List ℕ → List ℕ → List ℕ
in_turn z m [] out = out
in_turn z m (h ∷ hs) out =
    let one = addressed_to m h in
    let end = length (frame_of one) in
    take end (after_write z one out) ++ in_turn z m hs (drop end (after_write z one out))

-- what was refused before 17 was told from 4: a length field that is not the kind's
abbrev pub former_refusals : Sizes → List ℕ → List (Refusal Field)
former_refusals z s =
    let same = eqb (told_length s) (kind_length (told_kind s)) in
    refusals_with (refusal refused_length (test frame_length same ∷ []) ∷ []) z s

-- what was read then; a refusal had no offset, and has 0 here
abbrev pub former_of : Sizes → List ℕ → Reading
former_of z s =
    let k = told_kind s in
    read_with (answer_by (former_refusals z s)) 0 (message_of (numbers_in s k)) (kind_length k)

-- 17 taken as 4, and the offset left out
abbrev pub former_number : ℕ → ℕ
former_number k = cond (eqb k refused_short) refused_length k

abbrev pub as_former : Reading → Reading
as_former (Whole m l) = Whole m l
as_former (Refused k at) = Refused (former_number k) 0

-- where fields stand in these lent bytes
abbrev pub places_in : List ℕ → Field → ℕ
places_in s = place_in (length s) (told_kind s)

pub record Claims : Type 0 where
  -- reading's number is that of the first refusal that applies
  pub number : (z : Sizes) (s : List ℕ) → number_of (read_of z s) ≡ read_answer z s
  -- 17 and 4: in a frame of a known kind a length below, and above, that of the kind
  pub too_short : (z : Sizes) (s : List ℕ) → sizes_fit z ≡ true → fore_length ≤ length s
      → known_kind (told_kind s) ≡ true → told_length s < kind_length (told_kind s)
      → read_answer z s ≡ refused_short
  pub too_long : (z : Sizes) (s : List ℕ) → sizes_fit z ≡ true → fore_length ≤ length s
      → known_kind (told_kind s) ≡ true → kind_length (told_kind s) < told_length s
      → read_answer z s ≡ refused_length
  -- with 17 taken as 4 reading is that of before
  pub former : (z : Sizes) (s : List ℕ) → as_former (read_of z s) ≡ former_of z s
  -- its length is that of the kind's frames, and 0 where it is refused
  pub read_length : (z : Sizes) (s : List ℕ)
      → length_of (read_of z s) ≡ cond (eqb (read_answer z s) done) (kind_length (told_kind s)) 0
  -- its offset is that of the field at fault, and 0 where nothing is refused
  pub offset : (z : Sizes) (s : List ℕ)
      → refused_at (read_of z s) ≡ cond (eqb (read_answer z s) done) 0 (read_offset z s)
  -- a field there gives reading's number, and none at a lower offset does
  pub offset_given : (z : Sizes) (s : List ℕ) → (read_answer z s ≡ done → ⊥)
      → GivenAt (places_in s) (read_refusals z s) (read_answer z s) (read_offset z s)
  pub offset_lowest : (z : Sizes) (s : List ℕ)
      → Lowest (places_in s) (read_refusals z s) (read_answer z s) (read_offset z s)
  -- it is 0 for the settings (1), the number of bytes lent for both forms of 2, and the sender's or
  -- the target's for the party (7)
  pub offset_settings : (z : Sizes) (s : List ℕ) → read_answer z s ≡ refused_cell
      → read_offset z s ≡ 0
  pub offset_cut : (z : Sizes) (s : List ℕ) → read_answer z s ≡ refused_cut
      → read_offset z s ≡ length s
  pub offset_party : (z : Sizes) (s : List ℕ) → read_answer z s ≡ refused_party
      → read_offset z s ≡ cond (is_response (told_kind s)) 5 4
  -- but for 2 it lies within the bytes lent, if there are any; without one there is only 1 or 2
  pub offset_within : (z : Sizes) (s : List ℕ) → 0 < length s → (read_answer z s ≡ done → ⊥)
      → (read_answer z s ≡ refused_cut → ⊥) → read_offset z s < length s
  -- unless bytes are missing (2), those that follow change nothing
  pub rest_unread : (z : Sizes) (s t : List ℕ) → (read_answer z s ≡ refused_cut → ⊥)
      → read_of z (s ++ t) ≡ read_of z s
  -- what was written is read: the message, and the length that writing gave
  pub write_read : (z : Sizes) (m : Message) (out : List ℕ) → write_answer z m (length out) ≡ done
      → read_of z (after_write z m out) ≡ Whole m (written_of z m (length out)).len
  -- what is read can be written, and the length that reading gave is that of the message's frame
  pub read_write : (z : Sizes) (s : List ℕ) (m : Message) (l : ℕ) → read_of z s ≡ Whole m l
      → (l ≡ length (frame_of m)) × (write_answer z m l ≡ done)
  -- bytes that are read as a message begin with the frame of that message, byte for byte
  pub read_only : (s : List ℕ) → ((i : ℕ) → get_or s i 0 < 256) → (z : Sizes) (m : Message) (l : ℕ)
      → read_of z s ≡ Whole m l → take l s ≡ frame_of m
  -- two cells that both read some bytes read the same message from them
  pub cells_alike : (z z' : Sizes) (s : List ℕ) (m m' : Message) (l l' : ℕ)
      → read_of z s ≡ Whole m l
      → read_of z' s ≡ Whole m' l' → (m ≡ m') × (l ≡ l')
  -- two messages whose numbers fit their fields never share a frame
  pub frames_apart : (m m' : Message) → Fit (numbers_of m) → Fit (numbers_of m')
      → frame_of m ≡ frame_of m' → m ≡ m'
  -- where writing to a set answers 0, it leaves what writing to each of its hosts in turn leaves
  pub set_in_turn : (z : Sizes) (m : Message) (set : ℕ) (out : List ℕ)
      → answer_to z m set (length out) ≡ done
      → after_write_to z m set out ≡ in_turn z m (members z.n set) out
  -- and to no host that the set names is the message refused where its frame has room
  pub each_written : (z : Sizes) (m : Message) (set room h : ℕ) → answer_to z m set room ≡ done
      → is_in set h ≡ true → (room' : ℕ) → length (frame_of (addressed_to m h)) ≤ room'
      → write_answer z (addressed_to m h) room' ≡ done
  -- the other way round, for a set that names a host: where the message is written to each that it
  -- names, and there is room for all the frames, writing to the set answers 0
  pub set_written : (z : Sizes) (m : Message) (set room : ℕ) → 0 < set
      → ((h : ℕ) → is_in set h ≡ true → write_answer z (addressed_to m h) room ≡ done)
      → length (frames_of z m set) ≤ room → answer_to z m set room ≡ done
  -- writing to an empty set answers as writing to the ballot's host does where its frame has room
  pub empty_written : (z : Sizes) (m : Message) (room room' : ℕ) →
      let own = addressed_to m (numbers_of m).ballot.host in
      length (frame_of own) ≤ room' → answer_to z m 0 room ≡ write_answer z own room'
  -- writing to a set does not look at the message's own target
  pub target_unread : (z : Sizes) (m : Message) (h set room : ℕ)
      → (answer_to z (addressed_to m h) set room ≡ answer_to z m set room)
      × (frames_of z (addressed_to m h) set ≡ frames_of z m set)
