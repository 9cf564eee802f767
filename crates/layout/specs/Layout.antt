-- The layout of frames: document 01's fields, their widths and their order, where a refusal is
-- found among them, and a frame's bytes as numbers and back. Assumes nothing.
use Rattle.std.specs.Prelude.{ℕ, ◌+◌, ◌^◌, ◌<◌, cond, List, [], ◌∷◌, ◌++◌, map, leb, eqb}
use Rattle.base.specs.Refusals.{test, Refusal, refusal, refused_length, refused_short}
use Rattle.wire.specs.Wire.{total, numbers_at, packed}
use Rattle.message.specs.declared.Numbers.{Numbers}
use Rattle.message.specs.Message.{prepare_response_lease, propose_request, learn}
use Rattle.message.specs.Faults.{Field, settings, lent_bytes, frame_length, kind_number, sender}
use Rattle.message.specs.Faults.{target, ballot_tick, ballot_host, accepted_tick, accepted_host}
use Rattle.message.specs.Faults.{owner}
use Rattle.message.specs.Faults.{keepers_end, holders_end}

-- how many bytes a field takes
abbrev pub width_of : Field → ℕ
width_of settings = 0
width_of lent_bytes = 0
width_of frame_length = 2
width_of kind_number = 2
width_of sender = 1
width_of target = 1
width_of ballot_tick = 8
width_of ballot_host = 1
width_of accepted_tick = 8
width_of accepted_host = 1
width_of owner = 1
width_of keepers_end = 8
width_of holders_end = 8

-- the fields that every frame begins with
abbrev pub common : List Field
common = frame_length ∷ kind_number ∷ sender ∷ target ∷ ballot_tick ∷ ballot_host ∷ []

-- those after them
unfoldable pub more_of : ℕ → List Field
more_of k =
    cond (eqb k prepare_response_lease) (accepted_tick ∷ accepted_host ∷ owner ∷ keepers_end ∷ [])
    (cond (eqb k propose_request) (owner ∷ keepers_end ∷ [])
    (cond (eqb k learn) (owner ∷ holders_end ∷ []) []))

abbrev pub fields_of : ℕ → List Field
fields_of k = common ++ more_of k

abbrev pub widths : List Field → List ℕ
widths fs = map width_of fs

-- the length of a kind's frames
unfoldable pub kind_length : ℕ → ℕ
kind_length k = total (widths (fields_of k))

-- a number for each field, to tell them apart
abbrev pub field_number : Field → ℕ
field_number settings = 0
field_number lent_bytes = 1
field_number frame_length = 2
field_number kind_number = 3
field_number sender = 4
field_number target = 5
field_number ballot_tick = 6
field_number ballot_host = 7
field_number accepted_tick = 8
field_number accepted_host = 9
field_number owner = 10
field_number keepers_end = 11
field_number holders_end = 12

-- ---- where each field stands

-- where a field stands among these, the first of them at 0
unfoldable pub offset_in : List Field → Field → ℕ
offset_in [] x = 0
offset_in (f ∷ fs) x = cond (eqb (field_number f) (field_number x)) 0 (width_of f + offset_in fs x)

-- in a frame of kind k
abbrev pub offset_of : ℕ → Field → ℕ
offset_of k x = offset_in (fields_of k) x

-- where a refusal is found, with this many bytes lent and a frame of kind k: bytes are missing past
-- all that were lent; the settings beside them count as a field of no bytes before the first
abbrev pub place_in : ℕ → ℕ → Field → ℕ
place_in lent k x =
    cond (eqb (field_number x) (field_number lent_bytes)) lent
    (offset_in (settings ∷ fields_of k) x)

-- where length and kind stand, and how long these two are, which every frame begins with
abbrev pub length_offset : ℕ
length_offset = 0

abbrev pub kind_offset : ℕ
kind_offset = 2

abbrev pub fore_length : ℕ
fore_length = 4

-- 17 or 4: a length field below or above the length that it has to tell
abbrev pub length_refusals : ℕ → ℕ → List (Refusal Field)
length_refusals told right =
    refusal refused_short (test frame_length (leb right told) ∷ [])
    ∷ refusal refused_length (test frame_length (leb told right) ∷ [])
    ∷ []

-- ---- numbers as bytes

-- what a message's numbers have in a field
abbrev pub value_of : Numbers → Field → ℕ
value_of f settings = 0
value_of f lent_bytes = 0
value_of f frame_length = kind_length f.kind
value_of f kind_number = f.kind
value_of f sender = f.sender
value_of f target = f.target
value_of f ballot_tick = f.ballot.tick
value_of f ballot_host = f.ballot.host
value_of f accepted_tick = f.accepted.tick
value_of f accepted_host = f.accepted.host
value_of f owner = f.owner
value_of f keepers_end = f.keepers.0
value_of f holders_end = f.holders.0

-- the bytes of some of a message's fields
abbrev pub bytes_in : Numbers → List Field → List ℕ
bytes_in f fs = packed (widths fs) (map (value_of f) fs)

-- a frame
unfoldable pub bytes_of : Numbers → List ℕ
bytes_of f = bytes_in f (fields_of f.kind)

-- ---- bytes as numbers

-- the value of a field where fields have these values; 0 where it is none of them
unfoldable pub value_in : List Field → List ℕ → Field → ℕ
value_in [] vs x = 0
value_in (f ∷ fs) [] x = 0
value_in (f ∷ fs) (v ∷ vs) x = cond (eqb (field_number f) (field_number x)) v (value_in fs vs x)

-- the numbers of a message of kind k whose fields have these values
abbrev pub numbers_from : ℕ → List Field → List ℕ → Numbers
numbers_from k fs vs = record {
  kind = k;
  sender = value_in fs vs sender;
  target = value_in fs vs target;
  ballot = record { tick = value_in fs vs ballot_tick; host = value_in fs vs ballot_host };
  accepted = record { tick = value_in fs vs accepted_tick; host = value_in fs vs accepted_host };
  owner = value_in fs vs owner;
  keepers = record { 0 = value_in fs vs keepers_end };
  holders = record { 0 = value_in fs vs holders_end };
}

-- the numbers in a frame of kind k at the start of s
unfoldable pub numbers_in : List ℕ → ℕ → Numbers
numbers_in s k = numbers_from k (fields_of k) (numbers_at s 0 (widths (fields_of k)))

-- ---- what a frame can hold

-- numbers that fit their fields
pub record Fit (f : Numbers) : Type 0 where
  pub sender : f.sender < 256
  pub target : f.target < 256
  pub ballot_tick : f.ballot.tick < 2 ^ 64
  pub ballot_host : f.ballot.host < 256
  pub accepted_tick : f.accepted.tick < 2 ^ 64
  pub accepted_host : f.accepted.host < 256
  pub owner : f.owner < 256
  pub keepers_end : f.keepers.0 < 2 ^ 64
  pub holders_end : f.holders.0 < 2 ^ 64
