-- What a C host is handed of reading and writing: numbers and lent bytes. Assumes nothing.
use Rattle.std.specs.Prelude.{◌≡◌, ℕ, cond, List, [], ◌∷◌, length, eqb}
use Rattle.base.specs.Refusals.{test, Refusal, refusal, answer_by, refused_kind}
use Rattle.message.specs.declared.Sizes.{Sizes}
use Rattle.message.specs.declared.Numbers.{Numbers}
use Rattle.message.specs.Message.{learn, known_kind, numbers_of, message_of}
use Rattle.message.specs.Faults.{Field, kind_number, refusals_of, refusals_to}
use Rattle.frame.specs.Reading.{Reading, Whole, Refused}
use Rattle.frame.specs.Writing.{Written, write_refusals, written_with, after_with, frame_of}
use Rattle.frame.specs.Writing.{frames_of}

-- ---- reading

-- the end that a message's kind has: the holder's in a learn message, the keepers' in any other; 0
-- where it has none
unfoldable pub end_of : Numbers → ℕ
end_of f = cond (eqb f.kind learn) f.holders.0 f.keepers.0

-- the nine numbers of a message
abbrev pub nine : Numbers → List ℕ
nine f =
    f.kind ∷ f.sender ∷ f.target ∷ f.ballot.tick ∷ f.ballot.host
    ∷ f.accepted.tick ∷ f.accepted.host ∷ f.owner ∷ end_of f ∷ []

-- what reading leaves of the lent numbers: a refusal leaves them as they were
abbrev pub numbers_after : Reading → List ℕ → List ℕ
numbers_after (Whole m l) out = nine (numbers_of m)
numbers_after (Refused k at) out = out

-- ---- writing

-- a C host's numbers; the end is the holder's in a learn message, and the keepers' in any other
unfoldable pub handed_numbers : ℕ → ℕ → ℕ → ℕ → ℕ → ℕ → ℕ → ℕ → ℕ → Numbers
handed_numbers kind sender target tick host accepted_tick accepted_host owner end = record {
  kind = kind;
  sender = sender;
  target = target;
  ballot = record { tick = tick; host = host };
  accepted = record { tick = accepted_tick; host = accepted_host };
  owner = owner;
  keepers = record { 0 = cond (eqb kind learn) 0 end };
  holders = record { 0 = cond (eqb kind learn) end 0 };
}

-- 3, for a kind that is none: after 1 and before 5
abbrev pub kind_refusal : ℕ → Refusal Field
kind_refusal kind = refusal refused_kind (test kind_number (known_kind kind) ∷ [])

-- what is handed back where writing gives w and leaves these bytes: the answer's number, the length
-- beside it, and the lent bytes afterwards
pub record Wrote (w : Written) (left : List ℕ) (r len : ℕ) (after : List ℕ) : Type 0 where
  pub number : r ≡ w.answer
  pub long : len ≡ w.len
  pub bytes : after ≡ left

-- to the message's own target
unfoldable pub handed_answer : Sizes → Numbers → ℕ → ℕ
handed_answer z f room =
    let m = message_of f in
    answer_by (write_refusals z (kind_refusal f.kind ∷ refusals_of z (numbers_of m)) (frame_of m)
    room)

unfoldable pub handed_written : Sizes → Numbers → ℕ → Written
handed_written z f room = written_with (handed_answer z f room) (frame_of (message_of f))

unfoldable pub after_handed : Sizes → Numbers → List ℕ → List ℕ
after_handed z f out = after_with (handed_answer z f (length out)) (frame_of (message_of f)) out

-- to a set of receivers
unfoldable pub handed_answer_to : Sizes → Numbers → ℕ → ℕ → ℕ
handed_answer_to z f set room =
    let m = message_of f in
    let refusals = kind_refusal f.kind ∷ refusals_to z (numbers_of m) set in
    answer_by (write_refusals z refusals (frames_of z m set) room)

unfoldable pub handed_written_to : Sizes → Numbers → ℕ → ℕ → Written
handed_written_to z f set room =
    written_with (handed_answer_to z f set room) (frames_of z (message_of f) set)

unfoldable pub after_handed_to : Sizes → Numbers → ℕ → List ℕ → List ℕ
after_handed_to z f set out =
    after_with (handed_answer_to z f set (length out)) (frames_of z (message_of f) set) out
