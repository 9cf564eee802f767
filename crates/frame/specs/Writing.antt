-- What writing gives and leaves: to the message's own target, and to a set of receivers. Assumes
-- nothing.
use Rattle.std.specs.Prelude.{ℕ, cond, List, [], ◌∷◌, ◌++◌, length, drop, leb, eqb}
use Rattle.std.specs.declared.result.Result.{Result}
use Rattle.base.specs.declared.Refusal.{Refusal as Code}
use Rattle.base.specs.Answers.{refusal_number}
use Rattle.base.specs.Refusals.{test, Refusal, refusal, answer_by, done, refused_cell, refused_room}
use Rattle.quorum.specs.Sets.{members}
use Rattle.message.specs.declared.Sizes.{Sizes}
use Rattle.message.specs.declared.Numbers.{Numbers}
use Rattle.message.specs.declared.Message.{Message}
use Rattle.message.specs.Message.{numbers_of, with_target}
use Rattle.message.specs.Faults.{sizes_fit, Field, settings, lent_bytes, refusals_of, refusals_to}
use Rattle.layout.specs.Layout.{bytes_of}

-- what writing gives: the answer's number, and how many bytes were written
pub record Written : Type 0 where
  pub answer : ℕ
  pub len : ℕ

-- this paper's number and length for each case of the code's result
abbrev pub written_by : Result ℕ Code → Written
written_by (Result.Ok len) = record { answer = done; len = len }
written_by (Result.Err k) = record { answer = refusal_number k; len = 0 }

-- 1, then 5, 6, 7 of the message, then 8
abbrev pub write_refusals : Sizes → List (Refusal Field) → List ℕ → ℕ → List (Refusal Field)
write_refusals z message bytes room =
    refusal refused_cell (test settings (sizes_fit z) ∷ [])
    ∷ (message ++ (refusal refused_room (test lent_bytes (leb (length bytes) room) ∷ []) ∷ []))

-- what writing these bytes gives under an answer
abbrev pub written_with : ℕ → List ℕ → Written
written_with a bytes = record { answer = a; len = cond (eqb a done) (length bytes) 0 }

-- what it leaves of the lent bytes
abbrev pub after_with : ℕ → List ℕ → List ℕ → List ℕ
after_with a bytes out = cond (eqb a done) (bytes ++ drop (length bytes) out) out

-- ---- to the message's own target

unfoldable pub frame_of : Message → List ℕ
frame_of m = bytes_of (numbers_of m)

-- the answer, into `room` bytes
unfoldable pub write_answer : Sizes → Message → ℕ → ℕ
write_answer z m room =
    answer_by (write_refusals z (refusals_of z (numbers_of m)) (frame_of m) room)

unfoldable pub written_of : Sizes → Message → ℕ → Written
written_of z m room = written_with (write_answer z m room) (frame_of m)

unfoldable pub after_write : Sizes → Message → List ℕ → List ℕ
after_write z m out = after_with (write_answer z m (length out)) (frame_of m) out

-- ---- to a set of receivers

-- the frames to these hosts, end to end; the message's own target is not looked at
unfoldable pub frames_in : Numbers → List ℕ → List ℕ
frames_in f [] = []
frames_in f (h ∷ hs) = bytes_of (with_target f h) ++ frames_in f hs

-- the frames to the hosts of a set, of n, receivers rising
unfoldable pub frames_of : Sizes → Message → ℕ → List ℕ
frames_of z m set = frames_in (numbers_of m) (members z.n set)

unfoldable pub answer_to : Sizes → Message → ℕ → ℕ → ℕ
answer_to z m set room =
    answer_by (write_refusals z (refusals_to z (numbers_of m) set) (frames_of z m set) room)

unfoldable pub written_to : Sizes → Message → ℕ → ℕ → Written
written_to z m set room = written_with (answer_to z m set room) (frames_of z m set)

unfoldable pub after_write_to : Sizes → Message → ℕ → List ℕ → List ℕ
after_write_to z m set out = after_with (answer_to z m set (length out)) (frames_of z m set) out
