-- Worked frames: document 01's prepare request, a proposal of zeros, responses with faults, and a
-- proposal to two hosts. proofs/Examples.antt proves them. P11 and P12 stand in the joint table.
-- Assumes nothing.
use Rattle.std.specs.Prelude.{◌≡◌, List, [], ◌∷◌, ◌++◌, map, ℕ}
use Rattle.base.specs.Refusals.{done, refused_host, refused_party, refused_room, refused_short}
use Rattle.message.specs.declared.Message.{Message}
use Rattle.message.specs.declared.Message.TheVariants.{PrepareRequest, ProposeRequest}
use Rattle.message.specs.Message.{head_with}
use Rattle.message.specs.Faults.{sizes}
use Rattle.frame.specs.Reading.{Whole, Refused}
use Rattle.frame.specs.Reading.{read_of}
use Rattle.frame.specs.Writing.{frame_of, write_answer, frames_of, answer_to}

-- P11's message: a prepare request, host 0 to 2, ballot (105,0)
abbrev pub request : Message
request = PrepareRequest (head_with 0 2 (record { tick = 105; host = 0 }))

abbrev pub request_bytes : List ℕ
request_bytes = 15 ∷ 0 ∷ 1 ∷ 0 ∷ 0 ∷ 2 ∷ 105 ∷ 0 ∷ 0 ∷ 0 ∷ 0 ∷ 0 ∷ 0 ∷ 0 ∷ 0 ∷ []

-- a propose request of host 0, in a ballot of its own and with itself as the owner
abbrev pub proposal : ℕ → ℕ → ℕ → Message
proposal target tick end = ProposeRequest (record {
  head = head_with 0 target (record { tick = tick; host = 0 });
  owner = 0;
  end = record { 0 = end };
})

-- its frame, for a tick and an end of one byte
abbrev pub proposal_bytes : ℕ → ℕ → ℕ → List ℕ
proposal_bytes target tick end =
    24 ∷ 0 ∷ 4 ∷ 0 ∷ 0 ∷ target ∷ tick ∷ 0 ∷ 0 ∷ 0 ∷ 0 ∷ 0 ∷ 0 ∷ 0 ∷ 0
    ∷ 0 ∷ end ∷ 0 ∷ 0 ∷ 0 ∷ 0 ∷ 0 ∷ 0 ∷ 0 ∷ []

-- a response with a lease, host 1 to this target, ballot (105,0); the lease's ballot is this host's
-- at 104, with this owner and the end 160
abbrev pub response_bytes : ℕ → ℕ → ℕ → List ℕ
response_bytes target host owner =
    33 ∷ 0 ∷ 3 ∷ 0 ∷ 1 ∷ target ∷ 105 ∷ 0 ∷ 0 ∷ 0 ∷ 0 ∷ 0 ∷ 0 ∷ 0 ∷ 0
    ∷ 104 ∷ 0 ∷ 0 ∷ 0 ∷ 0 ∷ 0 ∷ 0 ∷ 0 ∷ host ∷ owner ∷ 160 ∷ 0 ∷ 0 ∷ 0 ∷ 0 ∷ 0 ∷ 0 ∷ 0 ∷ []

pub record Examples : Type 0 where
  pub request_written : frame_of request ≡ request_bytes
  -- zero is an ordinary tick and end
  pub zero_read : read_of (sizes 1) (proposal_bytes 0 0 0) ≡ Whole (proposal 0 0 0) 24
  pub zero_written : frame_of (proposal 0 0 0) ≡ proposal_bytes 0 0 0
  pub zero_accepted : write_answer (sizes 1) (proposal 0 0 0) 24 ≡ done
  -- a length field of 0 is 17 in each kind
  pub no_length : map (λ k. read_of (sizes 3) (0 ∷ 0 ∷ k ∷ 0 ∷ [])) (1 ∷ 2 ∷ 3 ∷ 4 ∷ 5 ∷ 6 ∷ 7 ∷ [])
      ≡ let short = Refused refused_short 0 in
      short ∷ short ∷ short ∷ short ∷ short ∷ short ∷ short ∷ []
  -- of two host numbers of n or more the first gives 5, at its offset, and alone each its own; the
  -- party of a response is its target
  pub hosts_refused : map (read_of (sizes 3))
      (response_bytes 0 3 4 ∷ response_bytes 0 3 1 ∷ response_bytes 0 1 4 ∷ [])
      ≡ Refused refused_host 23 ∷ Refused refused_host 23 ∷ Refused refused_host 24 ∷ []
  pub party_refused : read_of (sizes 3) (response_bytes 2 1 1) ≡ Refused refused_party 5
  -- an empty set writes nothing and is 0
  pub no_receivers : (answer_to (sizes 3) request 0 0 ≡ done) × (frames_of (sizes 3) request 0 ≡ [])
  -- to hosts 1 and 2, set 6: both frames end to end in a room of exactly both; 8 with a byte fewer
  pub both_written : answer_to (sizes 3) (proposal 0 105 160) 6 48 ≡ done
  pub both_frames : frames_of (sizes 3) (proposal 0 105 160) 6
      ≡ proposal_bytes 1 105 160 ++ proposal_bytes 2 105 160
  pub both_need_room : answer_to (sizes 3) (proposal 0 105 160) 6 47 ≡ refused_room
  -- a set naming a host of n or more is 5: hosts 1 and 3, set 10
  pub no_such_host : answer_to (sizes 3) (proposal 0 105 160) 10 48 ≡ refused_host
