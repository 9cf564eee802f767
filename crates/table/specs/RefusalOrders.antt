-- The order of refusals, by computed answers. In each list an entry is refused by what its number
-- says, and by the number after it too; the next entry has the first of the two mended. So the
-- answers are the documents' order, and no two neighbours in it could be exchanged. (Two pairs can
-- never apply together, and show only that both are there: a place at n or above never waits, and
-- an empty slot sends nothing. 4 and 17 exclude each other, and stand in one place.) Assumes
-- nothing.
use Rattle.std.specs.Prelude.{ℕ, ◌+◌, ◌^◌, ◌≡◌, cond, List, [], ◌∷◌, ◌++◌, map}
use Rattle.message.specs.declared.Message.{Message}
use Rattle.message.specs.declared.Message.TheVariants.{PrepareRequest}
use Rattle.message.specs.Message.{head_with}
use Rattle.message.specs.Faults.{sizes}
use Rattle.frame.specs.Reading.{read_answer, read_offset}
use Rattle.frame.specs.Writing.{write_answer, answer_to}
use Rattle.frame_c.specs.Interface.{handed_numbers, handed_answer, handed_answer_to}
use Rattle.state.specs.declared.Settings.{Settings}
use Rattle.host.specs.declared.Host.{Host}
use Rattle.host.specs.Steps.{advance_of, restart_of, start_of, release_of, receive_of}
use Rattle.slots.specs.declared.Slot.{Slot}
use Rattle.slots.specs.Slots.{slot_with, is_empty}
use Rattle.cell.specs.declared.Cell.{Cell}
use Rattle.cell.specs.declared.Event.{Event}
use Rattle.cell.specs.declared.Event.TheVariants.{AdvanceAll, AdvanceOne, Start, Deliver}
use Rattle.cell.specs.declared.Event.TheVariants.{Lose, Repeat, Restart, Release}
use Rattle.cell.specs.CellLimits.{host_at}
use Rattle.cell.specs.Events.{opening_of, event_of, with_slots}
use Rattle.cell.specs.Runs.{run}
use Rattle.table.specs.Table.{example, ballot, naming}

-- one tick more than a clock or a ballot may have
abbrev pub past_tick : ℕ
past_tick = 2 ^ 48 + 1

-- ---- frames

-- a prepare request to host 2
abbrev pub request : ℕ → ℕ → ℕ → Message
request sender tick host = PrepareRequest (head_with sender 2 (ballot tick host))

-- the bytes of one after its first two fields; `high` is the tick's seventh byte, and 1 there is
-- past the limit
abbrev pub rest : ℕ → ℕ → ℕ → List ℕ
rest sender high host = sender ∷ 2 ∷ 105 ∷ 0 ∷ 0 ∷ 0 ∷ 0 ∷ 0 ∷ high ∷ 0 ∷ host ∷ []

abbrev pub whole : List ℕ → List ℕ
whole bytes = 15 ∷ 0 ∷ 1 ∷ 0 ∷ bytes

-- lent bytes, each of them refused by a number and by the next; the second and the third have this
-- length field
abbrev pub lent : ℕ → List (List ℕ)
lent length =
    (15 ∷ 0 ∷ 9 ∷ [])
    ∷ (length ∷ 0 ∷ 9 ∷ 0 ∷ [])
    ∷ (length ∷ 0 ∷ 1 ∷ 0 ∷ [])
    ∷ (15 ∷ 0 ∷ 1 ∷ 0 ∷ 3 ∷ [])
    ∷ whole (rest 3 1 1)
    ∷ whole (rest 0 1 1)
    ∷ whole (rest 0 0 1)
    ∷ []

-- ---- settings, hosts and cells

abbrev pub settings : Settings
settings = record { n = 3; longest = 100; spread = 5 }

-- S as long as T
abbrev pub wide_settings : Settings
wide_settings = record { n = 3; longest = 100; spread = 100 }

-- the example's cell under these settings is past its limits
abbrev pub broken : Cell
broken = record { settings = wide_settings; hosts = example.hosts; slots = example.slots }

abbrev pub at104 : Cell
at104 = run example (AdvanceAll 104 ∷ [])

-- host 0 has started at 105 and has one reply; slot 1 has the one that makes a majority
abbrev pub one_reply : Cell
one_reply = run example (AdvanceAll 105 ∷ Start 0 50 ∷ Deliver 0 ∷ Deliver 1 ∷ Deliver 0 ∷ [])

-- the same with every empty slot filled, by the request to host 2 that slot 2 has
abbrev pub or_request : Slot → Slot
or_request slot = cond (is_empty slot.content) (slot_with (request 0 105 0)) slot

abbrev pub filled : Cell → Cell
filled c = with_slots c (map or_request c.slots)

abbrev pub full : Cell
full = filled one_reply

-- host 0 names itself, in the tick in which it started
abbrev pub holding : Cell
holding = run example naming

abbrev pub answer_of : Cell → Event → ℕ
answer_of c e = (event_of c e).answer

-- a host under a number that no host of the cell has
abbrev pub stranger : Host → Host
stranger h = record { number = 3; clock = h.clock; wait = h.wait; state = h.state }

abbrev pub waiting : Host
waiting = host_at at104 0

abbrev pub started : Host
started = host_at one_reply 0

-- ---- the orders

pub record RefusalOrders : Type 0 where
  -- with a length field that is too long, and with one that is too short
  pub reading : read_answer (sizes 10) [] ∷ map (read_answer (sizes 3)) (lent 16)
      ≡ 1 ∷ 2 ∷ 3 ∷ 4 ∷ 2 ∷ 5 ∷ 6 ∷ 7 ∷ []
  pub reading_short : read_answer (sizes 10) [] ∷ map (read_answer (sizes 3)) (lent 14)
      ≡ 1 ∷ 2 ∷ 3 ∷ 17 ∷ 2 ∷ 5 ∷ 6 ∷ 7 ∷ []
  -- where each of them is found, either way
  pub reading_at : (read_offset (sizes 10) [] ∷ map (read_offset (sizes 3)) (lent 16)
      ≡ 0 ∷ 3 ∷ 2 ∷ 0 ∷ 5 ∷ 4 ∷ 6 ∷ 4 ∷ [])
      × (map (read_offset (sizes 3)) (lent 14) ≡ map (read_offset (sizes 3)) (lent 16))
  pub writing : write_answer (sizes 0) (request 3 past_tick 1) 0
      ∷ write_answer (sizes 3) (request 3 past_tick 1) 0
      ∷ write_answer (sizes 3) (request 0 past_tick 1) 0
      ∷ write_answer (sizes 3) (request 0 105 1) 0
      ∷ write_answer (sizes 3) (request 0 105 0) 0
      ∷ [] ≡ 1 ∷ 5 ∷ 6 ∷ 7 ∷ 8 ∷ []
  -- to a set: host 3, then host 2
  pub writing_to : answer_to (sizes 0) (request 0 past_tick 1) 8 0
      ∷ answer_to (sizes 3) (request 0 past_tick 1) 8 0
      ∷ answer_to (sizes 3) (request 0 past_tick 1) 4 0
      ∷ answer_to (sizes 3) (request 0 105 1) 4 0
      ∷ answer_to (sizes 3) (request 0 105 0) 4 0
      ∷ [] ≡ 1 ∷ 5 ∷ 6 ∷ 7 ∷ 8 ∷ []
  -- a C host's numbers, of which the kind may be none: 3
  pub handed : handed_answer (sizes 0) (handed_numbers 9 3 2 past_tick 1 0 0 0 0) 0
      ∷ handed_answer (sizes 3) (handed_numbers 9 3 2 past_tick 1 0 0 0 0) 0
      ∷ handed_answer (sizes 3) (handed_numbers 1 3 2 past_tick 1 0 0 0 0) 0
      ∷ handed_answer (sizes 3) (handed_numbers 1 0 2 past_tick 1 0 0 0 0) 0
      ∷ handed_answer (sizes 3) (handed_numbers 1 0 2 105 1 0 0 0 0) 0
      ∷ handed_answer (sizes 3) (handed_numbers 1 0 2 105 0 0 0 0 0) 0
      ∷ [] ≡ 1 ∷ 3 ∷ 5 ∷ 6 ∷ 7 ∷ 8 ∷ []
  pub handed_to : handed_answer_to (sizes 0) (handed_numbers 9 0 0 past_tick 1 0 0 0 0) 8 0
      ∷ handed_answer_to (sizes 3) (handed_numbers 9 0 0 past_tick 1 0 0 0 0) 8 0
      ∷ handed_answer_to (sizes 3) (handed_numbers 1 0 0 past_tick 1 0 0 0 0) 8 0
      ∷ handed_answer_to (sizes 3) (handed_numbers 1 0 0 past_tick 1 0 0 0 0) 4 0
      ∷ handed_answer_to (sizes 3) (handed_numbers 1 0 0 105 1 0 0 0 0) 4 0
      ∷ handed_answer_to (sizes 3) (handed_numbers 1 0 0 105 0 0 0 0 0) 4 0
      ∷ [] ≡ 1 ∷ 3 ∷ 5 ∷ 6 ∷ 7 ∷ 8 ∷ []
  pub opening : (opening_of wide_settings past_tick).answer
      ∷ (opening_of settings past_tick).answer ∷ []
      ≡ 1 ∷ 6 ∷ []
  pub advance_all : answer_of broken (AdvanceAll 0) ∷ answer_of example (AdvanceAll 0) ∷ []
      ≡ 1 ∷ 15 ∷ []
  pub advance_one : answer_of broken (AdvanceOne 3 0)
      ∷ map (answer_of at104) (AdvanceOne 3 0 ∷ AdvanceOne 0 (2 ^ 48) ∷ AdvanceOne 0 6 ∷ [])
      ≡ 1 ∷ 5 ∷ 15 ∷ 14 ∷ []
  pub start : answer_of broken (Start 3 0)
      ∷ map (answer_of at104) (Start 3 0 ∷ Start 0 0 ∷ [])
      ++ map (answer_of full) (Start 0 0 ∷ Start 0 50 ∷ Start 1 50 ∷ [])
      ≡ 1 ∷ 5 ∷ 9 ∷ 11 ∷ 10 ∷ 13 ∷ []
  pub deliver : answer_of broken (Deliver 96) ∷ map (answer_of full) (Deliver 96 ∷ Deliver 1 ∷ [])
      ≡ 1 ∷ 12 ∷ 13 ∷ []
  pub lose : answer_of broken (Lose 96) ∷ answer_of full (Lose 96) ∷ [] ≡ 1 ∷ 12 ∷ []
  pub repeat : answer_of broken (Repeat 96) ∷ map (answer_of full) (Repeat 96 ∷ Repeat 1 ∷ [])
      ≡ 1 ∷ 12 ∷ 13 ∷ []
  pub restart : answer_of broken (Restart 3) ∷ answer_of example (Restart 3) ∷ [] ≡ 1 ∷ 5 ∷ []
  pub release : answer_of broken (Release 3)
      ∷ map (answer_of at104) (Release 3 ∷ Release 0 ∷ [])
      ++ (answer_of full (Release 0)
      ∷ answer_of (filled holding) (Release 0)
      ∷ answer_of (run (filled holding) (AdvanceAll 1 ∷ [])) (Release 0)
      ∷ []) ≡ 1 ∷ 5 ∷ 9 ∷ 18 ∷ 10 ∷ 13 ∷ []
  -- a host's own steps
  pub host_advance : (advance_of settings (stranger waiting) 0).answer
      ∷ (advance_of settings waiting 0).answer ∷ []
      ≡ 1 ∷ 15 ∷ []
  pub host_start : (start_of settings (stranger waiting) 0).answer
      ∷ (start_of settings waiting 0).answer
      ∷ (start_of settings started 0).answer
      ∷ (start_of settings started 50).answer
      ∷ [] ≡ 1 ∷ 9 ∷ 11 ∷ 10 ∷ []
  pub host_restart : (restart_of settings (stranger waiting)).answer ≡ 1
  pub host_release : (release_of settings (stranger waiting)).answer
      ∷ (release_of settings waiting).answer
      ∷ (release_of settings started).answer
      ∷ (release_of settings (host_at holding 0)).answer
      ∷ [] ≡ 1 ∷ 9 ∷ 18 ∷ 10 ∷ []
  -- as writing to its target, then 7 where the target is another host
  pub host_message : (receive_of settings (stranger waiting) (request 3 past_tick 1)).answer
      ∷ map (λ m. (receive_of settings waiting m).answer)
      (request 3 past_tick 1 ∷ request 0 past_tick 1 ∷ request 0 105 1 ∷ request 0 105 0 ∷ [])
      ≡ 1 ∷ 5 ∷ 6 ∷ 7 ∷ 7 ∷ []
