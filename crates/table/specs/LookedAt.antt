-- How many slots events look at, by computed counts: in the example, in cells whose slots are full
-- or nearly so, in a cell of one host, and where something else refuses. Assumes nothing.
use Rattle.std.specs.Prelude.{ℕ, ◌≡◌, List, [], ◌∷◌, ◌++◌, set}
use Rattle.slots.specs.Slots.{empty_slot}
use Rattle.cell.specs.declared.Cell.{Cell}
use Rattle.cell.specs.declared.Event.{Event}
use Rattle.cell.specs.declared.Event.TheVariants.{AdvanceAll, AdvanceOne, Start, Deliver}
use Rattle.cell.specs.declared.Event.TheVariants.{Lose, Repeat, Restart, Release}
use Rattle.cell.specs.Events.{cell_of, with_slots, event_of}
use Rattle.cell.specs.Runs.{opening, run}
use Rattle.table.specs.Table.{example, naming}
use Rattle.table.specs.RefusalOrders.{one_reply, full, holding}

-- an event's answer, and its count
abbrev pub looked_by : Cell → Event → List ℕ
looked_by c e = (event_of c e).answer ∷ (event_of c e).looked ∷ []

-- the counts of a run, one an event
unfoldable pub looked_in : Cell → List Event → List ℕ
looked_in c [] = []
looked_in c (e ∷ es) = (event_of c e).looked ∷ looked_in (cell_of (event_of c e)) es

-- every slot but these two is full
abbrev pub room_for2 : Cell
room_for2 = with_slots full (set (set full.slots 90 empty_slot) 93 empty_slot)

-- every slot but these three is full
abbrev pub room_for3 : Cell
room_for3 = with_slots full (set room_for2.slots 40 empty_slot)

-- host 0 may let go; slots 0, 2 and 3 are taken
abbrev pub may_let_go : Cell
may_let_go = run holding (AdvanceAll 1 ∷ Lose 1 ∷ [])

-- a cell of one host
abbrev pub lone : Cell
lone = opening (record { n = 1; longest = 100; spread = 5 }) 0

pub record LookedAt : Type 0 where
  -- the start fills slots 0, 1 and 2; a reply takes the slot that its request has left; the
  -- proposals take slots 0, 1 and 3, since slot 2 is taken, and the learn messages slots 0 and 1
  pub example_looks : looked_in example (naming ++ (Deliver 0 ∷ AdvanceAll 50 ∷ []))
      ≡ 0 ∷ 0 ∷ 0 ∷ 3 ∷ 1 ∷ 2 ∷ 0 ∷ 4 ∷ 1 ∷ 2 ∷ 0 ∷ 2 ∷ 0 ∷ 0 ∷ []
  -- one past the last that is filled, with nothing to spare
  pub last_filled : looked_by room_for3 (Start 1 50) ≡ 0 ∷ 94 ∷ []
  -- a repeat: up to the lowest empty slot
  pub repeated : looked_by room_for3 (Repeat 95) ++ looked_by room_for2 (Repeat 0)
      ≡ 0 ∷ 41 ∷ 0 ∷ 91 ∷ []
  -- a release to three hosts fills slots 1, 4 and 5
  pub released : looked_by may_let_go (Release 0) ≡ 0 ∷ 6 ∷ []
  -- the deciding vote of a lone host has nobody to send a learn message to
  pub lone_looks : looked_in lone (AdvanceAll 105 ∷ Start 0 50 ∷ Deliver 0 ∷ Deliver 0 ∷ Deliver 0
      ∷ Deliver 0 ∷ []) ≡ 0 ∷ 1 ∷ 1 ∷ 1 ∷ 1 ∷ 0 ∷ []
  -- 13: all 96, whether the walk filled some or none; in a delivery it had filled the freed slot
  pub all_looked : looked_by room_for2 (Start 1 50) ++ looked_by full (Start 1 50)
      ++ looked_by full (Deliver 1) ++ looked_by full (Repeat 0)
      ≡ 13 ∷ 96 ∷ 13 ∷ 96 ∷ 13 ∷ 96 ∷ 13 ∷ 96 ∷ []
  -- and then the cell is the one before it
  pub put_back : cell_of (event_of room_for2 (Start 1 50)) ≡ room_for2
  -- a reply fits where every slot is full: it takes the freed one
  pub freed_taken : looked_by full (Deliver 2) ≡ 0 ∷ 3 ∷ []
  -- nothing to place: 0, also when every slot is full
  pub nothing_placed : looked_by full (AdvanceAll 1) ++ looked_by full (Lose 95)
      ++ looked_by full (Restart 1) ++ looked_by one_reply (AdvanceOne 0 1)
      ≡ 0 ∷ 0 ∷ 0 ∷ 0 ∷ 0 ∷ 0 ∷ 0 ∷ 0 ∷ []
  -- refused by anything but 13: 0, also when every slot is full
  pub otherwise_refused : looked_by full (Start 0 50) ++ looked_by full (Start 3 50)
      ++ looked_by full (Deliver 96) ++ looked_by full (Release 0) ++ looked_by holding (Release 0)
      ≡ 10 ∷ 0 ∷ 5 ∷ 0 ∷ 12 ∷ 0 ∷ 18 ∷ 0 ∷ 10 ∷ 0 ∷ []
