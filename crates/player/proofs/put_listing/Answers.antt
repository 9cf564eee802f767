-- `put_listing` writes the listing of any bytes: a lone stop where they are too many or their first
-- record is a fault, and else that of the settings that were read.
use mathlib.Core.Path.{ap}
use Prim.Native.Nat.{◌≤◌, ◌<◌}
use native.Mathlib.Omega.{arith}
use lib.ListN.{length}
use borrow.Author.Tests.{ltb-true, ltb-false}
use Rattle.base.proofs.Tests.{told}
use Rattle.text.specs.Parts.{HasRoom}
use Rattle.record.specs.Read.{numbered_first}
use Rattle.record.proofs.Laws.{first_there}
use Rattle.listing.specs.Listing.{longest_run, listing_room}
use Rattle.player.proofs.Opening.{room_long, room_short, listing_long}
use Rattle.player.proofs.Opening.{listing_fault, listing_opened}
use Rattle.player.proofs.put_listing.Goals as goal
use Rattle.player.proofs.put_listing.Goals.{Then-is_long, Else-is_long}

-- the run file's length, by the test
long : (c : Then-is_long) → longest_run < length c.args.run.now
long c = ltb-true _ _ (told c.is_long.ensures c.if-is_long.true)

short : (c : Else-is_long) → length c.args.run.now ≤ longest_run
short c = ltb-false _ _ (told c.is_long.ensures c.if-is_long.false)

-- the room for a listing, where it is not too long
room : (c : Else-is_long) → HasRoom c.args.page.now listing_room
room c = rw (room_short _ (short c)) at c.requires

-- a file that is too long
pub put_long-requires : goal.put_long-requires
put_long-requires c =
    rw (room_long _ (long (goal.at.put_long-requires c).Then-is_long)) at c.requires

pub returns-then-is_long : goal.returns-then-is_long
returns-then-is_long c =
    rw (listing_long _ (long (goal.at.returns-then-is_long c).Then-is_long)) c.put_long.ensures

-- a first record that is a fault
pub put_stop-requires : goal.put_stop-requires
put_stop-requires c = omega (arith, room (goal.at.put_stop-requires c).Else-is_long)

pub returns-in-Err : goal.returns-in-Err
returns-in-Err c =
    rw (listing_fault _ _ _ (short (goal.at.returns-in-Err c).Else-is_long)
    (told c.first_record.ensures (ap numbered_first c.in-Err.is)))
    (rw c.number.ensures at c.put_stop.ensures.wrote)

-- settings that were read
pub put_opened-requires : goal.put_opened-requires
put_opened-requires c =
    let here = (goal.at.put_opened-requires c).Else-is_long in (
      (first_there _ _ _ (told c.first_record.ensures (ap numbered_first c.in-Ok.is)), short here),
      room here,
    )

pub returns-in-Ok : goal.returns-in-Ok
returns-in-Ok c =
    rw (listing_opened _ _ _ (short (goal.at.returns-in-Ok c).Else-is_long)
    (told c.first_record.ensures (ap numbered_first c.in-Ok.is)))
    c.put_opened.ensures
