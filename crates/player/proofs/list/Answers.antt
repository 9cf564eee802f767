-- `list` leaves a room that is too short as it is, and else has the listing's bytes in front.
use borrow.Author.Rules.{rules}
use borrow.Author.Tests.{lt-ltb, le-ltb}
use Rattle.base.specs.Answers.{refusal_number}
use Rattle.text.proofs.Laws.{put_front, put_size}
use Rattle.listing.specs.Listing.{listed_result, listed_of, after_listing}
use Rattle.player.proofs.list.Goals as goal

pub returns-then-out-room_for-clause-gives : goal.returns-then-out-room_for-clause-gives
unfolding listed_result listed_of refusal_number
returns-then-out-room_for-clause-gives c =
    rw (← c.room_for.ensures, lt-ltb _ _ c.if-out-room_for.true)

pub returns-then-out-room_for-clause-leaves : goal.returns-then-out-room_for-clause-leaves
unfolding after_listing
returns-then-out-room_for-clause-leaves c =
    rw (← c.room_for.ensures, lt-ltb _ _ c.if-out-room_for.true)

pub returns-clause-gives : goal.returns-clause-gives
unfolding listed_result listed_of
returns-clause-gives c =
    rw (
      ← c.room_for.ensures,
      le-ltb _ _ c.if-out-room_for.false,
      put_size c.put_listing.ensures.put,
    )

pub returns-clause-leaves : goal.returns-clause-leaves
unfolding after_listing
returns-clause-leaves c =
    rw (← c.room_for.ensures, le-ltb _ _ c.if-out-room_for.false)
    (search (rules, put_front c.put_listing.ensures.put))
