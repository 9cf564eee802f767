-- `play` runs the events from its first record on. The loop's state is `Going`; a line's names are
-- written one by one.
use mathlib.Core.Path.{◌≡◌, refl, ◌∙◌}
use Prim.Native.Nat.{◌+◌, ◌≤◌, ◌<◌}
use native.Mathlib.Omega.{arith}
use lib.ListN.{length, take}
use borrow.Author.Rules.{rules}
use Rattle.std.proofs.lemmas.List.{length-take-le, get_or-take, get_or-drop}
use Rattle.text.proofs.Laws.{todo_begin, todo_step}
use Rattle.cell.proofs.CellLimits.{n_of}
use Rattle.listing.specs.Parts.{walked_to}
use Rattle.run.proofs.Playing.{going_first, going_count, going_room, going_nearer, going_turn}
use Rattle.run.proofs.Playing.{going_end}
use Rattle.run.proofs.Turn.{due_on, line_of}
use Rattle.run.proofs.play.Goals as goal
use Rattle.run.proofs.play.Goals.{After-event, After-put_line_head}

-- how many hosts there are
few : (c : After-event) → c.event.new.self.cell.settings.n ≤ 9
few c = (n_of _ c.event.ensures.ready.sound.1).few

many : (c : After-event) → let d = c.event.new.self.cell in
    length (take d.settings.n d.hosts) ≡ d.settings.n
many c =
    let d = c.event.new.self.cell in
    length-take-le d.settings.n d.hosts
    (omega (arith, few c, c.event.ensures.ready.sound.0.hosts))

pub loop-r-init : goal.loop-r-init
loop-r-init c =
    let new = c.new-running.ensures in (
      rw new.cell new.free,
      rw c.walk_from-w.ensures refl,
      refl,
      rw (new.cell, c.walk_from-w.ensures) (going_first _ _ _ _ _ c.requires.sound),
    )

pub event-requires : goal.event-requires
event-requires c =
    record { sound = c.loop-r.invariant.3.sound; frees = c.loop-r.invariant.0 }

pub returns-in_default : goal.returns-in_default
returns-in_default c =
    record {
      plays = going_end c.loop-r.invariant.3 c.in_default.not-Event c.requires.room;
      stands = c.loop-r.invariant.1;
      same = c.loop-r.invariant.2;
    }

pub put_line_head-requires : goal.put_line_head-requires
put_line_head-requires c =
    let g = c.loop-r.invariant.3 in (
      going_count g c.in-Event.e c.in-Event.next c.in-Event.is c.requires.short,
      omega (
        arith,
        c.loop-r.invariant.1,
        going_room g c.in-Event.e c.in-Event.next c.in-Event.is c.requires.room,
      ),
    )

pub shared_ref_as_front-hosts : goal.shared_ref_as_front-hosts
shared_ref_as_front-hosts c = few (goal.at.shared_ref_as_front-hosts c).After-event

pub loop-host-init : goal.loop-host-init
loop-host-init c =
    let all = many (goal.at.loop-host-init c).After-event in
    (search (rules, all), refl, refl, omega arith, todo_begin _ _ _)

pub put_name-requires : goal.put_name-requires
put_name-requires c =
    let g = c.loop-r.invariant.3 in
    omega (
      arith,
      c.loop-host-test.true,
      c.loop-host.invariant.0,
      few (goal.at.put_name-requires c).After-event,
      c.loop-r.invariant.1,
      c.put_line_head.ensures.short,
      c.put_line_head.ensures.wrote.many,
      going_room g c.in-Event.e c.in-Event.next c.in-Event.is c.requires.room,
    )

pub loop-host-preserved : goal.loop-host-preserved
loop-host-preserved c =
    let l = c.loop-host in
    let d = c.event.new.self.cell in
    let w = c.put_name.ensures.wrote in
    let b : l.host-index < d.settings.n = omega (arith, c.loop-host-test.true, l.invariant.0) in (
      l.invariant.0,
      w.many ∙ l.invariant.1,
      w.same ∙ l.invariant.2,
      omega (arith, c.put_name.ensures.short, l.invariant.3, b),
      todo_step l.invariant.4 (due_on _ d.settings.n l.host-index _ b refl) w.put,
    )

pub byte-requires : goal.byte-requires
byte-requires c =
    let g = c.loop-r.invariant.3 in
    omega (
      arith,
      few (goal.at.byte-requires c).After-event,
      c.loop-r.invariant.1,
      c.put_line_head.ensures.short,
      c.put_line_head.ensures.wrote.many,
      going_room g c.in-Event.e c.in-Event.next c.in-Event.is c.requires.room,
    )

pub loop-r-smaller : goal.loop-r-smaller
loop-r-smaller c =
    going_nearer c.loop-r.invariant.3 c.in-Event.e c.in-Event.next c.in-Event.is _
    c.read_at-r.ensures

pub loop-r-preserved : goal.loop-r-preserved
unfolding walked_to
loop-r-preserved c =
    let g = c.loop-r.invariant.3 in
    let e = c.in-Event.e in
    let next = c.in-Event.next in
    let l = c.loop-host in
    let d = c.event.new.self.cell in
    let head = c.put_line_head.ensures in
    let all : d.settings.n ≤ l.host-index =
    omega (arith, c.loop-host-test.false, l.invariant.0) in
    let room = going_room g e next c.in-Event.is c.requires.room in
    let written =
    line_of d _ _ _ _ l.host-index (search (rules, get_or-take, get_or-drop))
    (rw c.loop-r.invariant.1 at head.wrote.put) l.invariant.4 all
    (omega (
      arith,
      few (goal.at.loop-r-preserved c).After-event,
      l.invariant.1,
      l.invariant.3,
      c.loop-r.invariant.1,
      head.short,
      head.wrote.many,
      room,
    )) c.byte.ensures.put in
    let short : c.byte.new.self.at ≤ c.loop-r.w.pos + 50 =
    omega (
      arith,
      few (goal.at.loop-r-preserved c).After-event,
      c.byte.ensures.put.past,
      l.invariant.3,
      c.loop-r.invariant.1,
      head.short,
    ) in (
      c.event.ensures.ready.frees,
      rw c.walked-w.ensures refl,
      c.byte.ensures.same ∙ l.invariant.2 ∙ head.wrote.same ∙ c.loop-r.invariant.2,
      rw c.walked-w.ensures
          (going_turn g e next c.in-Event.is d _ _ _ _ _
          (rw (← c.answer_of-answer.ensures) at c.event.ensures.is) written short
          c.read_at-r.ensures),
    )
