-- `play` runs the events from its first record on. The loop's state is `Going`; a line's names are
-- written one by one.
use mathlib.Core.Path.{◌≡◌}
use Prim.Native.Nat.{◌+◌, ◌-◌, ◌*◌, ◌≤◌}
use lib.ListN.{length}
use Rattle.text.proofs.Laws.{Todo}
use Rattle.placing.specs.Parts.{Frees}
use Rattle.record.specs.Read.{numbered_record}
use Rattle.run.specs.Parts.{ahead}
use Rattle.run.proofs.Playing.{Going}
use Rattle.run.proofs.Turn.{due}
use Rattle.run.proofs.play.Given as goal

-- each name takes 4 bytes at most
abbrev pub invariant-loop-host : goal.invariant-loop-host
invariant-loop-host l =
    let hosts = l.hosts in
    (l.host-index-end ≡ l.n) × (length l.page.out.now ≡ length l.initial.page.out.now)
    × (l.page.out.ghost_name ≡ l.initial.page.out.ghost_name)
    × (l.page.at + 4 * (l.n - l.host-index) ≤ l.initial.page.at + 4 * l.n)
    × Todo l.page.out.now l.page.at (due hosts l.n l.host-index) l.initial.page.out.now
    l.initial.page.at (due hosts l.n 0)

abbrev pub invariant-loop-r : goal.invariant-loop-r
invariant-loop-r l =
    Frees l.running.cell.slots l.running.free × (l.page.at ≡ l.w.pos)
    × (l.page.out.ghost_name ≡ l.initial.page.out.ghost_name)
    × Going l.fn.cell (numbered_record l.initial.r) l.run l.initial.page.out.now
    l.initial.page.at l.running.cell (numbered_record l.r) l.page.out.now l.w

abbrev pub decreases-loop-r : goal.decreases-loop-r
decreases-loop-r l = ahead l.run (numbered_record l.r)
