-- `put_line` puts the head of an event's line, the names and the line's end, one after the other.
use native.Mathlib.Omega.{arith}
use Rattle.text.proofs.Laws.{wrote_then}
use Rattle.listing.specs.Parts.{walked_to}
use Rattle.listing.proofs.put_line.Goals as goal

pub returns : goal.returns
unfolding walked_to
returns c =
    let h = c.put_line_head.ensures in
    let m = c.put_names.ensures in
    let b = c.byte.ensures in
    record {
      wrote = wrote_then h.wrote (wrote_then m.wrote b);
      walk = c.walked.ensures;
      short = omega (arith, h.short, m.short, b.put.past, c.requires.few);
    }
