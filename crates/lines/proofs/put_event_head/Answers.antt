-- `put_event_head` puts place, kind and answer one behind the other.
use Rattle.text.proofs.Laws.{wrote_then}
use Rattle.lines.specs.Lines.{event_head}
use Rattle.lines.proofs.put_event_head.Goals as goal

pub returns-clause-wrote : goal.returns-clause-wrote
unfolding event_head
returns-clause-wrote c =
    wrote_then c.decimal.ensures
    (wrote_then (rw c.from.ensures at c.spaced.ensures)
    (rw c.from-2.ensures at c.spaced-2.ensures))
