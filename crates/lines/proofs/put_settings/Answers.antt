-- `put_settings` puts n, T, S and the clock one behind the other.
use Rattle.text.proofs.Laws.{wrote_then}
use Rattle.lines.specs.Lines.{line_text}
use Rattle.lines.proofs.put_settings.Goals as goal

pub returns-clause-wrote : goal.returns-clause-wrote
unfolding line_text
returns-clause-wrote c =
    wrote_then (rw c.from.ensures at c.decimal.ensures)
    (wrote_then (rw c.from-2.ensures at c.spaced.ensures)
    (wrote_then (rw c.from-3.ensures at c.spaced-2.ensures) c.put_last.ensures))
