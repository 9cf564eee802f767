-- `put_stop` puts the word, the place, the number and the offset one behind the other.
use Rattle.text.proofs.Laws.{wrote_then}
use Rattle.lines.specs.Lines.{line_text}
use Rattle.lines.proofs.put_stop.Goals as goal

pub returns-clause-wrote : goal.returns-clause-wrote
unfolding line_text
returns-clause-wrote c =
    wrote_then c.word.ensures
    (wrote_then c.spaced.ensures
    (wrote_then (rw c.from.ensures at c.spaced-2.ensures) c.put_last.ensures))
