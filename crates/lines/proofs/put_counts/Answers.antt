-- `put_counts` puts a word and a number, twice, one behind the other.
use Rattle.text.proofs.Laws.{wrote_then}
use Rattle.lines.specs.Lines.{line_text}
use Rattle.lines.proofs.put_counts.Goals as goal

pub returns : goal.returns
unfolding line_text
returns c =
    wrote_then c.word.ensures
    (wrote_then c.spaced.ensures (wrote_then c.word-2.ensures c.put_last.ensures))
