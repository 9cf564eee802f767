-- `put_last` puts a space and the number, then the line's end behind them.
use Rattle.text.proofs.Laws.{wrote_then}
use Rattle.lines.specs.Lines.{last_of}
use Rattle.lines.proofs.put_last.Goals as goal

pub returns : goal.returns
unfolding last_of
returns c = wrote_then c.spaced.ensures c.byte.ensures
