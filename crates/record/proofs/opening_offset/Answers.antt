-- `opening_offset` tests n, T, S and the clock, each with its place.
use borrow.Author.Rules.{rules}
use Rattle.record.proofs.Laws.{opening_steps}
use Rattle.record.proofs.opening_offset.Goals as goal

pub returns-then-not-cell_fits : goal.returns-then-not-cell_fits
returns-then-not-cell_fits c = search (rules, opening_steps)

pub returns-then-not-contains : goal.returns-then-not-contains
returns-then-not-contains c = search (rules, opening_steps)

pub returns-then-s : goal.returns-then-s
returns-then-s c = search (rules, opening_steps)

pub returns-then-clock-gt-LAST_TICK : goal.returns-then-clock-gt-LAST_TICK
returns-then-clock-gt-LAST_TICK c = search (rules, opening_steps)

pub returns : goal.returns
returns c = search (rules, opening_steps)
