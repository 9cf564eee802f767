-- `head_at` tests what `head_of` does, in the same order.
use borrow.Author.Rules.{rules}
use Rattle.record.proofs.Laws.{head_steps}
use Rattle.record.proofs.head_at.Goals as goal

pub returns-then-left-lt-FORE_LENGTH : goal.returns-then-left-lt-FORE_LENGTH
returns-then-left-lt-FORE_LENGTH c = search (rules, head_steps)

pub returns-in_default : goal.returns-in_default
returns-in_default c = search (rules, head_steps)

pub returns-in-Less : goal.returns-in-Less
returns-in-Less c = search (rules, head_steps)

pub returns-in-Greater : goal.returns-in-Greater
returns-in-Greater c = search (rules, head_steps)

pub returns-in-Equal : goal.returns-in-Equal
returns-in-Equal c = search (rules, head_steps)

pub returns-in-Equal-2 : goal.returns-in-Equal-2
returns-in-Equal-2 c = search (rules, head_steps)
