-- `put_long` puts the line's bytes, as they come out of its definition.
use Rattle.text.specs.Text.{decimal, digits_of}
use Rattle.lines.specs.Lines.{last_of, line_text}
use Rattle.listing.proofs.put_long.Goals as goal

pub returns : goal.returns
unfolding line_text decimal digits_of last_of
returns c = c.word.ensures
