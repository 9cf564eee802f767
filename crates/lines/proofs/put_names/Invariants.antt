-- `put_names` puts name after name.
use Rattle.text.specs.Parts.{Wrote}
use Rattle.lines.specs.Parts.{bytes_text}
use Rattle.lines.proofs.put_names.Given as goal

abbrev pub invariant-loop-name : goal.invariant-loop-name
invariant-loop-name l = Wrote l.initial.page (bytes_text l.names l.name-index 0) l.page
