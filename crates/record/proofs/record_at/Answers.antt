-- `record_at`: a whole record's bytes are there.
use mathlib.Core.Path.{sym, ap, ◌∙◌}
use Rattle.record.specs.Parts.{numbered_head}
use Rattle.record.proofs.Laws.{head_whole}
use Rattle.record.proofs.record_at.Goals as goal

pub event_at-requires : goal.event_at-requires
event_at-requires c =
    (head_whole _ _ _ _ _ (sym c.head_at.ensures ∙ ap numbered_head c.in-Ok.is)).there
