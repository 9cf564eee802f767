-- `put_more` stores the fields after the head. The length tells the kind, as far as its fields go
-- (`no_more`, `lease_more`, `value_more`).
-- what the two tests leave of the kind's length
use mathlib.Core.Path.{sym, ◌∙◌}
use native.Mathlib.Omega.{arith}
use Rattle.wire.specs.Wire.{le, packed}
use Rattle.layout.specs.Layout.{more_of}
use Rattle.layout.proofs.Laws.{no_more, lease_more, longer, value_more}
use Rattle.layout.proofs.put_more.Goals as goal

pub returns-then-len-eq-HEAD_LENGTH : goal.returns-then-len-eq-HEAD_LENGTH
unfolding more_of le packed
returns-then-len-eq-HEAD_LENGTH c =
    rw (no_more _ (sym c.requires.long ∙ c.if-len-eq-HEAD_LENGTH.true))

pub put_ballot-requires : goal.put_ballot-requires
unfolding more_of le packed
put_ballot-requires c =
    omega (arith, c.if-len-eq-LEASE_LENGTH.true, c.requires.room)

pub put_value-requires : goal.put_value-requires
unfolding more_of le packed
put_value-requires c =
    omega (arith, c.if-len-eq-LEASE_LENGTH.true, c.requires.room)

pub returns-then-len-eq-LEASE_LENGTH : goal.returns-then-len-eq-LEASE_LENGTH
unfolding more_of le packed
returns-then-len-eq-LEASE_LENGTH c =
    rw (
      c.put_value.ensures,
      c.put_ballot.ensures,
      lease_more _ (sym c.requires.long ∙ c.if-len-eq-LEASE_LENGTH.true),
    )

pub put_value-requires-2 : goal.put_value-requires-2
unfolding more_of le packed
put_value-requires-2 c =
    let p = c.requires in
    omega (
      arith,
      longer _ (λ e. c.if-len-eq-HEAD_LENGTH.false (c.requires.long ∙ e)),
      p.long,
      p.room,
    )

pub returns : goal.returns
unfolding more_of le packed
returns c =
    rw (
      c.put_value-2.ensures,
      c.value_end.ensures,
      value_more c.args.f (λ e. c.if-len-eq-HEAD_LENGTH.false (c.requires.long ∙ e))
          (λ e. c.if-len-eq-LEASE_LENGTH.false (c.requires.long ∙ e)),
    )
