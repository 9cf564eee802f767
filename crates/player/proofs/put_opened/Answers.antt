-- `put_opened` writes a lone stop where opening refuses the settings, and else their line, those of
-- the events that are played, and the end.
use mathlib.Core.Path.{◌≡◌, sym, ap, ◌∙◌}
use native.Mathlib.Omega.{arith}
use Rattle.base.specs.Refusals.{done}
use Rattle.base.specs.Answers.{answer_of}
use Rattle.text.proofs.Laws.{put_length, wrote, wrote_then}
use Rattle.cell.specs.Answered.{told}
use Rattle.cell.proofs.StaysWithin.{opening_in}
use Rattle.record.specs.Read.{numbered_record}
use Rattle.acts.proofs.Advances.{not_done}
use Rattle.run.proofs.Playing.{ahead_next}
use Rattle.player.proofs.Opening.{opened_refused, opened_done}
use Rattle.player.proofs.put_opened.Goals as goal

pub returns-in-Err : goal.returns-in-Err
unfolding told answer_of
returns-in-Err c =
    let k = ap answer_of c.in-Err.is in
    let n =
    λ (e : answer_of c.open-opened.result.answer ≡ done).
    not_done c.in-Err.refusal (sym k ∙ e) in
    rw (
      opened_refused c.args.run.now c.args.s c.args.clock _ c.open-opened.ensures n,
      k,
      ← c.number.ensures,
      ← c.opening_offset-at.ensures,
    )
    c.put_stop.ensures.wrote

pub play-p-requires : goal.play-p-requires
unfolding told
play-p-requires c =
    let r = c.read_at-first in
    let l = ahead_next c.args.run.now 21 (numbered_record r.result) (sym r.ensures) in
    let p = c.put_settings.ensures in
    record {
      sound = rw (← c.open-opened.ensures) at (opening_in c.args.s c.args.clock);
      short = omega (arith, l, c.requires.0.1);
      room = omega (arith, l, c.requires, p.wrote.many, p.short);
    }

pub put_end-requires : goal.put_end-requires
put_end-requires c =
    let r = c.read_at-first in
    let l = ahead_next c.args.run.now 21 (numbered_record r.result) (sym r.ensures) in
    let p = c.put_settings.ensures in
    omega (
      arith,
      c.play-p.ensures.plays.near,
      c.play-p.ensures.stands,
      put_length c.play-p.ensures.plays.written,
      l,
      c.requires,
      p.wrote.many,
      p.short,
    )

pub returns : goal.returns
unfolding told answer_of
returns c =
    let p = c.play-p.ensures in
    rw (opened_done c.args.run.now c.args.s c.args.clock _ c.open-opened.ensures
    (ap answer_of c.in_default.is) c.read_at-first.ensures p.plays)
    (wrote_then c.put_settings.ensures.wrote
    (wrote_then (wrote (rw (← p.stands) at p.plays.written) p.same) c.put_end.ensures))
