-- `clocks_ok`: the walk finds the earliest and the latest clock of the hosts (`Span`), and these
-- two are at most S apart exactly where any two clocks are (`span_clocks`).
use Rattle.std.proofs.Common.{rules, arith, ◌≡◌, ◌+◌, ◌-◌, min, max, length, get_or, drop}
use Rattle.std.proofs.Common.{ap, ◌∙◌}
use Rattle.std.proofs.lemmas.List.{get_or-take}
use Rattle.std.proofs.lemmas.Grind.{get_or_after_one}
use borrow.Rule.Slice.PartMut.{mid_of, mid_len}
use Rattle.places.specs.Places.{blank_host}
use Rattle.places.proofs.PlaceLimits.{clock_at}
use Rattle.places.proofs.Walks.{Span, span_next, span_clocks}
use Rattle.places.proofs.clocks_ok.Goals as goal

pub loop-h-preserved : goal.loop-h-preserved
loop-h-preserved c =
    let a = c.args in
    let l = c.loop-h in
    let hs = a.hosts.now in
    let k = a.s.n - 1 in
    let i = l.h-index + 1 in
    let many : length (mid_of 1 k hs) ≡ k = mid_len 1 a.s.n hs (search rules) in
    let here : get_or (mid_of 1 k hs) l.h-index blank_host ≡ get_or hs i blank_host =
    get_or-take k (drop 1 hs) l.h-index blank_host (omega (arith, many, c.loop-h-test.true))
    ∙ get_or_after_one hs l.h-index blank_host
    ∙ ap (λ j. get_or hs j blank_host) (omega arith) in
    let on : Span 0 (clock_at hs) (i + 1) (min l.low (clock_at hs i)) (max l.high (clock_at hs i)) =
    span_next 0 (clock_at hs) i l.low l.high (λ e. absurd (omega (arith, e))) l.invariant in
    rw (c.min-low.ensures, c.max-high.ensures, here) on

pub returns : goal.returns
returns c =
    let a = c.args in
    let l = c.loop-h in
    let many : length (mid_of 1 (a.s.n - 1) a.hosts.now) ≡ a.s.n - 1 =
    mid_len 1 a.s.n a.hosts.now (search rules) in
    let e : l.h-index + 1 ≡ a.s.n =
    omega (arith, many, l.auto.h-index-end, c.requires.0, c.loop-h-test.false) in
    c.spread_ok.ensures
    ∙ span_clocks a.s a.hosts.now 0 l.low l.high c.requires.0 (search rules) (rw e at l.invariant)
