-- `get`: the bytes taken from the last to the first make their number.
use Rattle.std.proofs.Common.{◌≡◌, ◌+◌, ◌-◌, ◌∙◌, ℕ, ◌<◌, get_or, take, drop, arith, rules}
use Rattle.std.specs.List.{fold}
use mathlib.Core.List.{reverse}
use Rattle.wire.specs.Wire.{number_at}
use Rattle.wire.proofs.Laws.{taken, number_taken, number_below}
use Rattle.wire.proofs.get.Goals as goal

pub returns : goal.returns
returns c =
    let a = c.args in
    let k : a.at + a.w - a.at ≡ a.w = omega arith in
    let part = take (a.at + a.w - a.at) (drop a.at a.s.now) in
    let folded : c.fold.result ≡ fold taken 0 (reverse part) = search rules in
    let b : (i : ℕ) → get_or a.s.now i 0 < 256 = λ i. omega (arith, c.type_inv.s i) in
    let value : c.fold.result ≡ number_at a.s.now a.at a.w =
    folded ∙ rw k (number_taken a.s.now a.at a.w b c.requires.0 c.requires.1) in
    (value, rw value (number_below a.s.now a.at a.w b))
