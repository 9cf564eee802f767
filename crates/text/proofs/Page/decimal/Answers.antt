-- `decimal` writes a lone digit itself, and has the library write more, up to where they end.
use mathlib.Core.Path.{◌≡◌, refl, ap}
use native.Mathlib.Omega.{arith}
use lib.ListN.{length}
use Prim.Native.Nat.{◌+◌}
use Rattle.text.specs.Text.{decimal}
use Rattle.text.proofs.Laws.{decimal_one, decimal_count, digits_fit, put_digits, wrote}
use Rattle.text.proofs.Page.decimal.Goals as goal
use Rattle.text.proofs.Page.decimal.Goals.{After-ilog10}

pub byte-requires : goal.byte-requires
byte-requires c = omega (arith, c.requires, ap length (decimal_one c.args.n c.if-n-lt10.true))

pub returns-then-n-lt10 : goal.returns-then-n-lt10
returns-then-n-lt10 c = rw (decimal_one _ c.if-n-lt10.true) c.byte.ensures

-- where the digits end
count : (c : After-ilog10) → c.ilog10.result + 1 ≡ length (decimal c.args.n)
count c =
    let l = c.ilog10.ensures in decimal_count _ _ l.power_le l.next_power_gt c.ranges.n.fits

-- by what is handed to it, which is n
pub returns : goal.returns
returns c =
    let w = c.write_digits.ensures in
    wrote
    (put_digits _ _ _ _ _ _ _ c.ranges.n.fits (omega arith) c.requires
    (omega (arith, count (goal.at.returns c).After-ilog10)) w.start w.written w.before)
    refl

pub write_digits-requires : goal.write_digits-requires
write_digits-requires c =
    let l = c.ilog10.ensures in
    let n = count (goal.at.write_digits-requires c).After-ilog10 in (
      digits_fit _ _ _ (omega (arith, l.next_power_gt)) (omega (arith, c.ranges.n.fits)),
      omega (arith, n, c.requires),
    )
