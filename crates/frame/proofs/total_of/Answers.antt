-- `total_of` is a product that does not wrap: at most 16 hosts, each with the longest frame.
use Prim.Native.Nat.{◌≤◌}
use native.Mathlib.Nat.{mul-le-mul}
use native.Mathlib.Omega.{arith}
use lib.Count.{ones-le}
use borrow.Author.Rules.{rules}
use Rattle.frame.proofs.total_of.Goals as goal

pub overflow_cast-result : goal.overflow_cast-result
overflow_cast-result c =
    omega (arith, ones-le 16 c.args.set (search rules))

pub overflow_mul-result : goal.overflow_mul-result
overflow_mul-result c =
    let k : c.size_of.result ≤ 16 =
    omega (arith, ones-le 16 c.args.set (search rules)) in
    omega (arith, mul-le-mul k c.requires)

pub returns : goal.returns
returns c =
    rw c.size_of.ensures
