-- `put_numbers`: a frame put at the front of the bytes from `at` on is put at `at` (`sets_part`).
use Prim.Native.Nat.{◌+◌, ◌≤◌}
use native.Mathlib.Omega.{arith}
use lib.ListN.{length}
use Rattle.base.proofs.Stores.{sets_part}
use Rattle.layout.specs.Layout.{bytes_of}
use Rattle.layout.proofs.Laws.{bytes_length}
use Rattle.layout.proofs.put_numbers.Goals as goal

pub returns : goal.returns
returns c =
    let a = c.args in
    let p = c.requires in
    let k : a.at + length (bytes_of a.f) ≤ length a.out.now =
    omega (arith, bytes_length a.f) in
    rw c.put_first.ensures
    (sets_part a.out.now a.at (bytes_of a.f) k)
