-- `put`: what is written, and then what is left to write, is the whole.
use Rattle.std.proofs.Common.{◌≡◌, ◌-◌, ◌++◌, take}
use Rattle.wire.specs.Wire.{le}
use Rattle.wire.proofs.put.Given as goal

abbrev pub invariant-loop-byte : goal.invariant-loop-byte
invariant-loop-byte l =
    take l.byte-index l.byte-items ++ le (l.w - l.byte-index) l.rest ≡ le l.w l.v
