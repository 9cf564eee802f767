-- `clocks_ok`: the walk finds the earliest and the latest clock of the hosts so far (`Span`).
use Rattle.std.proofs.Common.{◌+◌}
use Rattle.places.proofs.PlaceLimits.{clock_at}
use Rattle.places.proofs.Walks.{Span}
use Rattle.places.proofs.clocks_ok.Given as goal

abbrev pub invariant-loop-h : goal.invariant-loop-h
invariant-loop-h l = Span 0 (clock_at l.hosts) (l.h-index + 1) l.low l.high
