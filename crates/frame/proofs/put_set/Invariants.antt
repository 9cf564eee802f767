-- `put_set` puts the frames to the hosts of a set end to end at the front: what is still to be put,
-- put from where the walk stands, gives what the whole gives.
use mathlib.Core.Path.{◌≡◌}
use Prim.Native.Nat.{◌+◌, ◌/◌, ◌^◌, ◌≤◌}
use lib.ListN.{length}
use lib.Seq.{sets}
use Rattle.quorum.specs.Sets.{members}
use Rattle.frame.specs.Writing.{frames_in}
use Rattle.frame.proofs.Walk.{due}
use Rattle.frame.proofs.put_set.Given as goal

abbrev pub invariant-loop-rest : goal.invariant-loop-rest
invariant-loop-rest l = record {
  left : l.rest ≡ l.set / 2 ^ l.h;
  long : length l.out ≡ length l.initial.out;
  fits : l.at + length (due l.f l.set l.h) ≤ length l.initial.out;
  gives : sets l.out l.at (due l.f l.set l.h)
      ≡ sets l.initial.out 0 (frames_in l.f (members 16 l.set));
}

abbrev pub decreases-loop-rest : goal.decreases-loop-rest
decreases-loop-rest l = l.rest
