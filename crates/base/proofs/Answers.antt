-- Laws of answers: no refusal has the number 0, which is of what is done. Assumes nothing.
use mathlib.Core.Path.{◌≡◌, refl}
use mathlib.Core.Bool.{false}
use Prim.Native.Nat.{ℕ, zero, suc, ◌≤◌}
use native.Mathlib.Omega.{arith}
use lib.Dec.{eqb}
use Rattle.std.specs.Prelude.{is_ok}
use Rattle.std.specs.declared.result.Result.{Result}
use Rattle.base.specs.declared.Refusal.{Refusal}
use Rattle.base.specs.Refusals.{done}
use Rattle.base.specs.Answers.{refusal_number, answer_of}
use Rattle.base.proofs.Tests.{true_false}

pub numbered : (k : Refusal) → eqb (refusal_number k) done ≡ false
unfolding refusal_number
numbered Refusal.Cell = refl
numbered Refusal.Cut = refl
numbered Refusal.Kind = refl
numbered Refusal.Length = refl
numbered Refusal.Host = refl
numbered Refusal.Tick = refl
numbered Refusal.Party = refl
numbered Refusal.Room = refl
numbered Refusal.Waiting = refl
numbered Refusal.SameTick = refl
numbered Refusal.Duration = refl
numbered Refusal.Slot = refl
numbered Refusal.Full = refl
numbered Refusal.Spread = refl
numbered Refusal.Clock = refl
numbered Refusal.Long = refl
numbered Refusal.Short = refl
numbered Refusal.NotHolder = refl

-- a number that is not 0
above_done : (n : ℕ) → eqb n done ≡ false → 1 ≤ n
above_done zero e = true_false e
above_done (suc n) e = omega arith

pub number_least : (k : Refusal) → 1 ≤ refusal_number k
number_least k = above_done (refusal_number k) (numbered k)

pub ok_done : {A : Type 0} (r : Result A Refusal) → is_ok r ≡ eqb (answer_of r) done
unfolding answer_of
ok_done (Result.Ok x) = refl
ok_done (Result.Err k) = rw (numbered k)
