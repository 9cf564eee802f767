-- `first_record`: the 21 bytes of the settings are there if the head is whole.
use mathlib.Core.Path.{sym, ap, ◌∙◌}
use native.Mathlib.Omega.{arith}
use Prim.Native.Nat.{◌≤◌}
use lib.ListN.{length}
use Rattle.record.specs.Parts.{numbered_head}
use Rattle.record.proofs.Laws.{first_whole}
use Rattle.record.proofs.first_record.Goals as goal
use Rattle.record.proofs.first_record.Goals.{In_ok-head_at}

-- the record's bytes are there
there : (c : In_ok-head_at) → 21 ≤ length c.args.run.now
there c =
    first_whole _ _ _ (sym c.head_at.ensures ∙ ap numbered_head c.in_ok-head_at.was)

pub byte-n-requires : goal.byte-n-requires
byte-n-requires c =
    omega (arith, there (goal.at.byte-n-requires c).In_ok-head_at)

pub get-longest-requires : goal.get-longest-requires
get-longest-requires c =
    let l = there (goal.at.get-longest-requires c).In_ok-head_at in (omega arith, omega arith)

pub get-spread-requires : goal.get-spread-requires
get-spread-requires c =
    let l = there (goal.at.get-spread-requires c).In_ok-head_at in (omega arith, omega arith)

pub get-clock-requires : goal.get-clock-requires
get-clock-requires c =
    let l = there (goal.at.get-clock-requires c).In_ok-head_at in (omega arith, omega arith)
