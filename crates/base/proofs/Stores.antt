-- Laws of runs of stores into a list. Assumes nothing.
use mathlib.Core.Path.{◌≡◌, sym}
use mathlib.Core.List.{List, [], ◌∷◌, ◌++◌, append-nil, append_assoc}
use Prim.Native.Nat.{ℕ, suc, ◌+◌, ◌-◌, ◌≤◌}
use native.Mathlib.Omega.{arith}
use lib.ListN.{length, take, drop, length-drop, drop_of_length-le}
use lib.Seq.{sets, sets-eq, drop-drop, take_all}

-- two runs, the second where the first ended, are one
pub sets_append : (l : List ℕ) (at : ℕ) (a b : List ℕ)
    → sets (sets l at a) (at + length a) b ≡ sets l at (a ++ b)
sets_append l at [] b = let e : at + 0 ≡ at = omega arith in rw e
sets_append l at (x ∷ a) b =
    let e : at + suc (length a) ≡ suc at + length a = omega arith in
    rw e (sets_append _ (suc at) a b)

-- a run from the start
pub sets_front : (vs l : List ℕ) → length vs ≤ length l → sets l 0 vs ≡ vs ++ drop (length vs) l
sets_front vs l h =
    let e : 0 + length vs ≡ length vs = omega arith in
    let k : 0 + length vs ≤ length l = omega arith in
    rw e at (sets-eq vs l 0 k)

-- a run from the start of the part from `at` on, which is then put back, is a run at `at`
pub sets_part : (l : List ℕ) (at : ℕ) (vs : List ℕ) → at + length vs ≤ length l
    → take at l
    ++ (sets (take (length l - at) (drop at l)) 0 vs ++ drop (length l - at) (drop at l))
    ≡ sets l at vs
sets_part l at vs h =
    let k : length (drop at l) ≡ length l - at = length-drop at l in
    let j : length (drop at l) ≤ length l - at = omega arith in
    let i : length vs ≤ length (drop at l) = omega arith in
    rw (
      take_all (length l - at) (drop at l) j,
      drop_of_length-le (drop at l) j,
      append-nil (sets (drop at l) 0 vs),
      sets_front vs (drop at l) i,
      drop-drop (length vs) at l,
      sets-eq vs l at h,
    )
    (sym (append_assoc (take at l) vs (drop (at + length vs) l)))
