-- `put`: what is written, and then what is left to write, is the whole.
use Rattle.std.proofs.Common.{◌≡◌, ◌+◌, ◌-◌, ◌%◌, ◌/◌, ℕ, suc, ◌<◌, ◌≤◌, List, ◌++◌, ◌∙◌}
use Rattle.std.proofs.Common.{length, take, arith, append_assoc}
use Rattle.std.proofs.lemmas.List.{take_more_set, take_all, append-nil}
use Rattle.std.proofs.lemmas.List.Edits.{sets, sets-eq, length-between}
use borrow.Rule.Slice.PartMut.{put_mid}
use lib.ListN.{set}
use lib.Seq.{drop-drop}
use Rattle.wire.specs.Wire.{le}
use Rattle.wire.proofs.Laws.{le_length}
use Rattle.wire.proofs.put.Goals as goal

-- one byte more is written, and the others are left
written_more : (part : List ℕ) (w i rest : ℕ) → i < length part → i < w
    → take (i + 1) (set part i (rest % 256)) ++ le (w - (i + 1)) (rest / 256)
    ≡ take i part ++ le (w - i) rest
unfolding le
written_more part w i rest a b =
    let e : w - i ≡ suc (w - (i + 1)) = omega arith in
    rw (take_more_set part i (rest % 256) a, append_assoc, e)

-- where nothing is left, the part is the whole
written_all : (part : List ℕ) (w i rest v : ℕ) → length part ≡ w → w ≤ i
    → take i part ++ le (w - i) rest ≡ le w v → part ≡ le w v
unfolding le
written_all part w i rest v a b h =
    let e : w - i ≡ 0 = omega arith in
    rw (e, append-nil (take i part), take_all i part (omega arith)) at h

-- and the bytes that hold it are those with the whole stored
put_is : (out part : List ℕ) (at w v k : ℕ) → at + w ≤ length out → k ≡ w → part ≡ le w v
    → put_mid at k out part ≡ sets out at (le w v)
put_is out part at w v k h e f =
    let l = le_length w v in
    rw (f, e, sets-eq (le w v) out at (omega (arith, l)), l, drop-drop w at out, append_assoc)

pub loop-byte-preserved : goal.loop-byte-preserved
loop-byte-preserved c =
    let l = c.loop-byte in
    let a = c.args in
    let n = length-between a.out.now a.at (a.at + a.w) c.requires in
    written_more l.byte-items a.w l.byte-index l.rest (omega arith) (omega arith) ∙ l.invariant

pub returns : goal.returns
returns c =
    let l = c.loop-byte in
    let a = c.args in
    let k : a.at + a.w - a.at ≡ a.w = omega arith in
    let n = length-between a.out.now a.at (a.at + a.w) c.requires in
    put_is a.out.now l.byte-items a.at a.w a.v _ c.requires k
    (written_all l.byte-items a.w l.byte-index l.rest a.v (omega arith) (omega arith) l.invariant)
