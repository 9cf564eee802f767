-- `put_names` puts name after name.
use mathlib.Core.Path.{◌≡◌}
use mathlib.Core.List.{List, [], ◌∷◌, ◌++◌}
use Prim.Native.Nat.{ℕ, ◌+◌}
use native.Mathlib.Omega.{arith}
use borrow.Author.Rules.{rules}
use lib.ListN.{get_or}
use Rattle.std.proofs.lemmas.List.{get_or-take, get_or-drop}
use Rattle.text.specs.declared.Page.{Page}
use Rattle.text.specs.Parts.{Wrote}
use Rattle.text.proofs.Laws.{wrote_none, wrote_then}
use Rattle.lines.specs.Parts.{bytes_text}
use Rattle.lines.proofs.Laws.{bytes_next}
use Rattle.lines.proofs.put_names.Goals as goal

-- one name more, which is that of its place
name_more : {p q : Page} (names : List ℕ) (i b : ℕ) → b ≡ get_or names i 0
    → Wrote p (bytes_text names i 0 ++ (32 ∷ b ∷ [])) q → Wrote p (bytes_text names (i + 1) 0) q
name_more names i b e w = rw (bytes_next names i 0 i (omega arith), ← e) w

pub loop-name-init : goal.loop-name-init
unfolding bytes_text
loop-name-init c = wrote_none (omega (arith, c.requires))

pub loop-name-preserved : goal.loop-name-preserved
loop-name-preserved c =
    name_more c.args.names.now c.loop-name.name-index _ (search (rules, get_or-take, get_or-drop))
    (wrote_then c.loop-name.invariant (wrote_then c.byte.ensures c.byte-in-loop-name.ensures))
