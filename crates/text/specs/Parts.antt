-- What a function that writes text at an offset gives, and what a page that goes on by text is. No
-- claim rests on it. Assumes nothing.
use Rattle.std.specs.Prelude.{ℕ, ◌+◌, ◌≤◌, List, ◌≡◌, length}
use Rattle.std.proofs.lemmas.List.Edits.{sets}
use Rattle.text.specs.declared.Page.{Page}

-- the offset past the bytes, and the lent bytes with them
pub record Put (before : List ℕ) (at : ℕ) (bytes : List ℕ) (next : ℕ) (after : List ℕ) : Type 0
  where
    pub past : next ≡ at + length bytes
    pub stored : after ≡ sets before at bytes
    pub within : at + length bytes ≤ length before

-- a page that so many more bytes fit into
abbrev pub HasRoom : Page → ℕ → Type 0
HasRoom p n = p.at + n ≤ length p.out.now

-- a page that goes on by these bytes, in the bytes that it was lent, which are as many as they were
pub record Wrote (before : Page) (bytes : List ℕ) (after : Page) : Type 0 where
  pub put : Put before.out.now before.at bytes after.at after.out.now
  pub many : length after.out.now ≡ length before.out.now
  pub same : after.out.ghost_name ≡ before.out.ghost_name
