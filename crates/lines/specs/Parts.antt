-- Whom the hosts name, as bytes of a line that can be lent. No claim rests on it. Assumes nothing.
use Rattle.std.specs.Prelude.{Option, Some, None}
use Rattle.message.specs.Leases.{Holder}
use Rattle.std.specs.Prelude.{ℕ, zero, suc, ◌+◌, cond, List, [], ◌∷◌, ltb, get_or}
use Rattle.host.specs.declared.Host.{Host}

unfoldable pub digit_of : ℕ → ℕ
digit_of n = cond (ltb n 10) (48 + n) 45

abbrev pub name_byte : Option Holder → ℕ
name_byte None = 45
name_byte (Some k) = digit_of k.owner

abbrev pub name_of : Host → ℕ
name_of h = name_byte h.state.named

-- k names from i on, each after a space
unfoldable pub bytes_text : List ℕ → ℕ → ℕ → List ℕ
bytes_text names zero i = []
bytes_text names (suc k) i = 32 ∷ get_or names i 0 ∷ bytes_text names k (suc i)
