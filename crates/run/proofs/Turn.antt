-- A turn of the run: what an event of it leaves stored, and the line that it writes. Assumes
-- nothing.
use mathlib.Core.Path.{◌≡◌, refl}
use mathlib.Core.Bool.{Bool, false}
use mathlib.Core.List.{List, [], ◌∷◌, ◌++◌}
use Prim.Native.Nat.{ℕ, zero, suc, ◌+◌, ◌-◌, ◌≤◌, ◌<◌}
use native.Mathlib.Omega.{arith}
use lib.ListN.{length, get_or, set, take}
use lib.Seq.{get_or-set_same}
use Rattle.std.specs.Prelude.{Option, Some, None}
use Rattle.std.proofs.lemmas.List.{get_or-take}
use Rattle.message.specs.declared.Message.{Message}
use Rattle.message.specs.Leases.{Holder}
use Rattle.message.specs.Message.{addressed_to}
use Rattle.text.specs.Parts.{Put}
use Rattle.text.proofs.Laws.{Todo, put_then, todo_end}
use Rattle.state.specs.declared.Settings.{Settings}
use Rattle.host.specs.declared.Host.{Host}
use Rattle.places.specs.Places.{blank_host}
use Rattle.slots.specs.declared.Slot.{Slot}
use Rattle.slots.specs.Slots.{is_empty}
use Rattle.cell.specs.declared.Cell.{Cell}
use Rattle.cell.specs.Answered.{Answered}
use Rattle.cell.specs.Events.{answered_with}
use Rattle.placing.specs.declared.Fill.{Fill}
use Rattle.placing.specs.Parts.{Frees, no_fill, stored}
use Rattle.lines.specs.Lines as lines
use Rattle.lines.specs.Lines.{name_text, names_from, names_text, event_head, line_text}
use Rattle.lines.proofs.Laws.{names_step, names_end}
use Rattle.listing.specs.Listing.{names_of}
use Rattle.run.proofs.Acting.{stored_in}
use Rattle.run.proofs.Playing.{cell_with}

-- the host that was stored last
pub stored_host : (ps ps' : List Host) (who : ℕ) (x : Host) → ps' ≡ set ps who x → length ps ≡ 9
    → who < 9 → get_or ps' who blank_host ≡ x
stored_host ps ps' who x q l b = rw q (get_or-set_same ps who x blank_host (omega (arith, l)))

-- one slot more is stored to
pub stores_on : (k : ℕ) (fills : List Fill) (m : Message) (start ss : List Slot) (x : Slot)
    → ss ≡ stored k fills m start
    → x ≡ record { content = Some (addressed_to m (get_or fills k no_fill).host) }
    → set ss (get_or fills k no_fill).slot x ≡ stored (k + 1) fills m start
unfolding stored
stores_on k fills m start ss x e q = let g : k + 1 ≡ suc k = omega arith in rw (g, e, q)

pub none_stored : (fills : List Fill) (m : Message) (ss : List Slot) → ss ≡ stored 0 fills m ss
unfolding stored
none_stored fills m ss = refl

-- all of it, or nothing is sent
pub stored_by : (sent : Option Message) (m : Message) (i k : ℕ) (fills : List Fill)
    (ss x : List Slot) → sent ≡ Some m → x ≡ stored i fills m ss → i ≤ k → k ≤ i
    → x ≡ stored_in sent k fills ss
unfolding stored_in
stored_by sent m i k fills ss x e q a b =
    let same : i ≡ k = omega arith in rw (e, ← same) q

pub stored_not : (sent : Option Message) (k : ℕ) (fills : List Fill) (ss x : List Slot)
    → ((m : Message) → sent ≡ Some m → ⊥) → x ≡ ss → x ≡ stored_in sent k fills ss
unfolding stored_in
stored_not None k fills ss x e q = q
stored_not (Some m) k fills ss x e q = absurd (e m refl)

-- a slot that holds a message is not free
pub marked_full : (s : Slot) (m : Message) → s ≡ record { content = Some m }
    → false ≡ is_empty s.content
unfolding is_empty
marked_full s m e = rw e

-- told by the values that were left
pub marks_same : {ss ss' : List Slot} {free free' : List Bool} → ss' ≡ ss → free' ≡ free
    → Frees ss free → Frees ss' free'
marks_same a b p = rw (a, b) p

-- an answer and a count beside a cell whose hosts and slots are known
pub beside : (a k : ℕ) (s : Settings) {hs hs' : List Host} {ss ss' : List Slot} (x : Answered)
    → hs' ≡ hs → ss' ≡ ss → answered_with a k (cell_with s hs ss) ≡ x
    → answered_with a k (cell_with s hs' ss') ≡ x
beside a k s x r q e = rw (r, q) e

-- whom the hosts from q on name
abbrev pub due : List Host → ℕ → ℕ → List ℕ
due hosts n q = names_text (names_from hosts (n - q) q)

-- one name more, which is the next host's
pub due_on : (hosts : List Host) (n q : ℕ) (m : Option Holder) → q < n
    → m ≡ (get_or hosts q blank_host).state.named
    → due hosts n q ≡ (32 ∷ name_text m) ++ due hosts n (q + 1)
due_on hosts n q m b e = rw e (names_step hosts n q b)

-- the first n hosts name what all of them name
names_front : (n k i : ℕ) (hs : List Host) → i + k ≤ n
    → names_from (take n hs) k i ≡ names_from hs k i
unfolding names_from
names_front n zero i hs b = refl
names_front n (suc k) i hs b =
    rw (get_or-take n hs i blank_host (omega arith), names_front n k (suc i) hs (omega arith)) refl

-- a line is its head, the names and the line's end
pub line : {out out₁ out₂ out₃ : List ℕ} {pos end₀ end r : ℕ} (c : Cell)
    (place kind answer q : ℕ) → let hosts = take c.settings.n c.hosts in
    Put out pos (event_head place kind answer) end₀ out₁
    → Todo out₂ end (due hosts c.settings.n q) out₁ end₀ (due hosts c.settings.n 0)
    → c.settings.n ≤ q → end ≤ length out₂ → Put out₂ end (10 ∷ []) r out₃
    → Put out pos (line_text (lines.event place kind answer (names_of c))) r out₃
unfolding line_text
line c place kind answer q p t b l u =
    let n = c.settings.n in
    let hosts = take n c.hosts in
    let whole : n - 0 ≡ n = omega arith in
    let same = names_front n n 0 c.hosts (omega arith) in
    put_then p (put_then (rw (whole, same) at (todo_end t (names_end hosts n q b) l)) u)

-- the same of hosts that are the first n
pub line_of : {out out₁ out₂ out₃ : List ℕ} {pos end₀ end r : ℕ} (c : Cell) (hosts : List Host)
    (place kind answer q : ℕ) → hosts ≡ take c.settings.n c.hosts
    → Put out pos (event_head place kind answer) end₀ out₁
    → Todo out₂ end (due hosts c.settings.n q) out₁ end₀ (due hosts c.settings.n 0)
    → c.settings.n ≤ q → end ≤ length out₂ → Put out₂ end (10 ∷ []) r out₃
    → Put out pos (line_text (lines.event place kind answer (names_of c))) r out₃
line_of c hosts place kind answer q e p t b l u =
    line c place kind answer q p (rw e at t) b l u
