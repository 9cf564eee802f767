-- A file that stops is read like the whole records before its stop. Assumes nothing.
use mathlib.Core.Path.{◌≡◌, refl, sym, ap, ◌∙◌}
use Prim.Native.Nat.{ℕ, zero, suc, ◌+◌, ◌-◌, ◌≤◌, ◌<◌}
use native.Mathlib.Omega.{arith}
use mathlib.Core.Bool.{Bool, true, false, cond}
use mathlib.Core.List.{List, [], ◌∷◌}
use lib.Dec.{ltb}
use lib.ListN.{length, take}
use lib.Seq.{length-take-le}
use borrow.Author.Tests.{le-ltb, ltb-true}
use Rattle.record.specs.Read.{Record}
use Rattle.record.specs.Record.{head_of, record_with, record_at}
use Rattle.record.proofs.Laws.{record_next, read_shorter, read_end}
use Rattle.lines.specs.Lines.{stop}
use Rattle.listing.specs.Listing.{Script, ends, cuts, then, script_with, script_from, script_of}
use Rattle.listing.specs.Listing.{settings_length, events_of, stop_lines}
use Rattle.listing.specs.Claims.{StopsAt}

-- ---- the bound on the number of records says nothing: one for each byte is enough

at_end : (s : List ℕ) (at : ℕ) → length s ≤ at → record_at s at ≡ Record.End
unfolding record_at
at_end s at h = rw (le-ltb at (length s) h)

-- a fault stands within the file
fault_inside : (s : List ℕ) (at n o : ℕ) → record_at s at ≡ Record.Fault n o → at < length s
unfolding record_at
fault_inside s at n o e = go (ltb at (length s)) refl e
  where
    go : (b : Bool) → ltb at (length s) ≡ b
        → cond b (record_with s at (head_of false s at)) Record.End ≡ Record.Fault n o
        → at < length s
    go true t z = ltb-true at (length s) t
    go false t z = absurd (let x : ◌≡◌ {A = ℕ} 0 1 = cc in omega arith)

one_more : (k : ℕ) (s : List ℕ) (at : ℕ) → length s ≤ at + k
    → script_from (suc k) s at ≡ script_from k s at
unfolding script_from
one_more zero s at h = rw (at_end s at (omega arith))
one_more (suc k) s at h = go (record_at s at) refl (one_more k s)
  where
    go : (r : Record) → record_at s at ≡ r
        → ((next : ℕ) → length s ≤ next + k → script_from (suc k) s next ≡ script_from k s next)
        → script_with at r (λ next. script_from (suc k) s next)
        ≡ script_with at r (λ next. script_from k s next)
    go Record.End e f = refl
    go (Record.Fault n o) e f = refl
    go (Record.Event x next) e f = ap (then x) (f next (omega (arith, record_next s at x next e)))

-- what stands at an offset is the first of what is left
pub script_next : (s : List ℕ) (at : ℕ)
    → script_from (length s) s at
    ≡ script_with at (record_at s at) (λ next. script_from (length s) s next)
unfolding script_from
script_next s at = sym (one_more (length s) s at (omega arith))

enough : (j k : ℕ) (s : List ℕ) (at : ℕ) → length s ≤ at + k
    → script_from (j + k) s at ≡ script_from k s at
enough zero k s at h = let e : 0 + k ≡ k = omega arith in rw e
enough (suc j) k s at h =
    let e : suc j + k ≡ suc (j + k) = omega arith in
    rw e (one_more (j + k) s at (omega arith) ∙ enough j k s at h)

-- ---- without its stop

abbrev pub uncut : Script → Script
uncut ends = ends
uncut (cuts at f o) = ends
uncut (then e s) = then e (uncut s)

pub uncut_events : (s : Script) → events_of (uncut s) ≡ events_of s
unfolding events_of
uncut_events ends = refl
uncut_events (cuts at f o) = refl
uncut_events (then e s) = ap (λ es. e ∷ es) (uncut_events s)

pub uncut_stop : (s : Script) → stop_lines (uncut s) ≡ []
unfolding stop_lines
uncut_stop ends = refl
uncut_stop (cuts at f o) = refl
uncut_stop (then e s) = uncut_stop s

pub stop_line : (at f o : ℕ) (s : Script) → StopsAt at f o s → stop_lines s ≡ stop at f o ∷ []
unfolding stop_lines StopsAt
stop_line at f o ends z = absurd z
stop_line at f o (cuts place number offset) z = rw (z.0, z.1.0, z.1.1)
stop_line at f o (then e s) z = stop_line at f o s z

-- where a script stops: at a fault, at or after where it began, and within the file
pub record Stopped (s : List ℕ) (at p : ℕ) : Type 0 where
  pub past : at ≤ p
  pub inside : p < length s

stopped : (k : ℕ) (s : List ℕ) (at p f o : ℕ) → StopsAt p f o (script_from k s at) → Stopped s at p
unfolding script_from StopsAt
stopped zero s at p f o z = absurd z
stopped (suc k) s at p f o z = go (record_at s at) refl (λ next. stopped k s next p f o) z
  where
    go : (r : Record) → record_at s at ≡ r
        → ((next : ℕ) → StopsAt p f o (script_from k s next) → Stopped s next p)
        → StopsAt p f o (script_with at r (λ next. script_from k s next)) → Stopped s at p
    go Record.End e h z = absurd z
    go (Record.Fault n m) e h z =
        record { past = omega (arith, z.0); inside = omega (arith, z.0, fault_inside s at n m e) }
    go (Record.Event x next) e h z =
        let r = h next z in
        record { past = omega (arith, record_next s at x next e, r.past); inside = r.inside }

pub stopped_at : (s : List ℕ) (p f o : ℕ) → StopsAt p f o (script_of s)
    → Stopped s settings_length p
stopped_at s p f o z = stopped (length s) s settings_length p f o z

-- up to the stop the bytes before it are read alike
taken : (k : ℕ) (s : List ℕ) (at p f o : ℕ) → StopsAt p f o (script_from k s at)
    → script_from k (take p s) at ≡ uncut (script_from k s at)
unfolding script_from StopsAt
taken zero s at p f o z = absurd z
taken (suc k) s at p f o z = go (record_at s at) refl (λ next. taken k s next p f o) z
  where
    go : (r : Record) → record_at s at ≡ r
        → ((next : ℕ) → StopsAt p f o (script_from k s next)
        → script_from k (take p s) next ≡ uncut (script_from k s next))
        → StopsAt p f o (script_with at r (λ next. script_from k s next))
        → script_with at (record_at (take p s) at) (λ next. script_from k (take p s) next)
        ≡ uncut (script_with at r (λ next. script_from k s next))
    go Record.End e h z = absurd z
    go (Record.Fault n m) e h z =
        let q : record_at (take p s) at ≡ Record.End = rw z.0 (read_end s p) in
        rw q
    go (Record.Event x next) e h z =
        let r = stopped k s next p f o z in
        rw (read_shorter s at x next p e r.past) (ap (then x) (h next z))

pub script_taken : (s : List ℕ) (p f o : ℕ) → StopsAt p f o (script_of s)
    → script_of (take p s) ≡ uncut (script_of s)
script_taken s p f o z =
    let r = stopped_at s p f o z in
    let l : length (take p s) ≡ p = length-take-le p s (omega (arith, r.inside)) in
    let e : length s ≡ (length s - p) + length (take p s) = omega (arith, r.inside) in
    sym (enough (length s - p) (length (take p s)) (take p s) settings_length (omega arith))
    ∙ ap (λ k. script_from k (take p s) settings_length) (sym e)
    ∙ taken (length s) s settings_length p f o z
