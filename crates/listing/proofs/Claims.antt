-- The claims of specs/Claims.antt, proved. Assumes nothing.
use mathlib.Core.Path.{◌≡◌, refl, sym, ap, subst, ◌∙◌}
use Prim.Native.Nat.{ℕ, suc, ◌+◌, ◌≤◌}
use native.Mathlib.Omega.{arith}
use mathlib.Core.Bool.{Bool, true, false, cond}
use mathlib.Core.List.{List, [], ◌∷◌, ◌++◌}
use lib.Dec.{leb, eqb}
use lib.ListN.{length, take}
use lib.Seq.{length-take-le}
use borrow.Author.Tests.{leb-true, le-leb}
use Rattle.base.specs.Refusals.{done, refused_long}
use Rattle.base.specs.Lists.{All}
use Rattle.state.specs.declared.Settings.{Settings}
use Rattle.cell.specs.declared.Cell.{Cell}
use Rattle.cell.specs.declared.Event.{Event}
use Rattle.cell.specs.Events.{cell_of, opening_refusal, event_of}
use Rattle.cell.specs.Runs.{opening, run, answers}
use Rattle.record.specs.Read.{First}
use Rattle.record.specs.Record.{kind_of, first_record, opening_offset}
use Rattle.record.proofs.Laws.{first_shorter}
use Rattle.lines.specs.Lines.{Line, settings, event, stop, counts}
use Rattle.listing.specs.Listing.{Script, ends, cuts, then, events_of, names_of, event_lines}
use Rattle.listing.specs.Listing.{stop_lines, zeros, others, counts_of, script_lines, script_of}
use Rattle.listing.specs.Listing.{opened_lines, first_lines, longest_run, lines_of}
use Rattle.listing.specs.Claims.{answers_in, CountsOf, StopsAt, Claims}
use Rattle.listing.proofs.Records.{uncut_events, uncut_stop, stop_line, stopped_at}
use Rattle.listing.proofs.Records.{script_taken}

-- ---- the line of each event

each : (place : ℕ) (c : Cell) (before : List Event) (e : Event) (after : List Event)
    → let now = run c before in
    let next = run c (before ++ (e ∷ [])) in
    event_lines place c (before ++ (e ∷ after))
    ≡ event_lines place c before
    ++ (event (place + length before) (kind_of e) (event_of now e).answer (names_of next)
    ∷ event_lines (suc (place + length before)) next after)
unfolding event_lines run
each place c [] e after = let z : place + 0 ≡ place = omega arith in rw z
each place c (x ∷ xs) e after =
    let z : place + suc (length xs) ≡ suc place + length xs = omega arith in
    rw z (ap
    (λ ls. event place (kind_of x) (event_of c x).answer (names_of (cell_of (event_of c x))) ∷ ls)
    (each (suc place) (cell_of (event_of c x)) xs e after))

-- ---- the counts

answers_events : (place : ℕ) (c : Cell) (es : List Event) (ls : List Line) → answers_in ls ≡ []
    → answers_in (event_lines place c es ++ ls) ≡ answers c es
unfolding event_lines answers_in answers
answers_events place c [] ls z = z
answers_events place c (e ∷ es) ls z =
    ap (λ xs. (event_of c e).answer ∷ xs)
    (answers_events (suc place) (cell_of (event_of c e)) es ls z)

answers_end : (s : Script) (a r : ℕ) → answers_in (stop_lines s ++ (counts a r ∷ [])) ≡ []
unfolding stop_lines answers_in
answers_end ends a r = refl
answers_end (cuts at f o) a r = refl
answers_end (then e s) a r = answers_end s a r

counts_events : (xs : List ℕ) (place : ℕ) (c : Cell) (es : List Event) (ls : List Line)
    → All (CountsOf xs) ls
    → All (CountsOf xs) (event_lines place c es ++ ls)
unfolding event_lines All CountsOf
counts_events xs place c [] ls p = p
counts_events xs place c (e ∷ es) ls p =
    (tt, counts_events xs (suc place) (cell_of (event_of c e)) es ls p)

counts_end : (xs : List ℕ) (s : Script) (l : Line) → CountsOf xs l
    → All (CountsOf xs) (stop_lines s ++ (l ∷ []))
unfolding stop_lines All CountsOf
counts_end xs ends l p = (p, tt)
counts_end xs (cuts at f o) l p = (tt, (p, tt))
counts_end xs (then e s) l p = counts_end xs s l p

-- one line that has no counts
lone : (at f o : ℕ) → All (CountsOf (answers_in (stop at f o ∷ []))) (stop at f o ∷ [])
unfolding All CountsOf
lone at f o = (tt, tt)

script_counted : (g : Settings) (clock : ℕ) (c : Cell) (s : Script)
    → let ls = settings g clock ∷ script_lines c s in All (CountsOf (answers_in ls)) ls
unfolding script_lines All CountsOf answers_in
script_counted g clock c s =
    let es = events_of s in
    let xs = answers c es in
    let a : answers_in (event_lines 1 c es ++ (stop_lines s ++ (counts_of xs ∷ []))) ≡ xs =
    answers_events 1 c es _ (answers_end s (zeros xs) (others xs)) in
    subst (λ (ys : List ℕ). All (CountsOf ys) (settings g clock ∷ script_lines c s)) (sym a)
    (tt, counts_events xs 1 c es _ (counts_end xs s (counts_of xs) (refl, refl)))

opened_counted : (s : List ℕ) (g : Settings) (clock : ℕ) → let ls = opened_lines s g clock in
    All (CountsOf (answers_in ls)) ls
unfolding opened_lines
opened_counted s g clock = go (eqb (opening_refusal g clock) done)
  where
    go : (b : Bool)
        → let ls =
        cond b (settings g clock ∷ script_lines (opening g clock) (script_of s))
        (stop 0 (opening_refusal g clock) (opening_offset g clock) ∷ []) in
        All (CountsOf (answers_in ls)) ls
    go true = script_counted g clock (opening g clock) (script_of s)
    go false = lone 0 (opening_refusal g clock) (opening_offset g clock)

first_counted : (s : List ℕ) (f : First) → let ls = first_lines s f in
    All (CountsOf (answers_in ls)) ls
unfolding first_lines
first_counted s (First.Fault f o) = lone 0 f o
first_counted s (First.Given g clock) = opened_counted s g clock

counted : (s : List ℕ) → All (CountsOf (answers_in (lines_of s))) (lines_of s)
unfolding lines_of
counted s = go (leb (length s) longest_run)
  where
    go : (b : Bool)
        → let ls = cond b (first_lines s (first_record s)) (stop 0 refused_long 0 ∷ []) in
        All (CountsOf (answers_in ls)) ls
    go true = first_counted s (first_record s)
    go false = lone 0 refused_long 0

-- ---- whole records and the stop

-- what a file whose listing begins with its settings has
record Opened (s : List ℕ) (g : Settings) (clock : ℕ) : Type 0 where
  short : leb (length s) longest_run ≡ true
  first : first_record s ≡ First.Given g clock
  fine : eqb (opening_refusal g clock) done ≡ true

is_settings : {g h : Settings} {c d : ℕ} {ls ms : List Line} → settings g c ∷ ls ≡ settings h d ∷ ms
    → (g ≡ h) × (c ≡ d)
is_settings e = ((cc), (cc))

opened : (s : List ℕ) (g : Settings) (clock : ℕ) (ls : List Line)
    → lines_of s ≡ settings g clock ∷ ls → Opened s g clock
unfolding lines_of first_lines opened_lines
opened s g clock ls e = shorts (leb (length s) longest_run) refl e
  where
    fines : leb (length s) longest_run ≡ true → (h : Settings) (d : ℕ)
        → first_record s ≡ First.Given h d → (b : Bool) → eqb (opening_refusal h d) done ≡ b
        → cond b (settings h d ∷ script_lines (opening h d) (script_of s))
        (stop 0 (opening_refusal h d) (opening_offset h d) ∷ []) ≡ settings g clock ∷ ls
        → Opened s g clock
    fines l h d q true p z =
        let i = is_settings z in
        record { short = l; first = rw (← i.0, ← i.1) q; fine = rw (← i.0, ← i.1) p }
    fines l h d q false p z = absurd (let x : ◌≡◌ {A = ℕ} 0 1 = cc in omega arith)

    firsts : leb (length s) longest_run ≡ true → (f : First) → first_record s ≡ f
        → first_lines s f ≡ settings g clock ∷ ls → Opened s g clock
    firsts l (First.Fault f o) q z = absurd (let x : ◌≡◌ {A = ℕ} 0 1 = cc in omega arith)
    firsts l (First.Given h d) q z = fines l h d q (eqb (opening_refusal h d) done) refl z

    shorts : (b : Bool) → leb (length s) longest_run ≡ b
        → cond b (first_lines s (first_record s)) (stop 0 refused_long 0 ∷ [])
        ≡ settings g clock ∷ ls
        → Opened s g clock
    shorts true l z = firsts l (first_record s) refl z
    shorts false l z = absurd (let x : ◌≡◌ {A = ℕ} 0 1 = cc in omega arith)

-- and its listing then
lines_opened : (s : List ℕ) (g : Settings) (clock : ℕ) → Opened s g clock
    → lines_of s ≡ settings g clock ∷ script_lines (opening g clock) (script_of s)
unfolding lines_of first_lines opened_lines
lines_opened s g clock o = rw (o.short, o.first, o.fine)

whole : (s : List ℕ) (at f o : ℕ) (g : Settings) (clock : ℕ) (ls : List Line)
    → lines_of s ≡ settings g clock ∷ ls → StopsAt at f o (script_of s)
    → let es = events_of (script_of s) in
    let c = opening g clock in
    (lines_of s ≡ settings g clock
    ∷ (event_lines 1 c es ++ (stop at f o ∷ counts_of (answers c es) ∷ [])))
    × (lines_of (take at s) ≡ settings g clock
    ∷ (event_lines 1 c es ++ (counts_of (answers c es) ∷ [])))
unfolding script_lines
whole s at f o g clock ls e z =
    let begun = opened s g clock ls e in
    let r = stopped_at s at f o z in
    let l : length (take at s) ≤ longest_run =
    omega (
      arith,
      length-take-le at s (omega (arith, r.inside)),
      r.inside,
      leb-true (length s) longest_run begun.short,
    ) in
    let t : Opened (take at s) g clock =
    record {
      short = le-leb (length (take at s)) longest_run l;
      first = first_shorter s g clock at begun.first r.past;
      fine = begun.fine;
    } in (
      lines_opened s g clock begun ∙ rw (stop_line at f o (script_of s) z),
      lines_opened (take at s) g clock t
          ∙ rw (script_taken s at f o z, uncut_events (script_of s), uncut_stop (script_of s)),
    )

pub claims : Claims
claims = record { counted = counted; each = each; whole = whole }
