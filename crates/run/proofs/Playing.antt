-- The run of events, one turn at a time: what is still to come, done now, gives what the whole
-- gives. Assumes nothing.
use mathlib.Core.Path.{◌≡◌, refl, sym, ap, ◌∙◌}
use mathlib.Core.Bool.{cond}
use mathlib.Core.List.{List, [], ◌∷◌, ◌++◌}
use Prim.Native.Nat.{ℕ, suc, ◌+◌, ◌-◌, ◌*◌, ◌≤◌, ◌<◌}
use native.Mathlib.Omega.{arith}
use lib.Dec.{eqb}
use lib.ListN.{length}
use Rattle.base.specs.Refusals.{done}
use Rattle.text.specs.Parts.{Put}
use Rattle.text.proofs.Laws.{Todo, todo_begin, todo_step, todo_end, put_length}
use Rattle.state.specs.declared.Settings.{Settings}
use Rattle.host.specs.declared.Host.{Host}
use Rattle.slots.specs.declared.Slot.{Slot}
use Rattle.cell.specs.declared.Cell.{Cell}
use Rattle.cell.specs.declared.Event.{Event}
use Rattle.cell.specs.Answered.{Answered}
use Rattle.cell.specs.Events.{answered_with, cell_of, event_of}
use Rattle.cell.specs.Runs.{answers}
use Rattle.cell.specs.Claims.{Sound}
use Rattle.cell.proofs.StaysWithin.{kept_event}
use Rattle.record.specs.declared.Record.{Record as Answer}
use Rattle.record.specs.Read.{Record, numbered_record}
use Rattle.record.specs.Record.{kind_of, record_at}
use Rattle.record.proofs.Laws.{record_next}
use Rattle.lines.specs.Lines.{event, counts, line_text, text_of}
use Rattle.listing.specs.declared.Walk.{Walk}
use Rattle.listing.specs.Listing.{script_from, settings_length, longest_run, events_of, names_of}
use Rattle.listing.specs.Listing.{event_lines}
use Rattle.listing.specs.Listing.{stop_lines, zeros, others}
use Rattle.listing.specs.Parts.{walk_from, walked_to, last_lines}
use Rattle.listing.proofs.Counting.{done_most, done_zero, done_other, done_both}
use Rattle.listing.proofs.Records.{script_next}
use Rattle.run.specs.Parts.{script_after, events_after, answered_after, ahead}
use Rattle.run.specs.Parts.{Plays}

-- a cell of these parts
abbrev pub cell_with : Settings → List Host → List Slot → Cell
cell_with s hosts slots = record { settings = s; hosts = hosts; slots = slots }

-- the record at an offset is five bytes nearer to the end
pub ahead_next : (run : List ℕ) (next : ℕ) (r : Record) → record_at run next ≡ r
    → ahead run r ≤ length run - next
unfolding ahead
ahead_next run next Record.End q = omega arith
ahead_next run next (Record.Fault f o) q = omega arith
ahead_next run next (Record.Event e next') q = omega (arith, record_next run next e next' q)

-- the events and the stop from a record that is an event on
events_next : (run : List ℕ) (at : ℕ) (e : Event) (next : ℕ)
    → events_after run at (Record.Event e next) ≡ e ∷ events_after run next (record_at run next)
unfolding events_of
events_next run at e next = ap (λ s. e ∷ events_of s) (script_next run next)

stop_next : (run : List ℕ) (at : ℕ) (e : Event) (next : ℕ)
    → stop_lines (script_after run at (Record.Event e next))
    ≡ stop_lines (script_after run next (record_at run next))
unfolding stop_lines
stop_next run at e next = ap stop_lines (script_next run next)

-- the state of the loop: what it was handed, and what it holds now
pub record Going (c₀ : Cell) (first : Record) (run out₀ : List ℕ) (from : ℕ) (c : Cell) (r : Record)
    (out : List ℕ) (w : Walk) : Type 0 where
  pub sound : Sound c
  pub few : w.applied + w.refused + ahead run r ≤ ahead run first
  pub near : w.pos + 10 * ahead run r ≤ from + 10 * ahead run first
  pub same : length out ≡ length out₀
  pub left : answered_after (answered_with w.answer w.looked c) (events_after run w.at r)
      ≡ answered_after (answered_with done 0 c₀) (events_after run settings_length first)
  pub applied : w.applied + zeros (answers c (events_after run w.at r))
      ≡ zeros (answers c₀ (events_after run settings_length first))
  pub refused : w.refused + others (answers c (events_after run w.at r))
      ≡ others (answers c₀ (events_after run settings_length first))
  pub stops : stop_lines (script_after run w.at r)
      ≡ stop_lines (script_after run settings_length first)
  pub todo : Todo out w.pos
      (text_of (event_lines (w.applied + w.refused + 1) c (events_after run w.at r))) out₀ from
      (text_of (event_lines 1 c₀ (events_after run settings_length first)))

pub going_first : (c : Cell) (first : Record) (run out : List ℕ) (from : ℕ) → Sound c
    → Going c first run out from c first out (walk_from from)
going_first c first run out from s =
    record {
      sound = s;
      few = omega arith;
      near = omega arith;
      same = refl;
      left = refl;
      applied = omega arith;
      refused = omega arith;
      stops = refl;
      todo = todo_begin _ _ _;
    }

-- an event's turn: its line is written, and the next record read
module _ {c₀ : Cell} {first : Record} {run out₀ : List ℕ} {from : ℕ} {c : Cell} {r : Answer}
    {out : List ℕ} {w : Walk} (g : Going c₀ first run out₀ from c (numbered_record r) out w)
    (e : Event) (next : ℕ) (is : r ≡ Answer.Event e next)
  where
    f : numbered_record r ≡ Record.Event e next
    f = ap numbered_record is

    -- what is ahead, and the events that are
    ahead_is : ahead run (numbered_record r) ≡ 5 + (length run - next)
    unfolding ahead
    ahead_is = rw f

    abbrev later : List Event
    later = events_after run next (record_at run next)

    events_are : events_after run w.at (numbered_record r) ≡ e ∷ later
    events_are = ap (events_after run w.at) f ∙ events_next run w.at e next

    pub going_count : ahead run first ≤ longest_run → w.applied + w.refused + 1 < 100000
    going_count l = omega (arith, l, g.few)

    pub going_nearer : (r' : Record) → r' ≡ record_at run next
        → ahead run r' < ahead run (numbered_record r)
    going_nearer r' q = omega (arith, ahead_is, ahead_next run next r' (sym q))

    -- a line of 50 bytes has room
    pub going_room : from + 10 * ahead run first ≤ length out₀ → w.pos + 50 ≤ length out
    going_room l = omega (arith, l, g.near, g.same, ahead_is)

    pub going_turn : (c' : Cell) (out' : List ℕ) (answer looked pos : ℕ) (r' : Record)
        → answered_with answer looked c' ≡ event_of c e
        → Put out w.pos
        (line_text
        (event (w.applied + w.refused + 1) (kind_of e) answer (names_of c'))) pos
        out'
        → pos ≤ w.pos + 50 → r' ≡ record_at run next
        → Going c₀ first run out₀ from c' r' out'
        (walked_to w answer looked next pos)
    unfolding walked_to answered_after answers zeros others event_lines text_of
    going_turn c' out' answer looked pos r' q t short k =
        let d = done_most answer in
        let l = ahead_next run next (record_at run next) refl in
        let place = w.applied + w.refused + 1 in
        rw k
        (record {
          sound = rw (ap cell_of q) (kept_event c e g.sound);
          few = omega (arith, d, l, ahead_is, g.few);
          near = omega (arith, l, short, ahead_is, g.near);
          same = put_length t ∙ g.same;
          left = ap (λ (x : Answered). answered_after x later) q ∙ (rw events_are at g.left);
          applied =
              done_zero w.applied answer (zeros (answers c' later))
              ∙ ap
              (λ (x : Answered).
              w.applied + (cond (eqb x.answer done) 1 0 + zeros (answers (cell_of x) later))) q
              ∙ (rw events_are at g.applied);
          refused =
              done_other w.refused answer (others (answers c' later))
              ∙ ap
              (λ (x : Answered).
              w.refused + (cond (eqb x.answer done) 0 1 + others (answers (cell_of x) later)))
              q
              ∙ (rw events_are at g.refused);
          stops = sym (ap (λ (x : Record). stop_lines (script_after run w.at x)) f
              ∙ stop_next run w.at e next)
              ∙ g.stops;
          todo = todo_step g.todo
              (ap (λ (es : List Event). text_of (event_lines place c es)) events_are
              ∙ ap
              (λ (x : Answered).
              line_text (event place (kind_of e) x.answer (names_of (cell_of x)))
              ++ text_of (event_lines (suc place) (cell_of x) later)) (sym q)
              ∙ rw (done_both w.applied w.refused answer))
              t;
        })

-- what the `else` of a `let .. else` knows of a record
abbrev pub NoEvent : Answer → Type 0
NoEvent r = (e : Event) (next : ℕ) → r ≡ Answer.Event e next → ⊥

-- at a record that is no event nothing is left, and its lines are the last
no_events : (run : List ℕ) (at : ℕ) (r : Answer) → NoEvent r
    → events_after run at (numbered_record r) ≡ []
unfolding events_of
no_events run at Answer.End t = refl
no_events run at (Answer.Fault f o) t = refl
no_events run at (Answer.Event e next) t = absurd (t e next refl)

last_lines_lem : (run : List ℕ) (at a k : ℕ) (r : Answer) → NoEvent r
    → last_lines at a k (numbered_record r)
    ≡ stop_lines (script_after run at (numbered_record r)) ++ (counts a k ∷ [])
unfolding last_lines stop_lines
last_lines_lem run at a k Answer.End t = refl
last_lines_lem run at a k (Answer.Fault f o) t = refl
last_lines_lem run at a k (Answer.Event e next) t = absurd (t e next refl)

pub going_end : {c₀ : Cell} {first : Record} {run out₀ : List ℕ} {from : ℕ} {c : Cell} {r : Answer}
    {out : List ℕ} {w : Walk} → Going c₀ first run out₀ from c (numbered_record r) out w → NoEvent r
    → from + 10 * ahead run first ≤ length out₀
    → Plays c₀ first run out₀ from
    (record { cell = c; last = r; walk = w }) out
unfolding answered_after answers zeros others event_lines text_of
going_end {run = run} {r = r} {w = w} g t l =
    let none = no_events run w.at r t in
    let applied : w.applied + 0 ≡ _ = rw none at g.applied in
    let refused : w.refused + 0 ≡ _ = rw none at g.refused in
    record {
      left = rw none at g.left;
      applied = omega (arith, applied);
      refused = omega (arith, refused);
      over = none;
      ended = λ a k. last_lines_lem run w.at a k r t ∙ ap (λ ls. ls ++ (counts a k ∷ [])) g.stops;
      written = todo_end g.todo (rw none) (omega (arith, l, g.near, g.same));
      near = omega (arith, g.near);
    }

-- a run of one event
pub one_event : (c : Cell) (e : Event)
    → answered_after (answered_with done 0 c) (events_after [] settings_length (Record.Event e 0))
    ≡ event_of c e
unfolding answered_after events_of script_from
one_event c e = refl

pub one_ahead : (e : Event) → ahead [] (Record.Event e 0) ≡ 5
unfolding ahead
one_ahead e = refl
