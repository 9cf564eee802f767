-- An event of a cell that runs: what is sent is placed or has no room for it, and what was found of
-- the event is what cell/specs/Events says of it. Assumes nothing.
use mathlib.Core.Path.{◌≡◌, refl, sym, ap, ◌∙◌}
use mathlib.Core.Bool.{Bool, true, false, cond, ◌&&◌}
use mathlib.Core.Logic.{inl, inr, ⊎_elim}
use mathlib.Core.List.{List, [], ◌∷◌}
use Prim.Native.Nat.{ℕ, zero, suc, ◌+◌, ◌≤◌, ◌<◌}
use native.Mathlib.Omega.{arith}
use native.Mathlib.Decide.{dec_lt}
use lib.Dec.{ltb, eqb}
use lib.ListN.{length, get_or, set, take, get_or-eq_default}
use borrow.Author.Tests.{eqb-true, eqb-false, lt-ltb, le-ltb, le-leb, lt-leb}
use Rattle.std.specs.Prelude.{Option, Some, None}
use Rattle.std.specs.Option.{ok_or}
use Rattle.std.specs.declared.result.Result.{Result}
use Rattle.std.proofs.lemmas.List.{get_or-take}
use Rattle.base.specs.declared.Refusal.{Refusal}
use Rattle.base.specs.Refusals.{done, unless, first_of, refused_cell, refused_host, refused_slot}
use Rattle.base.specs.Refusals.{refused_full}
use Rattle.base.specs.Answers.{refusal_number, answer_of}
use Rattle.base.proofs.Tests.{by_test, first_next, first_only, first_found, unless_next}
use Rattle.quorum.specs.Sets.{members, single_of}
use Rattle.quorum.proofs.Laws.{members_none, members_single}
use Rattle.message.specs.declared.Message.{Message}
use Rattle.message.specs.Message.{target_of, addressed_to, numbers_of}
use Rattle.message.specs.Faults.{fault_of}
use Rattle.message.proofs.Laws.{message_numbers, target_in_lem}
use Rattle.state.specs.StateLimits.{sizes_of}
use Rattle.host.specs.declared.Host.{Host}
use Rattle.host.specs.declared.Sent.{Sent}
use Rattle.host.specs.declared.Step.{Step}
use Rattle.host.specs.Stepped.{Stepped}
use Rattle.host.specs.Told.{done_with, stepped_of, told}
use Rattle.host.specs.Parts.{Handed}
use Rattle.host.specs.Claims.{Lawful}
use Rattle.host.specs.Steps.{start_refusal, start_of, release_refusal, release_of, restart_refusal}
use Rattle.host.specs.Steps.{on_delivery, restart_of, restarted_host, quiet_with}
use Rattle.host.proofs.Outcomes.{gets}
use Rattle.host.proofs.Within.{Fine, fine_step, lawful_restart, lawful_start, lawful_release}
use Rattle.slots.specs.declared.Slot.{Slot}
use Rattle.slots.specs.Slots.{slot_count, empty_slot, slot_with, is_empty, empties, full_refusal}
use Rattle.slots.specs.Slots.{looked_for, freed, placed, placed_each, slot_refusal}
use Rattle.cell.specs.declared.Cell.{Cell}
use Rattle.cell.specs.declared.Event.{Event}
use Rattle.cell.specs.declared.Event.TheVariants.{Start, Deliver, Lose, Repeat, Restart, Release}
use Rattle.cell.specs.CellLimits.{host_at, with_host_at, content_at, cell_ok}
use Rattle.cell.specs.Claims.{Sized}
use Rattle.cell.specs.Answered.{Answered, looked_in}
use Rattle.cell.specs.Answered.{told as told_answer}
use Rattle.cell.specs.Events.{answered_with, cell_of, with_slots, messages_in, step_full}
use Rattle.cell.specs.Events.{step_looked, sent_to, stepped, step_at_refusal, refusal_of, after_of}
use Rattle.cell.specs.Events.{placing_of, event_of, start_step, release_step, start_at_refusal}
use Rattle.cell.specs.Events.{release_at_refusal, restart_at_refusal}
use Rattle.cell.specs.Events.{deliver_step, deliver_refusal, deliver_full, deliver_looked}
use Rattle.cell.specs.Events.{delivered, lose_refusal, repeat_refusal, repeated}
use Rattle.cell.proofs.CellLimits.{cell_in, host_of_lem, n_of, message_of_lem}
use Rattle.cell.proofs.Looked.{NotFull, Counted, counted_writes, start_not_full}
use Rattle.cell.proofs.Looked.{release_not_full, restart_not_full}
use Rattle.cell.proofs.StaysWithin.{kept_event}
use Rattle.cell.proofs.Looked.{refused_looks, full_looks}
use Rattle.acts.proofs.Advances as A
use Rattle.acts.proofs.Advances.{event_is, event_refused, not_done}
use Rattle.placing.specs.declared.Fill.{Fill}
use Rattle.placing.specs.declared.Placed.{Placed}
use Rattle.placing.specs.Parts.{Frees, with_freed, no_fill, stored, Fills, Outcome}
use Rattle.placing.proofs.Laws.{frees_set, frees_free}
use Rattle.run.specs.declared.running.Running.{Running}
use Rattle.run.specs.Running.{Ready, Fresh, Room, Found, Filled, Placing, Sends, Carries, Stepping}
use Rattle.run.specs.Running.{Steps, Does, freed_in}
use Rattle.run.specs.Running.{freed_of, sent_count, sent_in, sent_receivers}

-- ---- slots freed and filled

pub freed_frees : (f : Option ℕ) {ss : List Slot} {free : List Bool} → Frees ss free
    → ((i : ℕ) → f ≡ Some i → i < slot_count) → Frees (freed_in f ss) (with_freed f free)
unfolding freed_in with_freed
freed_frees None p b = p
freed_frees (Some i) p b = frees_free i p (b i refl)

pub filled_first : (c : Cell) (items : List Fill) (m : Message)
    → c ≡ with_slots c (stored 0 items m c.slots)
unfolding stored
filled_first c items m = refl

-- one slot more
pub filled_next : (c d : Cell) (i : ℕ) (items : List Fill) (m x : Message)
    → d ≡ with_slots c (stored i items m c.slots)
    → x ≡ addressed_to m (get_or items i no_fill).host
    → with_slots d (set d.slots (get_or items i no_fill).slot (slot_with x))
    ≡ with_slots c (stored (i + 1) items m c.slots)
unfolding stored
filled_next c d i items m x e q = let g : i + 1 ≡ suc i = omega arith in rw (g, e, q)

pub filled_frees : {ss : List Slot} {free : List Bool} (i : ℕ) (m : Message) → Frees ss free
    → i < slot_count → Frees (set ss i (slot_with m)) (set free i false)
unfolding is_empty
filled_frees i m p b = frees_set i false (slot_with m) p b refl

-- what is sent, stored into the slots that were found for it
unfoldable pub stored_in : Option Message → ℕ → List Fill → List Slot → List Slot
stored_in None k fills ss = ss
stored_in (Some m) k fills ss = stored k fills m ss

-- the slots that were found are the first of nine
stored_front : (j k : ℕ) (fills : List Fill) (m : Message) (ss : List Slot) → j ≤ k
    → stored j (take k fills) m ss ≡ stored j fills m ss
unfolding stored
stored_front zero k fills m ss b = refl
stored_front (suc j) k fills m ss b =
    rw (get_or-take k fills j no_fill (omega arith), stored_front j k fills m ss (omega arith))

pub stored_all : (j k : ℕ) (items fills : List Fill) (m : Message) (ss : List Slot)
    → items ≡ take k fills → j ≡ k → stored j items m ss ≡ stored k fills m ss
stored_all j k items fills m ss e q = rw (e, q) (stored_front k k fills m ss (omega arith))

pub found_at : (x : Running) (items : List Fill) (i : ℕ) → Found x
    → items ≡ take x.placed.count x.placed.fills → i < x.placed.count
    → (get_or items i no_fill).slot < slot_count
found_at x items i g e b =
    rw (e, get_or-take x.placed.count x.placed.fills i no_fill b) (g.within i b)

-- ---- what is sent

no_answer : {k : Refusal} → ◌≡◌ {A = Result Unit Refusal} (Result.Ok tt) (Result.Err k) → ⊥
no_answer e = cc

module _ (x : Running) (f : Option ℕ) (room : Room x f) where
  abbrev then_slots : List Slot
  then_slots = freed_in f x.cell.slots

  now_free : Frees then_slots (with_freed f x.free)
  now_free = freed_frees f room.frees room.there

  -- nothing is sent
  pub sends_none : x.placed.looked ≡ 0 → Sends x.cell f None (Result.Ok tt) (freed_of x f)
  unfolding sent_in sent_receivers looked_for
  sends_none e =
      let none : length (members x.cell.settings.n 0) ≡ 0 =
      ap length (members_none 0 0 x.cell.settings.n refl) in
      record {
        looked = e ∙ rw none refl;
        frees = now_free;
        comes = inl (refl, omega (arith, none), refl);
      }

  module _ (s : Sent) (r : Result Unit Refusal) (p : Placed)
      (w : Outcome (with_freed f x.free) s.receivers x.cell.settings.n r p)
    where
      -- without room
      pub sends_not : (k : Refusal) → r ≡ Result.Err k
          → Sends x.cell f (Some s) (Result.Err k) (record x { placed = p })
      unfolding Outcome sent_receivers
      sends_not k e =
          ⊎_elim (λ y. absurd (no_answer (sym y.0 ∙ e)))
          (λ y.
          record {
            looked = y.1.1.0 ∙ y.1.1.1.looked_is then_slots now_free;
            frees = room.frees;
            comes = inr (sym e ∙ y.0, y.1.1.1.too_few then_slots now_free, refl);
          }) w

      -- with it
      fits : r ≡ Result.Ok tt → Fills (with_freed f x.free) s.receivers x.cell.settings.n p
      unfolding Outcome
      fits e = ⊎_elim (λ y. y.1) (λ y. absurd (no_answer (sym e ∙ y.0))) w

      abbrev after : Running
      after = freed_of (record x { placed = p }) f

      -- slots are found in either case, without room none
      pub found_in : Found after
      unfolding Outcome
      found_in =
          ⊎_elim
          (λ y.
          record {
            frees = now_free;
            few = omega (arith, y.1.few, room.few);
            within = y.1.within;
          })
          (λ y.
          record {
            frees = now_free;
            few = omega (arith, y.1.0);
            within = λ i b. absurd (omega (arith, y.1.0, b));
          }) w

      pub sends : (y : Running) → r ≡ Result.Ok tt → Filled after s y
          → Sends x.cell f (Some s) (Result.Ok tt) y
      unfolding sent_in sent_receivers
      sends y e d =
          let l = fits e in
          record {
            looked = ap (λ (u : Placed). u.looked) d.placed ∙ l.looked_is then_slots now_free;
            frees = d.frees;
            comes =
                inl (
                  refl,
                  l.enough then_slots now_free,
                  d.cell ∙ rw (l.placed_is then_slots s.message now_free) refl,
                );
          }

-- ---- the host that stepped is stored too

module _ (x : Running) (h : ℕ) (f : Option ℕ) (s : Step) where
  pub carries_not : (k : Refusal) (y : Running) → Sends x.cell f s.sent (Result.Err k) y
      → Carries x.cell h f s (Result.Err k) y
  carries_not k y w =
      record {
        looked = w.looked;
        frees = w.frees;
        comes = ⊎_elim (λ z. absurd (no_answer (sym z.0))) (λ z. inr z) w.comes;
      }

  pub carries : (y : Running) → Sends x.cell f s.sent (Result.Ok tt) y
      → Carries x.cell h f s (Result.Ok tt) (record y { cell = with_host_at y.cell h s.host })
  carries y w =
      record {
        looked = w.looked;
        frees = w.frees;
        comes =
            ⊎_elim (λ z. inl (z.0, z.1, ap (λ (c : Cell). with_host_at c h s.host) z.2))
            (λ z. absurd (no_answer z.0)) w.comes;
      }

-- ---- an event of a cell that runs

-- where no slot was looked at yet
pub fresh : (x : Running) → Ready x → Fresh (record x { placed = record x.placed { looked = 0 } })
fresh x g = record { ready = record { sound = g.sound; frees = g.frees }; unlooked = refl }

-- what a step sends, as the definitions have it
told_sent : (n : ℕ) (ss : List Slot) (h : Host) (o : Option Sent)
    → sent_to n ss (done_with h o).sent (done_with h o).receivers ≡ sent_in n ss o
unfolding done_with sent_to sent_in
told_sent n ss h None = refl
told_sent n ss h (Some s) = refl

told_count : (n : ℕ) (h : Host) (o : Option Sent)
    → Counted n (done_with h o).sent (done_with h o).receivers
    → messages_in (done_with h o).sent (done_with h o).receivers ≡ sent_count n o
unfolding done_with messages_in sent_receivers Counted
told_count n h None w =
    let none : members n 0 ≡ [] = members_none 0 0 n refl in
    sym (ap length none)
told_count n h (Some s) w = w

told_host : (h : Host) (o : Option Sent) → (done_with h o).host ≡ h
unfolding done_with
told_host h None = refl
told_host h (Some s) = refl

told_done : (h : Host) (o : Option Sent) → (done_with h o).answer ≡ done
unfolding done_with
told_done h None = refl
told_done h (Some s) = refl

-- a step of host k that is refused by a number of its own, or carried out with what it sends
pub record Own (c : Cell) (e : Event) (k number : ℕ) (step act : Stepped) : Type 0 where
  pub lawful : Lawful c.settings (host_at c k) number step act
  pub not_full : NotFull number
  pub refusal : refusal_of c e ≡ step_at_refusal c k number step
  pub placing : placing_of c e ≡ step_looked c.slots step
  pub after : after_of c e ≡ stepped c k c.slots step

pub own_start : (c : Cell) (h d : ℕ)
    → Own c (Start h d) h (start_refusal c.settings (host_at c h) d) (start_step c h d)
    (start_of c.settings (host_at c h) d)
unfolding refusal_of start_at_refusal placing_of after_of
own_start c h d =
    record {
      lawful = lawful_start c.settings (host_at c h) d;
      not_full = start_not_full c.settings (host_at c h) d;
      refusal = refl;
      placing = refl;
      after = refl;
    }

pub own_release : (c : Cell) (h : ℕ)
    → Own c (Release h) h (release_refusal c.settings (host_at c h)) (release_step c h)
    (release_of c.settings (host_at c h))
unfolding refusal_of release_at_refusal placing_of after_of
own_release c h =
    record {
      lawful = lawful_release c.settings (host_at c h);
      not_full = release_not_full c.settings (host_at c h);
      refusal = refl;
      placing = refl;
      after = refl;
    }

-- nothing is sent, which has room
pub own_restart : (c : Cell) (h : ℕ)
    → Own c (Restart h) h (restart_refusal c.settings (host_at c h))
    (quiet_with (restarted_host c.settings (host_at c h))) (restart_of c.settings (host_at c h))
unfolding refusal_of restart_at_refusal placing_of after_of stepped sent_to messages_in looked_for
    first_of
own_restart c h =
    record {
      lawful = lawful_restart c.settings (host_at c h);
      not_full = restart_not_full c.settings (host_at c h);
      refusal = rw (le-leb 0 (empties c.slots) (omega arith)) refl;
      placing = refl;
      after = refl;
    }

module _ (x : Running) (g : Fresh x) where
  pub few : x.cell.settings.n ≤ 9
  few = (n_of x.cell g.ready.sound.1).few

  pub room_none : Room x None
  room_none = record { few = few; frees = g.ready.frees; there = λ i q. cc }

module _ (x : Running) (g : Fresh x) (e : Event) where
  abbrev c : Cell
  c = x.cell

  abbrev n : ℕ
  n = c.settings.n

  -- done or refused, it is ready again
  does : (r : Result Unit Refusal) (y : Running)
      → answered_with (answer_of r) y.placed.looked y.cell ≡ event_of c e
      → Frees y.cell.slots y.free → Does x.cell e r y
  does r y q p =
      record {
        is = q;
        ready = record { sound = rw (ap cell_of q) (kept_event c e g.ready.sound); frees = p };
      }

  -- an advance
  pub does_at_once : (r : Result Unit Refusal) (d : Cell)
      → answered_with (answer_of r) 0 d ≡ event_of c e → d.slots ≡ c.slots
      → Does x.cell e r (record x { cell = d })
  does_at_once r d q s =
      does r (record x { cell = d }) (rw g.unlooked q) (rw s g.ready.frees)

  pub refused_by : (k : Refusal) → refusal_of c e ≡ refusal_number k → NotFull (refusal_number k)
      → Does x.cell e (Result.Err k) x
  unfolding answer_of
  refused_by k q f =
      does (Result.Err k) x (rw g.unlooked (event_refused c e (refusal_number k) q (not_done k) f))
      g.ready.frees

  pub placed_by : (ss : List Slot) (k : ℕ) (after : Cell) (r : Result Unit Refusal) (y : Running)
      → Placing x.cell ss k after r y → refusal_of c e ≡ full_refusal k ss
      → placing_of c e ≡ looked_for k ss → after_of c e ≡ after → Does x.cell e r y
  unfolding answer_of refusal_number
  placed_by ss k after r y w q p a =
      does r y
      (⊎_elim
      (λ z.
      rw (z.0, z.2, w.looked)
      (rw (p, a) at (event_is c e done (q ∙ rw (le-leb k (empties ss) z.1)))))
      (λ z.
      rw (z.0, z.2, w.looked)
      (rw p at (event_is c e refused_full (q ∙ rw (lt-leb k (empties ss) z.1))))) w.comes)
      w.frees

  -- ---- a step of one host

  module _ (k number : ℕ) (step act : Stepped) (o : Own c e k number step act) where
    abbrev rest : List ℕ
    rest = number ∷ step_full c.slots step ∷ []

    pub no_host : n ≤ k → Does x.cell e (Result.Err Refusal.Host) x
    unfolding refusal_number
    no_host b =
        refused_by Refusal.Host
        (o.refusal ∙ unless_next (cell_ok c) refused_cell _ g.ready.sound.1
        ∙ ap (λ (t : Bool). first_of (unless t refused_host ∷ rest)) (le-ltb k n b)
        ∙ first_found refused_host rest (λ q. absurd (omega (arith, q))))
        (λ q. absurd (omega (arith, q)))

    module _ (b : k < n) where
      reached : refusal_of c e ≡ first_of rest
      reached =
          o.refusal ∙ unless_next (cell_ok c) refused_cell _ g.ready.sound.1
          ∙ unless_next (ltb k n) refused_host rest (lt-ltb k n b)

      pub step_refused : (q : Refusal) → told (host_at c k) (Result.Err q) ≡ act
          → Does x.cell e (Result.Err q) x
      unfolding told
      step_refused q t =
          let same : refusal_number q ≡ number =
          ap (λ (s : Stepped). s.answer) t ∙ o.lawful.number in
          refused_by q
          (reached ∙ first_found number _ (λ z. not_done q (same ∙ z)) ∙ sym same)
          (λ z. o.not_full (sym same ∙ z))

      pub step_done : (s : Step) (y : Running) (r : Result Unit Refusal)
          → told (host_at c k) (Result.Ok s) ≡ act → Carries x.cell k None s r y
          → Does x.cell e r y
      unfolding told stepped_of freed_in stepped
      step_done s y r t w =
          let d = done_with s.host s.sent in
          let zero : number ≡ done =
          sym o.lawful.number ∙ ap (λ (u : Stepped). u.answer) (sym t) ∙ told_done s.host s.sent in
          let is : step ≡ d = sym (o.lawful.carried_out zero) ∙ sym t in
          let writable = rw (← t) at o.lawful.writable in
          let many =
          told_count n s.host s.sent
          (counted_writes c.settings d.sent d.receivers writable) in
          placed_by c.slots (sent_count n s.sent)
          (with_slots (with_host_at c k s.host) (sent_in n c.slots s.sent)) r y w
          (reached ∙ first_next number _ zero ∙ rw (is, many) (first_only _))
          (o.placing ∙ rw (is, many) refl)
          (o.after ∙ rw (is, told_host s.host s.sent, told_sent n c.slots s.host s.sent) refl)

-- ---- an event at a slot

-- what `message_in` hands back
pub message_there : (t : Option Message) (m : Message) → ok_or t Refusal.Slot ≡ Result.Ok m
    → t ≡ Some m
message_there None m e = cc
message_there (Some m') m e = cc

pub no_message : (t : Option Message) (k : Refusal) → ok_or t Refusal.Slot ≡ Result.Err k
    → (t ≡ None) × (k ≡ Refusal.Slot)
no_message None k e = (refl, cc)
no_message (Some m') k e = cc

filled_slot : (ss : List Slot) (i : ℕ) (m : Message) → length ss ≡ slot_count
    → (get_or ss i empty_slot).content ≡ Some m → i < slot_count
filled_slot ss i m long e = go (dec_lt i slot_count)
  where
    go : Dec (i < slot_count) → i < slot_count
    go (yes b) = b
    go (no b) =
        let none : get_or ss i empty_slot ≡ empty_slot =
        get_or-eq_default ss empty_slot (omega (arith, long)) in
        absurd (no_some (ap (λ (s : Slot). s.content) (sym none) ∙ e))
      where
        no_some : {m : Message} → ◌≡◌ {A = Option Message} None (Some m) → ⊥
        no_some e = cc

-- in a cell within its limits the host refuses no message under way: it stays within its limits,
-- and writing refuses nothing in its reply
pub replied : (c : Cell) (i : ℕ) (m : Message) → cell_ok c ≡ true → content_at c i ≡ Some m
    → Fine c.settings (deliver_step c m)
replied c i m o t =
    let sendable = message_of_lem c i m o t in
    fine_step c.settings (host_at c (target_of m)) (gets m)
    (host_of_lem c (target_of m) o (target_in_lem (sizes_of c.settings) m sendable)) sendable

module _ (x : Running) (g : Fresh x) (i : ℕ) where
  abbrev d : Cell
  d = x.cell

  -- it is empty
  pub slot_empty : (e : Event) (ks : List ℕ) → content_at d i ≡ None
      → refusal_of d e
      ≡ first_of (unless (cell_ok d) refused_cell ∷ slot_refusal i (content_at d i) ∷ ks)
      → Does x.cell e (Result.Err Refusal.Slot) x
  unfolding refusal_number is_empty
  slot_empty e ks t r =
      refused_by x g e Refusal.Slot
      (r ∙ unless_next (cell_ok d) refused_cell _ g.ready.sound.1 ∙ rw t (go (ltb i slot_count)))
      (λ q. absurd (omega (arith, q)))
    where
      go : (b : Bool) → first_of (unless (b && false) refused_slot ∷ ks) ≡ refused_slot
      go true = first_found refused_slot ks (λ q. absurd (omega (arith, q)))
      go false = first_found refused_slot ks (λ q. absurd (omega (arith, q)))

  -- it holds a message
  module _ (m : Message) (t : content_at d i ≡ Some m) where
    pub slot_there : i < slot_count
    slot_there = filled_slot d.slots i m g.ready.frees.slots t

    slot_passed : (ks : List ℕ)
        → first_of (unless (cell_ok d) refused_cell ∷ slot_refusal i (content_at d i) ∷ ks)
        ≡ first_of ks
    unfolding is_empty
    slot_passed ks =
        unless_next (cell_ok d) refused_cell _ g.ready.sound.1
        ∙ rw (t, lt-ltb i slot_count slot_there) (first_next done ks refl)

    pub sendable : fault_of (sizes_of d.settings) (numbers_of m) ≡ done
    sendable = message_of_lem d i m g.ready.sound.1 t

    pub target_low : target_of m < d.settings.n
    target_low = target_in_lem (sizes_of d.settings) m sendable

    pub handed : Handed d.settings (host_at d (target_of m)) m
    handed =
        record {
          host = (cell_in d g.ready.sound.0 g.ready.sound.1).host (target_of m) target_low;
          message = sendable;
        }

    pub room_freed : Room x (Some i)
    room_freed =
        record {
          few = few x g;
          frees = g.ready.frees;
          there = λ k q. let e : i ≡ k = cc in rw (← e) slot_there;
        }

    pub lost : (r : Result Unit Refusal) (y : Running) → Sends x.cell (Some i) None r y
        → Does x.cell (Lose i) r y
    unfolding freed_in sent_in sent_receivers refusal_of lose_refusal placing_of after_of looked_for
        first_of
    lost r y w =
        let none : length (members d.settings.n 0) ≡ 0 =
        ap length (members_none 0 0 d.settings.n refl) in
        let k = sent_count d.settings.n None in
        placed_by x g (Lose i) (freed d.slots i) k (with_slots d (freed d.slots i)) r y w
        (slot_passed []
        ∙ ap (λ (b : Bool). unless b refused_full)
        (sym (le-leb k (empties (freed d.slots i)) (omega (arith, none)))))
        (rw none refl) refl

    -- a message to its own target alone
    own_sent : sent_in d.settings.n d.slots
        (Some (record { message = m; receivers = single_of (target_of m) }))
        ≡ placed d.slots m
    unfolding sent_in placed_each addressed_to
    own_sent = rw (members_single d.settings.n (target_of m) target_low, message_numbers m)

    pub repeats : (o : Sent) (r : Result Unit Refusal) (y : Running)
        → o ≡ record { message = m; receivers = single_of (target_of m) }
        → Sends x.cell None (Some o) r y → Does x.cell (Repeat i) r y
    unfolding freed_in sent_receivers refusal_of repeat_refusal placing_of after_of repeated
    repeats o r y q w =
        let one : length (members d.settings.n (single_of (target_of m))) ≡ 1 =
        ap length (members_single d.settings.n (target_of m) target_low) in
        placed_by x g (Repeat i) d.slots (sent_count d.settings.n (Some o))
        (with_slots d (sent_in d.settings.n d.slots (Some o))) r y w
        (slot_passed (full_refusal 1 d.slots ∷ []) ∙ first_only _ ∙ rw (q, one) refl)
        (rw (q, one) refl) (rw (t, q, own_sent) refl)

    pub delivers : (s : Step) (r : Result Unit Refusal) (y : Running)
        → stepped_of s ≡ on_delivery d.settings (host_at d (target_of m)) m
        → Carries x.cell (target_of m) (Some i) s r y → Does x.cell (Deliver i) r y
    unfolding freed_in refusal_of deliver_refusal deliver_full placing_of deliver_looked after_of
        delivered stepped stepped_of
    delivers s r y q w =
        let fine = replied d i m g.ready.sound.1 t in
        let u = done_with s.host s.sent in
        let writable = rw (← q) at fine.writable in
        let many =
        told_count d.settings.n s.host s.sent
        (counted_writes d.settings u.sent u.receivers writable) in
        placed_by x g (Deliver i) (freed d.slots i) (sent_count d.settings.n s.sent)
        (with_slots (with_host_at d (target_of m) s.host)
        (sent_in d.settings.n (freed d.slots i) s.sent)) r y w
        (slot_passed (deliver_full d i (content_at d i) ∷ []) ∙ first_only _
        ∙ rw (t, ← q, many) refl)
        (rw (t, ← q, many) refl)
        (rw (
          t,
          ← q,
          told_host s.host s.sent,
          told_sent d.settings.n (freed d.slots i) s.host s.sent,
        ) refl)

-- ---- an event at one host, and an advance

pub steps_on : (x : Running) (g : Fresh x) (e : Event) (k number : ℕ) (step act : Stepped)
    → Own x.cell e k number step act → (gives : Result Step Refusal → Type 0)
    → ((t : Result Step Refusal) → gives t → told (host_at x.cell k) t ≡ act)
    → (r : Result Unit Refusal) (y : Running) → Steps x k gives r y → Does x.cell e r y
unfolding Stepping
steps_on x g e k number step act o gives f r y w =
    ⊎_elim (λ z. rw (z.1, z.2) (no_host x g e k number step act o z.0))
    (λ z. go z.1.0 z.0 (f z.1.0 z.1.1) z.1.2) w
  where
    go : (t : Result Step Refusal) → k < x.cell.settings.n → told (host_at x.cell k) t ≡ act
        → Stepping x k t r y → Does x.cell e r y
    go (Result.Ok s) b q v = step_done x g e k number step act o b s y r q v
    go (Result.Err q) b p v =
        rw (v.0, v.1) (step_refused x g e k number step act o b q p)

still_slots : (c : Cell) (e : Event) → (after_of c e).slots ≡ c.slots
    → (event_of c e).slots ≡ c.slots
unfolding event_of
still_slots c e q =
    by_test (λ (a : Answered). a.slots ≡ c.slots) (eqb (refusal_of c e) done) _ _ (λ _. q)
    (λ _. refl)

pub advances : (x : Running) (g : Fresh x) (e : Event) (r : Result Unit Refusal) (d : Cell)
    → (after_of x.cell e).slots ≡ x.cell.slots
    → answered_with (answer_of r) 0 d ≡ event_of x.cell e
    → Does x.cell e r (record x { cell = d })
advances x g e r d s q =
    does_at_once x g e r d q (ap (λ (a : Answered). a.slots) q ∙ still_slots x.cell e s)

-- ---- an event by itself

-- a cell past its limits: 1, whatever the event
pub past_limits : (c : Cell) (e : Event) → cell_ok c ≡ false
    → told_answer (record { answer = Result.Err Refusal.Cell; cell = c }) ≡ event_of c e
unfolding told_answer answer_of looked_in refusal_number
past_limits c e o = A.past_limits c e o

-- what it is answered, with how many slots were looked at
pub answers_event : (c : Cell) (e : Event) (z : Sized c) (r : Result Unit Refusal)
    (a : Result ℕ Refusal) (looked : ℕ) (d : Cell) → (r ≡ Result.Ok tt → a ≡ Result.Ok looked)
    → ((k : Refusal) → r ≡ Result.Err k → a ≡ Result.Err k)
    → answered_with (answer_of r) looked d ≡ event_of c e
    → told_answer (record { answer = a; cell = d }) ≡ event_of c e
unfolding told_answer answer_of looked_in
answers_event c e z (Result.Ok u) a looked d f h q = rw (f refl) q
answers_event c e z (Result.Err k) a looked d f h q =
    rw (h k refl, same) q
  where
    is : (event_of c e).answer ≡ refusal_number k
    is = sym (ap (λ (x : Answered). x.answer) q)

    same : cond (eqb (refusal_number k) refused_full) slot_count 0 ≡ looked
    same =
        by_test (λ (x : ℕ). x ≡ looked) (eqb (refusal_number k) refused_full) slot_count 0
        (λ t.
        sym
        (ap (λ (x : Answered). x.looked) q
        ∙ full_looks c e z (is ∙ eqb-true (refusal_number k) refused_full t)))
        (λ t.
        sym
        (ap (λ (x : Answered). x.looked) q
        ∙ refused_looks c e (λ w. not_done k (sym is ∙ w))
        (λ w. eqb-false (refusal_number k) refused_full t (sym is ∙ w))))
