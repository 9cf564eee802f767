-- How many slots an event looks at: those up to the last that it fills where it is done, none where
-- anything but 13 refuses it, all where 13 does; and that what a step sends is placed to as many
-- receivers as 13 counts. Assumes nothing.
use Rattle.std.specs.Prelude.{Option, Some, None}
use mathlib.Core.Path.{◌≡◌, refl, sym, ap, ◌∙◌}
use mathlib.Core.Bool.{Bool, true, false, cond, ◌&&◌, not}
use mathlib.Core.List.{List, [], ◌∷◌}
use Prim.Native.Nat.{ℕ, ◌+◌, ◌^◌, ◌≤◌, ◌<◌}
use native.Mathlib.Omega.{arith}
use lib.Dec.{ltb, leb, eqb}
use lib.ListN.{length}
use borrow.Author.Tests.{ltb-true, leb-true, leb-false, eqb-true, eqb-false, ne_eqb}
use Rattle.base.specs.Refusals.{done, unless, first_of, refused_cell, refused_host, refused_waiting}
use Rattle.base.specs.Refusals.{refused_same_tick, refused_duration, refused_slot, refused_full}
use Rattle.base.specs.Refusals.{refused_spread, refused_clock, refused_not_holder}
use Rattle.base.proofs.Tests.{true_false, both, first_passed, unless_passed, first_of_lem}
use Rattle.base.proofs.Tests.{first_only, none_of_lem, unless_of}
use Rattle.quorum.specs.Sets.{size_of, members, single_of}
use Rattle.quorum.proofs.Laws.{members_length, members_single}
use Rattle.quorum.proofs.Majorities.{size_single}
use Rattle.message.specs.declared.Message.{Message}
use Rattle.message.specs.Message.{numbers_of, last_tick, target_of}
use Rattle.message.proofs.Laws.{passed_to, target_in_lem}
use Rattle.rules.specs.Rules.{is_waiting, is_fresh, names_itself}
use Rattle.state.specs.declared.Settings.{Settings}
use Rattle.state.specs.StateLimits.{duration_ok, sizes_of}
use Rattle.host.specs.declared.Host.{Host}
use Rattle.host.specs.Stepped.{Stepped}
use Rattle.host.specs.Claims.{writes}
use Rattle.host.specs.Steps.{host_ok, advance_refusal, restart_refusal, start_refusal}
use Rattle.host.specs.Steps.{release_refusal}
use Rattle.host.proofs.Within.{Passes, fine_step}
use Rattle.host.proofs.Outcomes.{Cause, begins, lets_go, gets, step_on}
use Rattle.slots.specs.declared.Slot.{Slot}
use Rattle.slots.specs.Slots.{slot_count, is_empty, slot_refusal, empties, full_refusal, looked_for}
use Rattle.slots.specs.Slots.{freed}
use Rattle.slots.specs.Claims.{FilledUpTo}
use Rattle.slots.proofs.Laws.{length_freed}
use Rattle.slots.proofs.Claims as slots
use Rattle.cell.specs.declared.Cell.{Cell}
use Rattle.cell.specs.declared.Event.{Event}
use Rattle.cell.specs.declared.Event.TheVariants.{AdvanceAll, AdvanceOne, Start, Deliver}
use Rattle.cell.specs.declared.Event.TheVariants.{Lose, Repeat, Restart, Release}
use Rattle.cell.specs.Answered.{Answered}
use Rattle.cell.specs.CellLimits.{host_at, content_at, cell_ok, clocks_near}
use Rattle.cell.specs.Events.{host_refusal, messages_in, step_full, step_looked, hosts_refusal}
use Rattle.cell.specs.Events.{sent_to, stepped, advance_all_refusal, advanced_all, advanced_one}
use Rattle.cell.specs.Events.{advance_one_refusal, step_at_refusal, start_step, start_at_refusal}
use Rattle.cell.specs.Events.{deliver_full, deliver_looked, delivered, release_step}
use Rattle.cell.specs.Events.{deliver_refusal, lose_refusal, repeat_refusal, restart_at_refusal}
use Rattle.cell.specs.Events.{repeated, release_at_refusal, refusal_of, after_of, placing_of}
use Rattle.cell.specs.Events.{count_with, looked_of, event_of}
use Rattle.cell.specs.Claims.{Sized, slots_found}
use Rattle.cell.proofs.Hosts.{by_advances}
use Rattle.cell.proofs.CellLimits.{message_of_lem, host_of_lem}
use Rattle.cell.proofs.Events.{by_outcome, answer_is}
use Rattle.cell.proofs.StaysWithin.{host_passed}

-- ---- how far an event gets

count_none : (a k : ℕ) → (a ≡ done → ⊥) → (a ≡ refused_full → ⊥) → count_with a k ≡ 0
count_none a k n f = rw (ne_eqb a done n, ne_eqb a refused_full f)

-- ---- what a step sends has as many receivers as 13 counts

-- the set has as many hosts as it has below n
unfoldable pub Counted : ℕ → Option Message → ℕ → Type 0
Counted n None receivers = Unit
Counted n (Some m) receivers = size_of receivers ≡ length (members n receivers)

pub counted_writes : (s : Settings) (sent : Option Message) (receivers : ℕ)
    → writes s sent receivers → Counted s.n sent receivers
unfolding writes Counted
counted_writes s None receivers w = tt
counted_writes s (Some m) receivers w =
    let p = passed_to (sizes_of s) (numbers_of m) receivers w in
    sym (members_length s.n receivers (ltb-true receivers (2 ^ s.n) p.target))

-- to one host
pub counted_one : (n h : ℕ) (m : Message) → h < n → Counted n (Some m) (single_of h)
unfolding Counted
counted_one n h m b = size_single h ∙ sym (ap length (members_single n h b))

-- ---- an event that is done looks at the slots up to the last that it fills

-- for so many messages there is room
room_for : (k : ℕ) (ss : List Slot) → first_of (full_refusal k ss ∷ []) ≡ done → k ≤ empties ss
room_for k ss e =
    leb-true k (empties ss) (unless_passed (leb k (empties ss)) refused_full [] refl e).0

sent_fills : (n : ℕ) (ss : List Slot) (sent : Option Message) (receivers : ℕ)
    → Counted n sent receivers → messages_in sent receivers ≤ empties ss
    → FilledUpTo (looked_for (messages_in sent receivers) ss) ss (sent_to n ss sent receivers)
unfolding Counted messages_in sent_to
sent_fills n ss None receivers k b = rw (slots.nothing ss) (slots.filled_none ss)
sent_fills n ss (Some m) receivers k b =
    rw k (slots.filled ss m (members n receivers) (omega (arith, k, b)))

module _ (c : Cell) where
  -- a step of a host, into these slots
  step_fills : (ss : List Slot) (h : ℕ) (cause : Cause)
      → let step = step_on c.settings (host_at c h) cause in cell_ok c ≡ true → h < c.settings.n
      → Passes c.settings (host_at c h) cause → first_of (step_full ss step ∷ []) ≡ done
      → FilledUpTo (step_looked ss step) ss (stepped c h ss step).slots
  unfolding stepped
  step_fills ss h cause o b f r =
      let s = c.settings in
      let x = host_at c h in
      let step = step_on s x cause in
      let fine = fine_step s x cause (host_of_lem c h o b) f in
      sent_fills s.n ss step.sent step.receivers
      (counted_writes s step.sent step.receivers fine.writable) (room_for _ ss r)

  own_fills : (h k : ℕ) (cause : Cause)
      → let step = step_on c.settings (host_at c h) cause in
      (k ≡ done → Passes c.settings (host_at c h) cause) → step_at_refusal c h k step ≡ done
      → FilledUpTo (step_looked c.slots step) c.slots (stepped c h c.slots step).slots
  own_fills h k cause f e =
      let p1 = unless_passed (cell_ok c) refused_cell _ refl e in
      let p2 = host_passed c h _ e in
      let p3 = first_passed k _ p2.1 in
      step_fills c.slots h cause p1.0 p2.0 (f p3.0) p3.1

  -- an event on a slot that 12 does not refuse
  slot_passed : (i : ℕ) (t : Option Message) (ks : List ℕ)
      → first_of (unless (cell_ok c) refused_cell ∷ slot_refusal i t ∷ ks) ≡ done
      → (cell_ok c ≡ true) × (not (is_empty t) ≡ true) × (first_of ks ≡ done)
  slot_passed i t ks e =
      let p1 = unless_passed (cell_ok c) refused_cell _ refl e in
      let p2 = unless_passed (ltb i slot_count && not (is_empty t)) refused_slot ks refl p1.1 in
      (p1.0, (both (ltb i slot_count) (not (is_empty t)) p2.0).1, p2.1)

  delivered_fills : (i : ℕ) (t : Option Message) → content_at c i ≡ t
      → first_of (unless (cell_ok c) refused_cell ∷ slot_refusal i t ∷ deliver_full c i t ∷ [])
      ≡ done
      → FilledUpTo (deliver_looked c i t) (freed c.slots i) (delivered c i t).slots
  unfolding deliver_full deliver_looked delivered is_empty
  delivered_fills i None q e = true_false (sym (slot_passed i None _ e).1)
  delivered_fills i (Some m) q e =
      let p = slot_passed i (Some m) _ e in
      let f = message_of_lem c i m p.0 q in
      step_fills (freed c.slots i) (target_of m) (gets m) p.0
      (target_in_lem (sizes_of c.settings) m f) f p.2

  repeated_fills : (i : ℕ) (t : Option Message)
      → first_of (unless (cell_ok c) refused_cell ∷ slot_refusal i t ∷ full_refusal 1 c.slots ∷ [])
      ≡ done → FilledUpTo (looked_for 1 c.slots) c.slots (repeated c t).slots
  unfolding repeated is_empty
  repeated_fills i None e = true_false (sym (slot_passed i None _ e).1)
  repeated_fills i (Some m) e =
      slots.filled_one c.slots m
      (room_for 1 c.slots (slot_passed i (Some m) _ e).2)

  event_fills : (e : Event) → refusal_of c e ≡ done
      → FilledUpTo (placing_of c e) (slots_found c e) (after_of c e).slots
  unfolding refusal_of placing_of slots_found after_of advanced_all advanced_one start_at_refusal
      deliver_refusal repeat_refusal release_at_refusal
  event_fills (AdvanceAll d) q = slots.filled_none c.slots
  event_fills (AdvanceOne h d) q = slots.filled_none c.slots
  event_fills (Start h d) q = own_fills h _ (begins d) (λ e. e) q
  event_fills (Deliver i) q = delivered_fills i (content_at c i) refl q
  event_fills (Lose i) q = slots.filled_none (freed c.slots i)
  event_fills (Repeat i) q = repeated_fills i (content_at c i) q
  event_fills (Restart h) q = slots.filled_none c.slots
  event_fills (Release h) q = own_fills h _ lets_go (λ e. e) q

-- ---- numbers that are not 13

-- where P holds of a list's answer, and of its first number only if that is 0, the first is 0 and P
-- holds of the rest's answer
past : (P : ℕ → Type 0) (k : ℕ) (ks : List ℕ) → ((k ≡ done → ⊥) → P k → ⊥) → P (first_of (k ∷ ks))
    → (k ≡ done) × P (first_of ks)
unfolding first_of
past P k ks n r = go (eqb k done) refl r
  where
    go : (b : Bool) → eqb k done ≡ b → P (cond b (first_of ks) k) → (k ≡ done) × P (first_of ks)
    go true p q = (eqb-true k done p, q)
    go false p q = absurd (n (eqb-false k done p) q)

abbrev pub NotFull : ℕ → Type 0
NotFull r = r ≡ refused_full → ⊥

full_past : (k : ℕ) (ks : List ℕ) → NotFull k → first_of (k ∷ ks) ≡ refused_full
    → first_of ks ≡ refused_full
full_past k ks n e = (past (λ (r : ℕ). r ≡ refused_full) k ks (λ _. n) e).1

not_full : (b : Bool) (k : ℕ) → eqb k refused_full ≡ false → NotFull (unless b k)
not_full b k n =
    unless_of NotFull b k (λ e. absurd (omega (arith, e))) (eqb-false k refused_full n)

pub none_full : NotFull (first_of [])
none_full = none_of_lem NotFull (λ e. absurd (omega (arith, e)))

pub then_full : (b : Bool) (k : ℕ) (ks : List ℕ) → eqb k refused_full ≡ false
    → NotFull (first_of ks)
    → NotFull (first_of (unless b k ∷ ks))
then_full b k ks n f = first_of_lem NotFull (unless b k) ks (not_full b k n) (λ _. f)

-- no host refuses a step of its own by 13
pub start_not_full : (s : Settings) (h : Host) (d : ℕ) → NotFull (start_refusal s h d)
unfolding start_refusal
start_not_full s h d =
    then_full (host_ok s h) refused_cell _ refl
    (then_full (not (is_waiting h.clock h.wait)) refused_waiting _ refl
    (then_full (not (eqb d 0)) refused_duration _ refl
    (then_full (duration_ok s d) refused_duration _ refl
    (then_full (is_fresh h.state.last h.clock) refused_same_tick [] refl none_full))))

pub release_not_full : (s : Settings) (h : Host) → NotFull (release_refusal s h)
unfolding release_refusal
release_not_full s h =
    then_full (host_ok s h) refused_cell _ refl
    (then_full (not (is_waiting h.clock h.wait)) refused_waiting _ refl
    (then_full (names_itself h.number h.state.named) refused_not_holder _ refl
    (then_full (is_fresh h.state.last h.clock) refused_same_tick [] refl none_full)))

advance_not_full : (s : Settings) (h : Host) (d : ℕ) → NotFull (advance_refusal s h d)
unfolding advance_refusal
advance_not_full s h d =
    then_full (host_ok s h) refused_cell _ refl
    (then_full (not (eqb d 0)) refused_clock _ refl
    (then_full (leb (h.clock + d) last_tick) refused_clock [] refl none_full))

pub restart_not_full : (s : Settings) (h : Host) → NotFull (restart_refusal s h)
unfolding restart_refusal
restart_not_full s h = then_full (host_ok s h) refused_cell [] refl none_full

-- ---- 13 looks at every slot

-- of 96 slots
module _ (ss : List Slot) (long : length ss ≡ slot_count) where
  full_looked : (k : ℕ) → full_refusal k ss ≡ refused_full → looked_for k ss ≡ slot_count
  full_looked k e = slots.full ss k (go (leb k (empties ss)) refl e) ∙ long
    where
      go : (b : Bool) → leb k (empties ss) ≡ b → unless b refused_full ≡ refused_full
          → empties ss < k
      go true p q = absurd (omega (arith, q))
      go false p q = leb-false k (empties ss) p

module _ (c : Cell) (z : Sized c) where
  cell_past : (ks : List ℕ) → first_of (unless (cell_ok c) refused_cell ∷ ks) ≡ refused_full
      → first_of ks ≡ refused_full
  cell_past ks = full_past _ ks (not_full (cell_ok c) refused_cell refl)

  host_past : (h : ℕ) (ks : List ℕ) → first_of (host_refusal c h ∷ ks) ≡ refused_full
      → first_of ks ≡ refused_full
  host_past h ks =
      full_past (host_refusal c h) ks (not_full (ltb h c.settings.n) refused_host refl)

  slot_past : (i : ℕ) (t : Option Message) (ks : List ℕ)
      → first_of (slot_refusal i t ∷ ks) ≡ refused_full → first_of ks ≡ refused_full
  slot_past i t ks =
      full_past (slot_refusal i t) ks
      (not_full (ltb i slot_count && not (is_empty t)) refused_slot refl)

  own_looked : (h k : ℕ) (step : Stepped) → NotFull k → step_at_refusal c h k step ≡ refused_full
      → step_looked c.slots step ≡ slot_count
  own_looked h k step n e =
      full_looked c.slots z.slots (messages_in step.sent step.receivers)
      (sym (first_only (step_full c.slots step))
      ∙ full_past k _ n (host_past h _ (cell_past _ e)))

  delivered_looked : (i : ℕ) (t : Option Message)
      → first_of (unless (cell_ok c) refused_cell ∷ slot_refusal i t ∷ deliver_full c i t ∷ [])
      ≡ refused_full → deliver_looked c i t ≡ slot_count
  unfolding deliver_full deliver_looked
  delivered_looked i None e =
      absurd (none_full (full_past done [] (λ q. absurd (omega (arith, q)))
      (slot_past i None _ (cell_past _ e))))
  delivered_looked i (Some m) e =
      full_looked _ (length_freed c.slots i ∙ z.slots) _
      (sym (first_only _) ∙ slot_past i (Some m) _ (cell_past _ e))

  full_placing : (e : Event) → refusal_of c e ≡ refused_full → placing_of c e ≡ slot_count
  unfolding refusal_of placing_of advance_all_refusal advance_one_refusal start_at_refusal
      deliver_refusal lose_refusal repeat_refusal restart_at_refusal release_at_refusal
  full_placing (AdvanceAll d) q =
      absurd (by_advances c d NotFull (λ e. absurd (omega (arith, e)))
      (λ k b. advance_not_full c.settings (host_at c k) d)
      (sym (first_only (hosts_refusal c d)) ∙ cell_past _ q))
  full_placing (AdvanceOne h d) q =
      absurd (not_full (clocks_near (advanced_one c h d)) refused_spread refl
      (sym (first_only _)
      ∙ full_past (advance_refusal c.settings (host_at c h) d) _
      (advance_not_full c.settings (host_at c h) d) (host_past h _ (cell_past _ q))))
  full_placing (Start h d) q =
      own_looked h _ (start_step c h d) (start_not_full c.settings (host_at c h) d) q
  full_placing (Deliver i) q = delivered_looked i (content_at c i) q
  full_placing (Lose i) q = absurd (none_full (slot_past i (content_at c i) [] (cell_past _ q)))
  full_placing (Repeat i) q =
      full_looked c.slots z.slots 1
      (sym (first_only _) ∙ slot_past i (content_at c i) _ (cell_past _ q))
  full_placing (Restart h) q =
      absurd (none_full (full_past _ [] (restart_not_full c.settings (host_at c h))
      (host_past h _ (cell_past _ q))))
  full_placing (Release h) q =
      own_looked h _ (release_step c h) (release_not_full c.settings (host_at c h)) q

-- ---- the count beside an event's answer

pub looked_is : (c : Cell) (e : Event) → (event_of c e).looked ≡ looked_of c e
looked_is c e = by_outcome (λ (x : Answered). x.looked ≡ looked_of c e) c e (λ _. refl) (λ _. refl)

pub done_looks : (c : Cell) (e : Event) → (event_of c e).answer ≡ done
    → FilledUpTo (event_of c e).looked (slots_found c e) (event_of c e).slots
unfolding looked_of
done_looks c e =
    by_outcome
    (λ (x : Answered). x.answer ≡ done → FilledUpTo x.looked (slots_found c e) x.slots) c e
    (λ q _. rw q (event_fills c e q)) (λ n q. absurd (n q))

pub refused_looks : (c : Cell) (e : Event) → ((event_of c e).answer ≡ done → ⊥)
    → NotFull (event_of c e).answer → (event_of c e).looked ≡ 0
unfolding looked_of
refused_looks c e n f =
    looked_is c e
    ∙ count_none (refusal_of c e) (placing_of c e) (λ q. n (answer_is c e ∙ q))
    (λ q. f (answer_is c e ∙ q))

pub full_looks : (c : Cell) (e : Event) → Sized c → (event_of c e).answer ≡ refused_full
    → (event_of c e).looked ≡ slot_count
unfolding looked_of
full_looks c e z a =
    let q : refusal_of c e ≡ refused_full = sym (answer_is c e) ∙ a in
    looked_is c e ∙ ap (λ (r : ℕ). count_with r (placing_of c e)) q ∙ full_placing c z e q
