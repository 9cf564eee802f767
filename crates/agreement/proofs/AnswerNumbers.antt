-- The answer of an event is 0 or a number of its own order, and never 1 where the cell is within
-- its limits. Assumes nothing.
use Rattle.std.specs.Prelude.{Option, Some, None}
use mathlib.Core.Path.{◌≡◌, refl}
use mathlib.Core.Bool.{true, false, not, ◌&&◌}
use mathlib.Core.List.{List, [], ◌∷◌, Memᴰ}
use Prim.Native.Nat.{ℕ, ◌+◌}
use lib.Dec.{ltb, leb, eqb}
use borrow.Author.Tests.{ltb-true, eqb-false}
use Rattle.base.specs.Refusals.{done, unless, first_of, refused_cell, refused_host, refused_waiting}
use Rattle.base.specs.Refusals.{refused_same_tick, refused_duration, refused_slot, refused_full}
use Rattle.base.specs.Refusals.{refused_spread, refused_clock, refused_not_holder}
use Rattle.base.specs.Lists.{All}
use Rattle.base.proofs.Tests.{first_of_lem, unless_of, none_of_lem, last_of, held, next}
use Rattle.message.specs.declared.Message.{Message}
use Rattle.message.specs.Message.{last_tick}
use Rattle.rules.specs.Rules.{is_waiting, is_fresh, names_itself}
use Rattle.state.specs.declared.Settings.{Settings}
use Rattle.state.specs.StateLimits.{duration_ok}
use Rattle.host.specs.declared.Host.{Host}
use Rattle.host.specs.Stepped.{Stepped}
use Rattle.host.specs.Steps.{host_ok, advance_refusal, restart_refusal, start_refusal}
use Rattle.host.specs.Steps.{release_refusal}
use Rattle.slots.specs.declared.Slot.{Slot}
use Rattle.slots.specs.Slots.{slot_count, is_empty, slot_refusal, empties, freed}
use Rattle.cell.specs.declared.Cell.{Cell}
use Rattle.cell.specs.declared.Event.{Event}
use Rattle.cell.specs.declared.Event.TheVariants.{AdvanceAll, AdvanceOne, Start, Deliver, Lose}
use Rattle.cell.specs.declared.Event.TheVariants.{Repeat, Restart, Release}
use Rattle.cell.specs.CellLimits.{host_at, content_at, clocks_near, cell_ok}
use Rattle.cell.specs.Events.{messages_in, step_full, advance_all_refusal, advanced_one}
use Rattle.cell.specs.Events.{advance_one_refusal, step_at_refusal, start_step, start_at_refusal}
use Rattle.cell.specs.Events.{deliver_step, deliver_full, deliver_refusal, lose_refusal}
use Rattle.cell.specs.Events.{repeat_refusal, restart_at_refusal, release_step, release_at_refusal}
use Rattle.cell.specs.Events.{refusal_of, event_of}
use Rattle.cell.specs.Claims.{Sized}
use Rattle.cell.proofs.Hosts.{by_advances}
use Rattle.cell.proofs.CellLimits.{cell_in}
use Rattle.cell.proofs.Events.{answer_is}
use Rattle.agreement.specs.Orders.{order_of}

-- ---- the steps of a host within its limits

advance_number : (P : ℕ → Type 0) (s : Settings) (h : Host) (d : ℕ) → host_ok s h ≡ true → P done
    → P refused_clock → P (advance_refusal s h d)
unfolding advance_refusal
advance_number P s h d e z p =
    held P (host_ok s h) refused_cell _ e
    (next P (not (eqb d 0)) refused_clock _ refl p
    (λ _. next P (leb (h.clock + d) last_tick) refused_clock [] refl p (λ _. none_of_lem P z)))

start_number : (P : ℕ → Type 0) (s : Settings) (h : Host) (d : ℕ) → host_ok s h ≡ true → P done
    → P refused_waiting → P refused_duration → P refused_same_tick → P (start_refusal s h d)
unfolding start_refusal
start_number P s h d e z w l t =
    held P (host_ok s h) refused_cell _ e
    (next P (not (is_waiting h.clock h.wait)) refused_waiting _ refl w
    (λ _. next P (not (eqb d 0)) refused_duration _ refl l
    (λ _.
    next P (duration_ok s d) refused_duration _ refl l
    (λ _.
    next P (is_fresh h.state.last h.clock) refused_same_tick [] refl t (λ _. none_of_lem P z)))))

release_number : (P : ℕ → Type 0) (s : Settings) (h : Host) → host_ok s h ≡ true → P done
    → P refused_waiting → P refused_not_holder → P refused_same_tick → P (release_refusal s h)
unfolding release_refusal
release_number P s h e z w n t =
    held P (host_ok s h) refused_cell _ e
    (next P (not (is_waiting h.clock h.wait)) refused_waiting _ refl w
    (λ _. next P (names_itself h.number h.state.named) refused_not_holder _ refl n
    (λ _.
    next P (is_fresh h.state.last h.clock) refused_same_tick [] refl t (λ _. none_of_lem P z))))

restart_number : (P : ℕ → Type 0) (s : Settings) (h : Host) → host_ok s h ≡ true → P done
    → P (restart_refusal s h)
unfolding restart_refusal
restart_number P s h e z = held P (host_ok s h) refused_cell [] e (none_of_lem P z)

-- ---- each event

step_full_lem : (P : ℕ → Type 0) (ss : List Slot) (step : Stepped) → P done → P refused_full
    → P (step_full ss step)
step_full_lem P ss step z p =
    unless_of P (leb (messages_in step.sent step.receivers) (empties ss)) refused_full z p

deliver_full_lem : (P : ℕ → Type 0) (c : Cell) (i : ℕ) (t : Option Message) → P done
    → P refused_full → P (deliver_full c i t)
unfolding deliver_full
deliver_full_lem P c i None z p = z
deliver_full_lem P c i (Some m) z p =
    step_full_lem P (freed c.slots i) (deliver_step c m) z p

-- 5, and then what is told of a host of the cell
at_host : (P : ℕ → Type 0) (c : Cell) (h : ℕ) (ks : List ℕ) → Sized c → cell_ok c ≡ true
    → P refused_host → (host_ok c.settings (host_at c h) ≡ true → P (first_of ks))
    → P (first_of (unless (cell_ok c) refused_cell ∷ unless (ltb h c.settings.n) refused_host ∷ ks))
at_host P c h ks z o p f =
    held P (cell_ok c) refused_cell _ o
    (next P (ltb h c.settings.n) refused_host ks refl p
    (λ b. f ((cell_in c z o).host h (ltb-true h c.settings.n b))))

-- 12, and then what is told of a full slot
at_slot : (P : ℕ → Type 0) (c : Cell) (i : ℕ) (ks : List ℕ) → cell_ok c ≡ true → P refused_slot
    → P (first_of ks)
    → P (first_of (unless (cell_ok c) refused_cell ∷ slot_refusal i (content_at c i) ∷ ks))
at_slot P c i ks o p q =
    held P (cell_ok c) refused_cell _ o
    (next P (ltb i slot_count && not (is_empty (content_at c i))) refused_slot ks refl p (λ _. q))

-- what a host's own step is refused by: 5, then by k, then 13
step_number : (P : ℕ → Type 0) (c : Cell) (h k : ℕ) (step : Stepped) → Sized c → cell_ok c ≡ true
    → P done → P refused_host → P refused_full → (host_ok c.settings (host_at c h) ≡ true → P k)
    → P (step_at_refusal c h k step)
step_number P c h k step z o d p l f =
    at_host P c h _ z o p
    (λ g. first_of_lem P k _ (f g) (λ _. last_of P _ (step_full_lem P c.slots step d l)))

refusal_number : (P : ℕ → Type 0) (c : Cell) (e : Event) → Sized c → cell_ok c ≡ true
    → All P (done ∷ order_of e) → P (refusal_of c e)
unfolding All order_of refusal_of advance_all_refusal advance_one_refusal start_at_refusal
    deliver_refusal lose_refusal repeat_refusal restart_at_refusal release_at_refusal
refusal_number P c (AdvanceAll d) z o p =
    held P (cell_ok c) refused_cell _ o
    (last_of P _
    (by_advances c d P p.0
    (λ k b.
    advance_number P c.settings (host_at c k) d ((cell_in c z o).host k b) p.0 p.1.0)))
refusal_number P c (AdvanceOne h d) z o p =
    at_host P c h _ z o p.1.0
    (λ f.
    first_of_lem P (advance_refusal c.settings (host_at c h) d) _
    (advance_number P c.settings (host_at c h) d f p.0 p.1.1.0)
    (λ _.
    last_of P _
    (unless_of P (clocks_near (advanced_one c h d)) refused_spread p.0 p.1.1.1.0)))
refusal_number P c (Start h d) z o p =
    let q = p.1.1 in
    step_number P c h _ (start_step c h d) z o p.0 p.1.0 q.1.1.1.0
    (λ f.
    start_number P c.settings (host_at c h) d f p.0 q.0 q.1.0 q.1.1.0)
refusal_number P c (Deliver i) z o p =
    at_slot P c i _ o p.1.0
    (last_of P _ (deliver_full_lem P c i (content_at c i) p.0 p.1.1.0))
refusal_number P c (Lose i) z o p = at_slot P c i [] o p.1.0 (none_of_lem P p.0)
refusal_number P c (Repeat i) z o p =
    at_slot P c i _ o p.1.0
    (last_of P _ (unless_of P (leb 1 (empties c.slots)) refused_full p.0 p.1.1.0))
refusal_number P c (Restart h) z o p =
    at_host P c h _ z o p.1.0
    (λ f. last_of P _ (restart_number P c.settings (host_at c h) f p.0))
refusal_number P c (Release h) z o p =
    let q = p.1.1 in
    step_number P c h _ (release_step c h) z o p.0 p.1.0 q.1.1.1.0
    (λ f. release_number P c.settings (host_at c h) f p.0 q.0 q.1.0 q.1.1.0)

-- ---- any event

-- what holds of 0 and of each number of an event's order holds of its answer
pub answer_number : (P : ℕ → Type 0) (c : Cell) (e : Event) → Sized c → cell_ok c ≡ true
    → All P (done ∷ order_of e) → P (event_of c e).answer
answer_number P c e z o p = rw (answer_is c e) (refusal_number P c e z o p)

members_of : (xs ys : List ℕ) → ((k : ℕ) → Memᴰ k xs → Memᴰ k ys)
    → All (λ k. Memᴰ k ys) xs
unfolding All
members_of [] ys f = tt
members_of (x ∷ xs) ys f =
    (f x (Memᴰ.head refl), members_of xs ys (λ k m. f k (Memᴰ.tail m)))

pub own_number : (c : Cell) (e : Event) → Sized c → cell_ok c ≡ true
    → Memᴰ (event_of c e).answer (done ∷ order_of e)
own_number c e z o =
    answer_number (λ k. Memᴰ k (done ∷ order_of e)) c e z o
    (members_of (done ∷ order_of e) (done ∷ order_of e) (λ k m. m))

-- no event of a cell within its limits is refused by 1
not_one : (e : Event) → All (λ k. eqb k refused_cell ≡ false) (done ∷ order_of e)
unfolding All order_of
not_one (AdvanceAll d) = (refl, (refl, tt))
not_one (AdvanceOne h d) = (refl, (refl, (refl, (refl, tt))))
not_one (Start h d) = (refl, (refl, (refl, (refl, (refl, (refl, tt))))))
not_one (Deliver i) = (refl, (refl, (refl, tt)))
not_one (Lose i) = (refl, (refl, tt))
not_one (Repeat i) = (refl, (refl, (refl, tt)))
not_one (Restart h) = (refl, (refl, tt))
not_one (Release h) = (refl, (refl, (refl, (refl, (refl, (refl, tt))))))

pub never_cell : (c : Cell) (e : Event) → Sized c → cell_ok c ≡ true
    → (event_of c e).answer ≡ refused_cell → ⊥
never_cell c e z o =
    eqb-false (event_of c e).answer refused_cell
    (answer_number (λ k. eqb k refused_cell ≡ false) c e z o (not_one e))
