-- An advance: 15, 5 and 14 by the tests of the code, and the cell after it; and any event by the
-- number that refuses it. Assumes nothing.
use mathlib.Core.Path.{◌≡◌, refl, sym, ap, ◌∙◌}
use mathlib.Core.Bool.{Bool, true, false, cond, ◌&&◌, not}
use mathlib.Core.List.{List, [], ◌∷◌, ◌++◌}
use Prim.Native.Nat.{ℕ, zero, suc, ◌+◌, ◌-◌, ◌≤◌, ◌<◌}
use native.Mathlib.Omega.{arith}
use native.Mathlib.Decide.{ℕ_discrete, dec_lt}
use native.Mathlib.Nat.{zero-add}
use lib.Dec.{ltb, leb, eqb}
use lib.ListN.{length, get_or, set, take, drop}
use borrow.Author.Tests.{lt-ltb, leb-true, le-leb, lt-leb, le-ltb, eqb-false, eq-eqb, ne_eqb}
use Rattle.std.proofs.lemmas.List.{get_or-take, length-take-le}
use Rattle.base.specs.Refusals.{done, unless, first_of, refused_cell, refused_host, refused_spread}
use Rattle.base.specs.Refusals.{refused_clock, refused_full}
use Rattle.base.specs.Lists.{every}
use Rattle.base.specs.declared.Refusal.{Refusal}
use Rattle.base.specs.Answers.{refusal_number}
use Rattle.base.proofs.Answers.{numbered}
use Rattle.base.proofs.Tests.{true_false, both, and_true, first_only, first_same, first_found}
use Rattle.base.proofs.Tests.{unless_next, unless_passed}
use Rattle.base.proofs.Lists.{every_in, out_every}
use Rattle.message.specs.Message.{last_tick}
use Rattle.host.specs.declared.Host.{Host}
use Rattle.host.specs.Steps.{host_ok, advance_refusal, advanced_host}
use Rattle.host.proofs.HostLimits.{host_in}
use Rattle.places.specs.Places.{blank_host, each_host}
use Rattle.places.proofs.Each.{each_above, each_next}
use Rattle.cell.specs.declared.Cell.{Cell}
use Rattle.cell.specs.declared.Event.{Event}
use Rattle.cell.specs.declared.Event.TheVariants.{AdvanceAll, AdvanceOne, Start, Deliver, Lose}
use Rattle.cell.specs.declared.Event.TheVariants.{Repeat, Restart, Release}
use Rattle.cell.specs.CellLimits.{host_at, with_host_at, clocks_near, cell_ok}
use Rattle.cell.specs.Claims.{Sound}
use Rattle.cell.specs.Events.{answered_with, answer_with, count_with, hosts_refusal}
use Rattle.cell.specs.Events.{advance_all_refusal, advanced_all, advanced_one}
use Rattle.cell.specs.Events.{advance_one_refusal, start_at_refusal, deliver_refusal, lose_refusal}
use Rattle.cell.specs.Events.{repeat_refusal, restart_at_refusal, release_at_refusal}
use Rattle.cell.specs.Events.{refusal_of, after_of, placing_of, looked_of, event_of}
use Rattle.cell.proofs.Hosts.{all_passed, by_advances, out_near, near_in, host_same}
use Rattle.cell.proofs.Hosts.{host_other, sized_host}
use Rattle.cell.proofs.CellLimits.{cell_in, n_of}
use Rattle.cell.proofs.Looked.{NotFull, none_full, then_full}
use Rattle.acts.specs.Parts.{may_advance, is_near}

-- ---- an event by its refusal

pub event_is : (c : Cell) (e : Event) (a : ℕ) → refusal_of c e ≡ a
    → answer_with a (count_with a (placing_of c e)) c (after_of c e) ≡ event_of c e
unfolding event_of looked_of
event_is c e a q =
    sym (ap (λ (x : ℕ). answer_with x (count_with x (placing_of c e)) c (after_of c e)) q)

-- it is done, and places nothing
pub event_done : (c : Cell) (e : Event) → refusal_of c e ≡ done → placing_of c e ≡ 0
    → answered_with done 0 (after_of c e) ≡ event_of c e
event_done c e q p = rw p at (event_is c e done q)

-- it is refused by anything but 13
pub event_refused : (c : Cell) (e : Event) (a : ℕ) → refusal_of c e ≡ a → (a ≡ done → ⊥)
    → (a ≡ refused_full → ⊥) → answered_with a 0 c ≡ event_of c e
event_refused c e a q n f =
    rw (ne_eqb a done n, ne_eqb a refused_full f) at (event_is c e a q)

-- a cell past its limits: 1, whatever the event
past_refusal : (c : Cell) (e : Event) → cell_ok c ≡ false → refusal_of c e ≡ refused_cell
unfolding refusal_of advance_all_refusal advance_one_refusal start_at_refusal deliver_refusal
    lose_refusal repeat_refusal restart_at_refusal release_at_refusal first_of
past_refusal c (AdvanceAll d) o = rw o
past_refusal c (AdvanceOne h d) o = rw o
past_refusal c (Start h d) o = rw o
past_refusal c (Deliver i) o = rw o
past_refusal c (Lose i) o = rw o
past_refusal c (Repeat i) o = rw o
past_refusal c (Restart h) o = rw o
past_refusal c (Release h) o = rw o

pub past_limits : (c : Cell) (e : Event) → cell_ok c ≡ false
    → answered_with refused_cell 0 c ≡ event_of c e
past_limits c e o =
    event_refused c e refused_cell (past_refusal c e o) (λ q. absurd (omega (arith, q)))
    (λ q. absurd (omega (arith, q)))

-- an event that places nothing is refused by any number
pub event_unplaced : (c : Cell) (e : Event) (a : ℕ) → refusal_of c e ≡ a → (a ≡ done → ⊥)
    → placing_of c e ≡ 0 → answered_with a 0 c ≡ event_of c e
event_unplaced c e a q n p =
    go (eqb a refused_full) (rw (ne_eqb a done n, p) at (event_is c e a q))
  where
    go : (b : Bool) → answered_with a (cond b 0 0) c ≡ event_of c e
        → answered_with a 0 c ≡ event_of c e
    go true q = q
    go false q = q

-- the first n hosts changed, and the others
pub each_front : (n : ℕ) (f : Host → Host) (hs : List Host)
    → each_host n f (take n hs) ++ drop n hs ≡ each_host n f hs
unfolding each_host
each_front zero f hs = refl
each_front (suc n) f [] = refl
each_front (suc n) f (h ∷ hs) = ap (λ (ks : List Host). f h ∷ ks) (each_front n f hs)

-- no refusal has the number 0
pub not_done : (k : Refusal) → refusal_number k ≡ done → ⊥
not_done k e = eqb-false (refusal_number k) done (numbered k) e

-- ---- advances, in a cell within its limits

-- equal by what they tell
leb_same : (a b x y : ℕ) → (a ≤ b → x ≤ y) → (x ≤ y → a ≤ b) → leb a b ≡ leb x y
leb_same a b x y f h = go (leb a b) refl (leb x y) refl
  where
    go : (p : Bool) → leb a b ≡ p → (q : Bool) → leb x y ≡ q → p ≡ q
    go true e true t = refl
    go true e false t = sym (le-leb x y (f (leb-true a b e))) ∙ t
    go false e true t = sym e ∙ le-leb a b (h (leb-true x y t))
    go false e false t = refl

unmet : (b : Bool) → (b ≡ true → ⊥) → b ≡ false
unmet true f = absurd (f refl)
unmet false f = refl

module _ (c : Cell) (g : Sound c) where
  abbrev n : ℕ
  n = c.settings.n

  abbrev clock : ℕ → ℕ
  clock k = (host_at c k).clock

  pub few : n ≤ 9
  few = (n_of c g.1).few

  pub some : 0 < n
  some = (n_of c g.1).some

  pub clock_early : (k : ℕ) → k < n → clock k ≤ last_tick
  clock_early k b = (host_in _ _ ((cell_in c g.0 g.1).host k b)).clock

  -- the hosts that there are
  abbrev present : List Host
  present = take n c.hosts

  pub as_many : length present ≡ n
  as_many = length-take-le n c.hosts (omega (arith, few, g.0.hosts))

  pub there : (k : ℕ) → k < n → get_or present k blank_host ≡ host_at c k
  there k b = get_or-take n c.hosts k blank_host b

  tested : (f : ℕ → Host → Bool) → every f 0 present ≡ true → (k : ℕ) → k < n
      → f k (host_at c k) ≡ true
  tested f e k b =
      rw (zero-add k, there k b) at
      (every_in f 0 present blank_host e k (omega (arith, b, as_many)))

  test_all : (f : ℕ → Host → Bool) → ((k : ℕ) → k < n → f k (host_at c k) ≡ true)
      → every f 0 present ≡ true
  test_all f p =
      out_every f 0 present blank_host
      (λ k b.
      let l : k < n = omega (arith, b, as_many) in
      rw (zero-add k, there k l) (p k l))

  -- ---- 15

  -- of a host
  own : (d k : ℕ) → k < n → advance_refusal c.settings (host_at c k) d
      ≡ unless (not (eqb d 0) && may_advance d k (host_at c k)) refused_clock
  unfolding advance_refusal first_of
  own d k b =
      unless_next (host_ok c.settings (host_at c k)) refused_cell
      (unless (not (eqb d 0)) refused_clock
      ∷ unless (leb (clock k + d) last_tick) refused_clock ∷ [])
      ((cell_in c g.0 g.1).host k b)
      ∙ go (eqb d 0)
    where
      late : leb (clock k + d) last_tick ≡ leb d (last_tick - clock k)
      late = leb_same _ _ _ _ (λ l. omega (arith, l)) (λ l. omega (arith, l, clock_early k b))

      go : (x : Bool)
          → first_of (unless (not x) refused_clock
          ∷ unless (leb (clock k + d) last_tick) refused_clock ∷ [])
          ≡ unless (not x && may_advance d k (host_at c k)) refused_clock
      go true = refl
      go false = rw (first_only (unless (leb (clock k + d) last_tick) refused_clock), late)

  -- the code's test of all hosts
  abbrev all_may : ℕ → Bool
  all_may d = not (eqb d 0) && every (may_advance d) 0 present

  pub all_is : (d : ℕ) → advance_all_refusal c d ≡ unless (all_may d) refused_clock
  unfolding advance_all_refusal
  all_is d =
      unless_next (cell_ok c) refused_cell _ g.1 ∙ first_only (hosts_refusal c d)
      ∙ go (all_may d) refl
    where
      go : (x : Bool) → all_may d ≡ x → hosts_refusal c d ≡ unless x refused_clock
      go true e =
          let p = both (not (eqb d 0)) _ e in
          by_advances c d (λ r. r ≡ done) refl
          (λ k b.
          own d k b
          ∙ ap (λ (x : Bool). unless x refused_clock)
          (and_true _ _ p.0 (tested (may_advance d) p.1 k b)))
      go false e = stops (ℕ_discrete (hosts_refusal c d) done)
        where
          passes : hosts_refusal c d ≡ done → (k : ℕ) → k < n
              → (not (eqb d 0) && may_advance d k (host_at c k)) ≡ true
          passes q k b =
              (unless_passed _ refused_clock [] refl
              (first_only _ ∙ sym (own d k b) ∙ all_passed c d g.0 few q k b)).0

          stops : Dec (hosts_refusal c d ≡ done) → hosts_refusal c d ≡ refused_clock
          stops (yes q) =
              true_false
              (sym
              (and_true (not (eqb d 0)) _
              (both (not (eqb d 0)) _ (passes q 0 some)).0
              (test_all (may_advance d) (λ k b. (both (not (eqb d 0)) _ (passes q k b)).1)))
              ∙ e)
          stops (no m) =
              by_advances c d (λ r. (r ≡ done → ⊥) → r ≡ refused_clock) (λ x. absurd (x refl))
              (λ k b x.
              own d k b
              ∙ ap (λ (y : Bool). unless y refused_clock)
              (unmet _ (λ y. x (own d k b ∙ ap (λ (z : Bool). unless z refused_clock) y)))) m

  -- ---- of one host: 5, 15, 14

  module _ (h d : ℕ) (b : h < n) (l : clock h + d ≤ last_tick) where
    abbrev moved : Cell
    moved = advanced_one c h d

    abbrev is_close : ℕ → Host → Bool
    is_close k x = is_near h (clock h + d) c.settings.spread k x

    moved_clock : (k : ℕ) → (k ≡ h → ⊥) → (host_at moved k).clock ≡ clock k
    unfolding advanced_one
    moved_clock k m = ap (λ (x : Host). x.clock) (host_other c h _ k m)

    own_clock : (host_at moved h).clock ≡ clock h + d
    unfolding advanced_one advanced_host
    own_clock = ap (λ (x : Host). x.clock) (host_same c h _ g.0 (omega (arith, b, few)))

    close_to : every is_close 0 present ≡ true → (k : ℕ) → k < n → (k ≡ h → ⊥)
        → clock h + d ≤ clock k + c.settings.spread
    close_to e k a m =
        let t = rw (ne_eqb k h m) at (tested is_close e k a) in
        omega (arith, leb-true (clock h + d - c.settings.spread) (clock k) t)

    near : (i j : ℕ) → i < n → j < n → clock i ≤ clock j + c.settings.spread
    near = (cell_in c g.0 g.1).near

    spread_in : every is_close 0 present ≡ true → clocks_near moved ≡ true
    unfolding advanced_one
    spread_in e =
        out_near moved (sized_host c h _ g.0) (cell_in c g.0 g.1).settings
        (λ i j x y. go i j x y (ℕ_discrete i h) (ℕ_discrete j h))
      where
        go : (i j : ℕ) → i < n → j < n → Dec (i ≡ h) → Dec (j ≡ h)
            → (host_at moved i).clock ≤ (host_at moved j).clock + c.settings.spread
        go i j x y (yes p) (yes q) = rw (p, q) (omega arith)
        go i j x y (yes p) (no q) =
            rw (p, own_clock, moved_clock j q) (close_to e j y q)
        go i j x y (no p) (yes q) =
            let k = near i h x b in
            rw (q, own_clock, moved_clock i p) (omega (arith, k))
        go i j x y (no p) (no q) = rw (moved_clock i p, moved_clock j q) (near i j x y)

    spread_out : clocks_near moved ≡ true → every is_close 0 present ≡ true
    unfolding advanced_one
    spread_out e = test_all is_close (λ k x. go k x (ℕ_discrete k h))
      where
        go : (k : ℕ) → k < n → Dec (k ≡ h) → is_close k (host_at c k) ≡ true
        go k x (yes p) = rw (eq-eqb k h p)
        go k x (no p) =
            let y =
            near_in moved (sized_host c h _ g.0) (cell_in c g.0 g.1).settings e h k b x in
            let z = moved_clock k p in
            rw (ne_eqb k h p)
            (le-leb (clock h + d - c.settings.spread) (clock k) (omega (arith, y, z, own_clock)))

    pub near_is : clocks_near moved ≡ every is_close 0 present
    near_is = go (clocks_near moved) refl (every is_close 0 present) refl
      where
        go : (x : Bool) → clocks_near moved ≡ x → (y : Bool) → every is_close 0 present ≡ y → x ≡ y
        go true e true f = refl
        go true e false f = sym (spread_out e) ∙ f
        go false e true f = sym e ∙ spread_in f
        go false e false f = refl

  no_host : {a : ℕ} → a ≡ refused_host → a ≡ done → ⊥
  no_host p q = absurd (omega (arith, p, q))

  module _ (h d : ℕ) where
    abbrev one_may : Bool
    one_may = not (eqb d 0) && may_advance d h (host_at c h)

    within : one_may ≡ true → h < n → clock h + d ≤ last_tick
    within e b =
        omega (
          arith,
          clock_early h b,
          leb-true d (last_tick - clock h) (both (not (eqb d 0)) _ e).1,
        )

    -- 5
    pub one_past : n ≤ h → advance_one_refusal c h d ≡ refused_host
    unfolding advance_one_refusal
    one_past b =
        unless_next (cell_ok c) refused_cell _ g.1
        ∙ first_found _ _ (λ q. no_host (ap (λ (x : Bool). unless x refused_host) (le-ltb h n b)) q)
        ∙ ap (λ (x : Bool). unless x refused_host) (le-ltb h n b)

    -- 15 and 14
    pub one_is : h < n → advance_one_refusal c h d
        ≡ first_of (unless one_may refused_clock
        ∷ unless (every (is_near h (clock h + d) c.settings.spread) 0 present) refused_spread ∷ [])
    unfolding advance_one_refusal
    one_is b =
        unless_next (cell_ok c) refused_cell _ g.1
        ∙ unless_next (ltb h n) refused_host _ (lt-ltb h n b)
        ∙ ap
        (λ (a : ℕ).
        first_of (a ∷ unless (clocks_near (advanced_one c h d)) refused_spread ∷ []))
        (own d h b)
        ∙ first_same (unless one_may refused_clock) _ _
        (λ q.
        ap (λ (x : Bool). first_of (unless x refused_spread ∷ []))
        (near_is h d b
        (within (unless_passed one_may refused_clock [] refl (first_only _ ∙ q)).0 b)))

  -- 13 refuses no advance
  pub all_not_full : (d : ℕ) → NotFull (advance_all_refusal c d)
  all_not_full d = rw (all_is d) (go (all_may d))
    where
      go : (b : Bool) → NotFull (unless b refused_clock)
      go true = λ e. absurd (omega (arith, e))
      go false = λ e. absurd (omega (arith, e))

  pub one_not_full : (h d : ℕ) → NotFull (advance_one_refusal c h d)
  one_not_full h d = go (dec_lt h n)
    where
      go : Dec (h < n) → NotFull (advance_one_refusal c h d)
      go (yes b) =
          rw (one_is h d b)
          (then_full _ refused_clock _ refl (then_full _ refused_spread [] refl none_full))
      go (no b) = rw (one_past h d (omega arith)) (λ e. absurd (omega (arith, e)))

  -- ---- what the code's tests give

  pub all_zero : (d : ℕ) → d ≡ 0 → refused_clock ≡ advance_all_refusal c d
  all_zero d e = sym (all_is d ∙ rw e)

  pub all_late : (d : ℕ) → every (may_advance d) 0 present ≡ false
      → refused_clock ≡ advance_all_refusal c d
  all_late d e = sym (all_is d ∙ rw e (go (eqb d 0)))
    where
      go : (b : Bool) → unless (not b && false) refused_clock ≡ refused_clock
      go true = refl
      go false = refl

  pub all_clear : (d : ℕ) → (d ≡ 0 → ⊥) → every (may_advance d) 0 present ≡ true
      → done ≡ advance_all_refusal c d
  all_clear d m e = sym (all_is d ∙ rw (e, ne_eqb d 0 m))

  module _ (h d : ℕ) (b : h < n) where
    pub one_zero : d ≡ 0 → refused_clock ≡ advance_one_refusal c h d
    unfolding first_of
    one_zero e = sym (one_is h d b ∙ rw e)

    pub one_late : last_tick - clock h < d → refused_clock ≡ advance_one_refusal c h d
    unfolding first_of
    one_late l = sym (one_is h d b ∙ rw (lt-leb d (last_tick - clock h) l) (go (eqb d 0)))
      where
        go : (x : Bool) → cond (eqb (unless (not x && false) refused_clock) done)
            (first_of (unless (every (is_near h (clock h + d) c.settings.spread) 0 present)
            refused_spread ∷ [])) (unless (not x && false) refused_clock) ≡ refused_clock
        go true = refl
        go false = refl

    module _ (m : d ≡ 0 → ⊥) (l : d ≤ last_tick - clock h) where
      pub one_far : every (is_near h (clock h + d) c.settings.spread) 0 present ≡ false
          → refused_spread ≡ advance_one_refusal c h d
      unfolding first_of
      one_far e = sym (one_is h d b ∙ rw (ne_eqb d 0 m, le-leb d (last_tick - clock h) l, e))

      pub one_clear : every (is_near h (clock h + d) c.settings.spread) 0 present ≡ true
          → done ≡ advance_one_refusal c h d
      unfolding first_of
      one_clear e = sym (one_is h d b ∙ rw (ne_eqb d 0 m, le-leb d (last_tick - clock h) l, e))

  -- ---- the cell after it

  -- what all_refusal passes
  pub all_room : (d k : ℕ) → advance_all_refusal c d ≡ done → k < n → clock k + d ≤ last_tick
  all_room d k e b =
      let t =
      (unless_passed (all_may d) refused_clock [] refl (first_only _ ∙ sym (all_is d) ∙ e)).0 in
      let m = tested (may_advance d) (both (not (eqb d 0)) _ t).1 k b in
      omega (arith, clock_early k b, leb-true d (last_tick - clock k) m)

  -- those up to the one at place i have moved
  abbrev moved_up_to : ℕ → ℕ → List Host
  moved_up_to d i = each_host i (λ h. advanced_host h d) present

  pub moves_next : (d i : ℕ) (hs : List Host) (x : Host) → hs ≡ moved_up_to d i → i < n
      → x ≡ advanced_host (get_or hs i blank_host) d → set hs i x ≡ moved_up_to d (i + 1)
  moves_next d i hs x e b q =
      let f : Host → Host = λ h. advanced_host h d in
      rw (q, e, each_above i f present i blank_host (omega arith))
      (sym (each_next i f present blank_host (omega (arith, b, as_many))))

  pub next_room : (d i : ℕ) (hs : List Host) → advance_all_refusal c d ≡ done
      → hs ≡ moved_up_to d i → i < n → (get_or hs i blank_host).clock + d ≤ last_tick
  next_room d i hs r e b =
      rw (e, each_above i (λ h. advanced_host h d) present i blank_host (omega arith), there i b)
      (all_room d i r b)

  pub all_moved : (d : ℕ) (hs : List Host) → advance_all_refusal c d ≡ done
      → hs ≡ each_host n (λ h. advanced_host h d) c.hosts
      → answered_with done 0 (record { settings = c.settings; hosts = hs; slots = c.slots })
      ≡ event_of c (AdvanceAll d)
  unfolding refusal_of placing_of after_of advanced_all
  all_moved d hs e q = rw q (event_done c (AdvanceAll d) e refl)

  pub all_refused : (d a : ℕ) → a ≡ advance_all_refusal c d → (a ≡ done → ⊥)
      → answered_with a 0 c ≡ event_of c (AdvanceAll d)
  unfolding refusal_of placing_of
  all_refused d a e m = event_unplaced c (AdvanceAll d) a (sym e) m refl

  -- the same of a cell that is left as it was
  pub all_kept : (d a : ℕ) (after : Cell) → after ≡ c → a ≡ advance_all_refusal c d
      → (a ≡ done → ⊥) → answered_with a 0 after ≡ event_of c (AdvanceAll d)
  all_kept d a after k e m = rw k (all_refused d a e m)

  -- what one_refusal passes
  pub one_room : (h d : ℕ) → advance_one_refusal c h d ≡ done → (h < n) × (clock h + d ≤ last_tick)
  one_room h d e = go (dec_lt h n)
    where
      go : Dec (h < n) → (h < n) × (clock h + d ≤ last_tick)
      go (yes b) =
          let t = (unless_passed (one_may h d) refused_clock _ refl (sym (one_is h d b) ∙ e)).0 in
          (b, within h d t b)
      go (no b) =
          absurd (no_host {a = advance_one_refusal c h d} (one_past h d (omega arith)) e)

  pub one_moved : (h d : ℕ) (x : Host) → advance_one_refusal c h d ≡ done
      → x ≡ advanced_host (host_at c h) d
      → answered_with done 0 (with_host_at c h x) ≡ event_of c (AdvanceOne h d)
  unfolding refusal_of placing_of after_of advanced_one
  one_moved h d x e q = rw q (event_done c (AdvanceOne h d) e refl)

  pub one_refused : (h d a : ℕ) → a ≡ advance_one_refusal c h d → (a ≡ done → ⊥)
      → answered_with a 0 c ≡ event_of c (AdvanceOne h d)
  unfolding refusal_of placing_of
  one_refused h d a e m = event_unplaced c (AdvanceOne h d) a (sym e) m refl

  pub one_kept : (h d a : ℕ) (after : Cell) → after ≡ c → a ≡ advance_one_refusal c h d
      → (a ≡ done → ⊥) → answered_with a 0 after ≡ event_of c (AdvanceOne h d)
  one_kept h d a after k e m = rw k (one_refused h d a e m)
