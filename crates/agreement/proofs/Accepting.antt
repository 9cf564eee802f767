-- What a propose request leaves at a host that may accept it, once its delivery is done: the lease.
-- Assumes nothing.
use Rattle.std.specs.Prelude.{Some}
use mathlib.Core.Path.{◌≡◌, sym, ap, ◌∙◌}
use mathlib.Core.Bool.{true, false}
use Prim.Native.Nat.{ℕ}
use native.Mathlib.Omega.{arith}
use Rattle.base.specs.Refusals.{done}
use Rattle.message.specs.declared.Message.{Message}
use Rattle.message.specs.Leases.{Proposal}
use Rattle.message.specs.declared.Message.TheVariants.{ProposeRequest}
use Rattle.message.specs.Message.{numbers_of, target_of}
use Rattle.message.proofs.Laws.{target_in_lem}
use Rattle.rules.specs.Rules.{is_waiting, may_accept, after_accept}
use Rattle.state.specs.declared.Settings.{Settings}
use Rattle.state.specs.StateLimits.{sizes_of}
use Rattle.host.specs.declared.Host.{Host}
use Rattle.host.specs.Steps.{lease_of, on_propose_request, on_message, on_delivery}
use Rattle.slots.proofs.Laws.{Sendable, holds_at}
use Rattle.cell.specs.declared.Cell.{Cell}
use Rattle.cell.specs.declared.Event.{Event}
use Rattle.cell.specs.declared.Event.TheVariants.{Deliver}
use Rattle.cell.specs.CellLimits.{host_at, content_at}
use Rattle.cell.specs.Events.{cell_of, answer_with, stepped, delivered, deliver_step}
use Rattle.cell.specs.Events.{after_of, looked_of, event_of}
use Rattle.cell.specs.Claims.{Sound}
use Rattle.cell.proofs.CellLimits.{n_of, cell_in}
use Rattle.cell.proofs.Hosts.{host_same}
use Rattle.cell.proofs.Events.{answer_is}

-- the rule of one host
stores : (s : Settings) (h : Host) (p : Proposal) → is_waiting h.clock h.wait ≡ false
    → may_accept h.state.promised h.clock (lease_of p) ≡ true
    → (on_delivery s h (ProposeRequest p)).host.state.accepted ≡ Some (lease_of p)
unfolding on_delivery on_message on_propose_request after_accept
stores s h p awake may = rw (awake, may)

-- an event that is done leaves what it comes to
done_after : (c : Cell) (e : Event) → (event_of c e).answer ≡ done
    → cell_of (event_of c e) ≡ after_of c e
unfolding event_of
done_after c e a =
    ap (λ (x : ℕ). cell_of (answer_with x (looked_of c e) c (after_of c e)))
    (sym (answer_is c e) ∙ a)

-- a delivery leaves its target's step
at_target : (c : Cell) (i : ℕ) (m : Message) → Sound c → content_at c i ≡ Some m
    → host_at (after_of c (Deliver i)) (target_of m) ≡ (deliver_step c m).host
unfolding after_of delivered stepped
at_target c i m o e =
    let in_c = cell_in c o.0 o.1 in
    let f = holds_at (Sendable (sizes_of c.settings)) c.slots i m in_c.messages e in
    let low = target_in_lem (sizes_of c.settings) m f in
    let few = (n_of c o.1).few in
    rw e (host_same c (target_of m) (deliver_step c m).host o.0 (omega (arith, low, few)))

-- so a propose request that its target may accept is stored there
pub stored : (c : Cell) (i x : ℕ) (p : Proposal) → Sound c → (event_of c (Deliver i)).answer ≡ done
    → content_at c i ≡ Some (ProposeRequest p) → p.head.target ≡ x
    → is_waiting (host_at c x).clock (host_at c x).wait ≡ false
    → may_accept (host_at c x).state.promised (host_at c x).clock (lease_of p) ≡ true
    → (host_at (cell_of (event_of c (Deliver i))) x).state.accepted ≡ Some (lease_of p)
unfolding numbers_of
stored c i x p o a e t awake may =
    ap (λ (d : Cell). (host_at d x).state.accepted) (done_after c (Deliver i) a)
    ∙ ap (λ (y : ℕ). (host_at (after_of c (Deliver i)) y).state.accepted) (sym t)
    ∙ ap (λ (h : Host). h.state.accepted) (at_target c i (ProposeRequest p) o e)
    ∙ stores c.settings (host_at c p.head.target) p (rw t awake) (rw t may)
