-- The test for the blank state tells that it is blank, and the blank state is within every limit.
-- Assumes nothing.
use Rattle.std.specs.Prelude.{Option, Some, None}
use Rattle.message.specs.declared.Ballot.{Ballot}
use Rattle.message.specs.Leases.{Lease, Holder}
use mathlib.Core.Path.{◌≡◌, refl, sym}
use mathlib.Core.Bool.{true}
use mathlib.Core.List.{[], ◌∷◌}
use Prim.Native.Nat.{ℕ}
use Rattle.base.specs.Lists.{all_of}
use Rattle.base.proofs.Tests.{true_false}
use Rattle.state.specs.declared.Settings.{Settings}
use Rattle.state.specs.declared.Round.{Round}
use Rattle.state.specs.declared.State.{State}
use Rattle.state.specs.Blank.{blank_state, no_promise, no_lease, no_tick, no_round, no_holder}
use Rattle.state.specs.Blank.{is_blank_state}
use Rattle.state.specs.StateLimits.{accepted_ok, promised_ok, last_ok, round_ok, named_ok, state_ok}

pub blank_state_lem : (t : State) → is_blank_state t ≡ true → t ≡ blank_state
unfolding is_blank_state all_of no_promise no_lease no_tick no_round no_holder
blank_state_lem t e = go t.promised t.accepted t.last t.round t.named e
  where
    go : (p : Option Ballot) (a : Option Lease) (l : Option ℕ) (r : Round) (m : Option Holder)
        → all_of (no_promise p ∷ no_lease a ∷ no_tick l ∷ no_round r ∷ no_holder m ∷ []) ≡ true
        → ◌≡◌ {A = State} (record { promised = p; accepted = a; last = l; round = r; named = m })
        blank_state
    go None None None Round.Idle None e = refl
    go (Some b) a l r m e = true_false (sym e)
    go None (Some b) l r m e = true_false (sym e)
    go None None (Some t) r m e = true_false (sym e)
    go None None None (Round.Asking a) m e = true_false (sym e)
    go None None None (Round.Proposing p) m e =
        true_false (sym e)
    go None None None Round.Idle (Some k) e =
        true_false (sym e)

pub blank_is : is_blank_state blank_state ≡ true
unfolding is_blank_state all_of no_promise no_lease no_tick no_round no_holder
blank_is = refl

pub blank_fits : (s : Settings) (number : ℕ) → state_ok s number blank_state ≡ true
unfolding state_ok all_of promised_ok accepted_ok last_ok round_ok named_ok
blank_fits s number = refl
