-- The claims of specs/Claims.antt, proved. Assumes nothing.
use Prim.Native.Nat.{ℕ}
use mathlib.Core.Path.{refl}
use lib.Dec.{eqb}
use Rattle.base.specs.Refusals.{done}
use Rattle.base.proofs.Tests.{by_test}
use Rattle.host.specs.declared.Host.{Host}
use Rattle.host.specs.Stepped.{Stepped}
use Rattle.host.specs.Steps.{refused_with, step_with, start_refusal, start_of, release_refusal}
use Rattle.host.specs.Steps.{release_of, receive_refusal, receive_of}
use Rattle.host.specs.Claims.{Stays, Claims}
use Rattle.host.proofs.Writable.{writable_each}
use Rattle.host.proofs.Refusals.{already_empty, already_lease, already_vote}
use Rattle.host.proofs.Refusals.{ended_as_empty, own_learn}
use Rattle.host.proofs.Outcomes.{begins, lets_go, gets, stays_step}
use Rattle.host.proofs.Within.{lawful_advance, lawful_restart, lawful_start, lawful_release}
use Rattle.host.proofs.Within.{lawful_message}
use Rattle.host.proofs.Majority.{majority_names}

-- a refused step hands back the host
stays_with : (k : ℕ) (h : Host) (step : Stepped) → Stays h step → Stays h (step_with k h step)
stays_with k h step p =
    by_test (Stays h) (eqb k done) step (refused_with k h) (λ _. p)
    (λ _. record { number = refl; clock = refl; wait = refl })

pub claims : Claims
unfolding start_of release_of receive_of
claims = record {
  advance = lawful_advance;
  restart = lawful_restart;
  start = lawful_start;
  release = lawful_release;
  message = lawful_message;
  each_writable = writable_each;
  start_stays = λ s h d. stays_with (start_refusal s h d) h _ (stays_step s h (begins d));
  release_stays = λ s h. stays_with (release_refusal s h) h _ (stays_step s h lets_go);
  message_stays = λ s h m. stays_with (receive_refusal s h m) h _ (stays_step s h (gets m));
  empty_once = already_empty;
  lease_once = already_lease;
  vote_once = already_vote;
  ended_as_empty = ended_as_empty;
  own_learn = own_learn;
  majority_names = majority_names;
}
