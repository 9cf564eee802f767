-- The acts of a keeper keep the invariant: restarting, promising, accepting, naming a holder.
-- Assumes nothing.
use Prim.Native.Nat.{ℕ, ◌+◌, ◌≤◌, ◌<◌}
use native.Mathlib.Omega.{arith}
use native.Mathlib.Nat.{le_refl}
use mathlib.Core.Path.{◌≡◌, refl, ap, subst}
use mathlib.Core.Logic.{◌⊎◌, inl, inr}
use mathlib.Core.Option.{Option, none, some, none-ne-some, some-injective}
use Rattle.theory.specs.Ballots.{Lease}
use Rattle.theory.specs.Model.{Setup, Message, prepare_request, prepare_response}
use Rattle.theory.specs.Model.{propose_request, propose_response, learn, Host, World, Sent, put}
use Rattle.theory.specs.Model.{restarted, with_vote, with_holder, accepting, Learnable, Above}
use Rattle.theory.specs.Model.{NotBelow}
use Rattle.theory.specs.Invariant.{Voted, Proposed, Live, Reply, MessageOk, HostOk, Invariant}
use Rattle.theory.proofs.Ballots.{changed-here, with_cases}
use Rattle.theory.proofs.Later.{Fresh, Later, live_before, accepted_kept_on, round_kept}
use Rattle.theory.proofs.Later.{named_kept}
use Rattle.theory.proofs.Act.{kind, Owed, later, held}
use Rattle.theory.proofs.ActParts.{top_promised, voted_top, plain_owed, voted_before}
use Rattle.theory.proofs.ActParts.{proposed_before, mute, firm, keep_named}

module _ {𝒞 : Setup} where
  module _ {s : World 𝒞} (I : Invariant s) (h : ℕ) where
    -- a host that restarts waits past the end of all that was ever proposed
    outwaited : (b o e : ℕ) → Proposed s b o e → e ≤ (restarted {𝒞 = 𝒞} (s.clock h)).wait
    outwaited b o e p = omega (arith, (I.messages _ p).short, (I.messages _ p).old h)

    pub keep_restart : Invariant (put s h (restarted (s.clock h)) none)
    keep_restart =
        held I h w none F (λ m' q. absurd (none-ne-some m' q))
        (record {
          wait_short = omega arith;
          promised_old = λ b l. absurd (omega arith);
          accepted_ok = λ a q. absurd (none-ne-some a q);
          accepted_kept = λ b o e v p k l. absurd (omega (arith, outwaited b o e p));
          round_ok = tt;
          named_ok = λ n q. absurd (none-ne-some n q);
        })
        (λ b o e q. absurd (none-ne-some _ q))
      where
        w : Host 𝒞
        w = restarted (s.clock h)

        F : Owed s h w none
        F = plain_owed I h w none (omega arith) (omega (arith, (I.hosts h).wait_short))
            (inr (omega arith))

    pub keep_promise : (b : ℕ) → Sent s (prepare_request b) → (s.host h).wait ≤ s.clock h
        → Above (s.host h) b →
        Invariant
        (put s h (with_vote (s.host h) (b + 1) (s.host h).accepted)
        (some (prepare_response h b (s.host h).accepted)))
    keep_promise b q awake above =
        held I h w m F
        (λ m' z. subst (λ k. MessageOk (put s h w m) k) (some-injective _ _ z) reply)
        (record {
          wait_short = H.wait_short;
          promised_old = λ c l. omega (arith, I.messages _ q h);
          accepted_ok = λ a z.
              (L.sent _ (H.accepted_ok a z).0, omega (arith, (H.accepted_ok a z).1));
          accepted_kept =
              accepted_kept_on I L h v.wait v.wait v.accepted v.accepted
              (voted_before I h w m (omega arith) h) (le_refl _) (le_refl _) H.accepted_kept;
          round_ok =
              round_kept I L h v.last v.round (mute I h w m (omega arith) h)
              (firm I h w m (omega arith) h) H.round_ok;
          named_ok =
              named_kept I L h v.named refl (firm I h w m (omega arith) h) H.named_ok;
        })
        (λ b o e q. absurd (omega (arith, ap kind q)))
      where
        v : Host 𝒞
        v = s.host h

        w : Host 𝒞
        w = with_vote v (b + 1) v.accepted

        m : Option Message
        m = some (prepare_response h b v.accepted)

        H : HostOk s h v
        H = I.hosts h

        F : Owed s h w m
        F = plain_owed I h w m (omega arith) (le_refl _) (inl (omega arith, le_refl _))

        L : Later s (put s h w m)
        L = later I h w m F

        reply : Reply (put s h w m) h b v.accepted
        reply = record {
          heard = record {
            joined = λ l.
                absurd (omega (arith, ap (λ k. k.promised) (changed-here s.host h w)));
            full = λ c o e p l k x.
                let p' = proposed_before I h w m (omega arith) c o e p in
                voted_top I h c o e awake (voted_before I h w m (omega arith) h c x) p'
                (live_before I L c o e p' k);
          };
          below = λ a z. (L.sent _ (H.accepted_ok a z).0, omega (arith, (H.accepted_ok a z).1));
        }

    pub keep_accept : (b o e : ℕ) → Sent s (propose_request b o e) → (s.host h).wait ≤ s.clock h
        → s.clock h < e → NotBelow (s.host h) b →
        Invariant (put s h (accepting (s.host h) b o e) (some (propose_response h b)))
    keep_accept b o e q awake ahead above =
        held I h w m F
        (λ m' z.
        subst (λ k. MessageOk (put s h w m) k) (some-injective _ _ z)
        (record { owner = o; end = e; proposed = L.sent _ q }))
        (record {
          wait_short = H.wait_short;
          promised_old = λ c l. omega (arith, (I.messages _ q).old h);
          accepted_ok = λ k z.
              subst
              (λ k.
              Proposed (put s h w m) k.ballot k.owner k.end × (k.ballot < w.promised))
              (some-injective a k z)
              (L.sent _ q, omega arith);
          accepted_kept = λ c o' e' x p k l. topped c o' e' (with_cases m x) (unsaid c o' e' p) k l;
          round_ok =
              round_kept I L h v.last v.round (mute I h w m (omega arith) h)
              (firm I h w m (omega arith) h) H.round_ok;
          named_ok =
              named_kept I L h v.named refl (firm I h w m (omega arith) h) H.named_ok;
        })
        (λ b o e q. absurd (omega (arith, ap kind q)))
      where
        v : Host 𝒞
        v = s.host h

        a : Lease
        a = record { ballot = b; owner = o; end = e }

        w : Host 𝒞
        w = accepting v b o e

        m : Option Message
        m = some (propose_response h b)

        H : HostOk s h v
        H = I.hosts h

        free : Fresh s h b
        free =
            record {
              awake = awake;
              unbound = omega (arith, above);
              owner = o;
              end = e;
              proposed = q;
              ahead = ahead;
            }

        F : Owed s h w m
        F = record {
          wait = le_refl _;
          memory = inl (omega (arith, above), le_refl _);
          vote = λ x c z. (cc, let r : b ≡ c = cc in subst (λ c. Fresh s h c) r free);
          proposal = λ b o e z. absurd (omega (arith, ap kind z));
          release = λ b z. absurd (omega (arith, ap kind z));
        }

        L : Later s (put s h w m)
        L = later I h w m F

        unsaid : (c o e : ℕ) → Proposed (put s h w m) c o e → Proposed s c o e
        unsaid = proposed_before I h w m (omega arith)

        topped : (c o' e' : ℕ) → Voted s h c ⊎ (m ≡ some (propose_response h c))
            → Proposed s c o' e'
            → Live (put s h w m) c o' e' →
            v.wait < e' → c < b + 1
        topped c o' e' (inl x) p k l =
            omega
            (arith, top_promised H, H.accepted_kept c o' e' x p (live_before I L c o' e' p k) l)
        topped c o' e' (inr z) p k l = let r : b ≡ c = cc in omega arith

    pub keep_name : (b o f : ℕ) → Sent s (learn b o f) → s.clock h < f → Learnable h o →
        Invariant
        (put s h (with_holder (s.host h) (record { ballot = b; owner = o; end = f })) none)
    keep_name b o f m l other =
        keep_named I h _
        (record {
          holding = I.messages _ m;
          ahead = l;
          unreleased = λ i. absurd (omega (arith, other));
        })
