-- What the acts' proofs share: facts of one world, and acts that leave most of a host as it was.
-- Assumes nothing.
use Prim.Native.Nat.{ℕ, ◌+◌, ◌≤◌, ◌<◌}
use native.Mathlib.Omega.{arith}
use native.Mathlib.Nat.{le_refl}
use mathlib.Core.Path.{◌≡◌, refl, ap, subst}
use mathlib.Core.Logic.{◌⊎◌, inl, inr}
use mathlib.Core.Option.{Option, none, some, none-ne-some, some-injective}
use Rattle.theory.specs.Ballots.{tick, Lease, Holder, top}
use Rattle.theory.specs.Model.{Setup, Message, propose_request, propose_response, Round, Host}
use Rattle.theory.specs.Model.{World, put, with_round, with_asking, with_holder}
use Rattle.theory.specs.Invariant.{Voted, Proposed, Joined, Shut, Dead, Live, RoundOk, Naming}
use Rattle.theory.specs.Invariant.{HostOk, Invariant}
use Rattle.theory.proofs.Ballots.{le_or_lt, with_cases}
use Rattle.theory.proofs.Later.{Remembers, Later, Mute, Firm, accepted_kept_on, round_kept}
use Rattle.theory.proofs.Later.{named_kept}
use Rattle.theory.proofs.Act.{kind, Plain, NoVote, NoProposal, NoRelease, released_before}
use Rattle.theory.proofs.Act.{Owed, later, held}

module _ {𝒞 : Setup} where
  open 𝒞 use {longest as T}

  -- ---- facts of one world

  -- a proposal's end that a clock has come to is dead
  pub come_dead : {s : World 𝒞} → Invariant s → (x e : ℕ) → e ≤ s.clock x → Dead s e
  come_dead I x e l y = omega (arith, I.near x y)

  -- a proposal with a live one's ballot, or a higher one, is for the same owner, and ends no
  -- earlier
  pub under : {s : World 𝒞} → Invariant s → (b o e : ℕ) (a : Lease) → Proposed s b o e
      → Proposed s a.ballot a.owner a.end → b ≤ a.ballot →
      Live s b o e → (o ≡ a.owner) × (e ≤ a.end)
  under {s} I b o e a p q l k = go (le_or_lt a.ballot b)
    where
      go : (a.ballot ≤ b) ⊎ (b < a.ballot) → (o ≡ a.owner) × (e ≤ a.end)
      go (inr m) = I.main b o e a.ballot a.owner a.end p q m k
      go (inl m) =
          let z : a.ballot ≡ b = omega arith in
          let r = I.one b o e a.owner a.end p (rw z at q) in
          (r.0, omega (arith, r.1))

  -- an accepted ballot is promised
  pub top_promised : {s : World 𝒞} {x : ℕ} {v : Host 𝒞} → HostOk s x v
      → top v.accepted ≤ v.promised
  top_promised {s} {x} {v} H = go v.accepted refl
    where
      go : (A : Option Lease) → v.accepted ≡ A → top A ≤ v.promised
      go none q = omega arith
      go (some a) q = omega (arith, (H.accepted_ok a q).1)

  -- a live proposal that an awake host voted for is at or below what it has accepted
  pub voted_top : {s : World 𝒞} → Invariant s → (x b o e : ℕ) → (s.host x).wait ≤ s.clock x
      → Voted s x b → Proposed s b o e → Live s b o e →
      b < top (s.host x).accepted
  voted_top {s} I x b o e w v p k = go (le_or_lt e (s.host x).wait)
    where
      go : (e ≤ (s.host x).wait) ⊎ ((s.host x).wait < e) → b < top (s.host x).accepted
      go (inl l) = absurd (k.not_dead (come_dead I x e (omega arith)))
      go (inr l) = (I.hosts x).accepted_kept b o e v p k l

  -- who has joined b is shut to all below b
  pub joined_shut : (s : World 𝒞) (x b c e : ℕ) → c < b → e ≤ tick c + T → Joined s x b
      → Shut s x c e
  joined_shut s x b c e l t j p w = omega (arith, j (omega arith))

  module _ {s : World 𝒞} (I : Invariant s) (h : ℕ) where
    -- what is owed where the message is no vote, no proposal and no release
    pub plain_owed : (v : Host 𝒞) (m : Option Message) → Plain m → (s.host h).wait ≤ v.wait →
        Remembers (s.clock h) (s.host h) v → Owed s h v m
    plain_owed v m pl w k =
        record {
          wait = w;
          memory = k;
          vote = λ x b q.
              absurd (pl.vote (ap kind q));
          proposal = λ b o e q. absurd (pl.proposal (ap kind q));
          release = λ b q. absurd (pl.release (ap kind q));
        }

    -- where the message is no vote, or no proposal, there was each of them before
    pub voted_before : (v : Host 𝒞) (m : Option Message) → NoVote m → (x b : ℕ)
        → Voted (put s h v m) x b → Voted s x b
    voted_before v m nv x b q = go (with_cases m q)
      where
        go : Voted s x b ⊎ (m ≡ some (propose_response x b)) → Voted s x b
        go (inl q) = q
        go (inr q) = absurd (nv.vote (ap kind q))

    pub proposed_before : (v : Host 𝒞) (m : Option Message) → NoProposal m → (b o e : ℕ)
        → Proposed (put s h v m) b o e → Proposed s b o e
    proposed_before v m np b o e q = go (with_cases m q)
      where
        go : Proposed s b o e ⊎ (m ≡ some (propose_request b o e)) → Proposed s b o e
        go (inl q) = q
        go (inr q) = absurd (np.proposal (ap kind q))

    pub mute : (v : Host 𝒞) (m : Option Message) → NoProposal m → (x : ℕ) → Mute s (put s h v m) x
    mute v m pl x = record { proposed = λ b o e i q. proposed_before v m pl b o e q }

    pub firm : (v : Host 𝒞) (m : Option Message) → NoRelease m → (x : ℕ) → Firm s (put s h v m) x
    firm v m nr x = record { released = λ r i q. released_before m nr r q }

    -- a host of which only the round and the last ballot's tick change
    pub host_with_round : (l : ℕ) (r : Round 𝒞) (m : Option Message)
        (F : Owed s h (with_asking (s.host h) l r) m) → NoVote m → NoRelease m →
        RoundOk (put s h (with_asking (s.host h) l r) m) h l r
        → HostOk (put s h (with_asking (s.host h) l r) m) h (with_asking (s.host h) l r)
    host_with_round l r m F qu nr k =
        let v = s.host h in
        let H = I.hosts h in
        let L = later I h (with_asking v l r) m F in
        record {
          wait_short = H.wait_short;
          promised_old = H.promised_old;
          accepted_ok = λ a q. (L.sent _ (H.accepted_ok a q).0, (H.accepted_ok a q).1);
          accepted_kept =
              accepted_kept_on I L h v.wait v.wait v.accepted v.accepted
              (voted_before (with_asking v l r) m qu h) (le_refl _) (le_refl _) H.accepted_kept;
          round_ok = k;
          named_ok =
              named_kept I L h v.named refl (firm (with_asking v l r) m nr h) H.named_ok;
        }

    -- a step of the round only, with no message
    pub keep_round : (r : Round 𝒞) → RoundOk s h (s.host h).last r
        → Invariant (put s h (with_round (s.host h) r) none)
    keep_round r k =
        let v = s.host h in
        let F =
        plain_owed (with_round v r) none (omega arith) (le_refl _) (inl (le_refl _, le_refl _)) in
        held I h (with_round v r) none F (λ m q. absurd (none-ne-some m q))
        (host_with_round v.last r none F (omega arith) (omega arith)
        (round_kept I (later I h (with_round v r) none F) h v.last r
        (mute (with_round v r) none (omega arith) h) (firm (with_round v r) none (omega arith) h)
        k))
        (λ b o e q. absurd (omega (arith, ap kind q)))

    -- a step that names n only, with no message
    pub keep_named : (n : Holder) → Naming s h n
        → Invariant (put s h (with_holder (s.host h) n) none)
    keep_named n k =
        held I h w none F (λ m' q. absurd (none-ne-some m' q))
        (record {
          wait_short = H.wait_short;
          promised_old = H.promised_old;
          accepted_ok = λ a q. (L.sent _ (H.accepted_ok a q).0, (H.accepted_ok a q).1);
          accepted_kept =
              accepted_kept_on I L h v.wait v.wait v.accepted v.accepted (λ b q. q)
              (le_refl _) (le_refl _) H.accepted_kept;
          round_ok =
              round_kept I L h v.last v.round (mute w none (omega arith) h)
              (firm w none (omega arith) h) H.round_ok;
          named_ok =
              named_kept I L h (some n) refl (firm w none (omega arith) h)
              (λ n' q. subst (λ n. Naming s h n) (some-injective n n' q) k);
        })
        (λ b o e q. absurd (none-ne-some _ q))
      where
        v : Host 𝒞
        v = s.host h

        w : Host 𝒞
        w = with_holder v n

        H : HostOk s h v
        H = I.hosts h

        F : Owed s h w none
        F = plain_owed w none (omega arith) (le_refl _) (inl (le_refl _, le_refl _))

        L : Later s (put s h w none)
        L = later I h w none F
