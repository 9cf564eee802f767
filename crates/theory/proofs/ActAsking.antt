-- The acts of the asking round keep the invariant: giving up, starting, hearing a reply. Assumes
-- nothing.
use Prim.Native.Nat.{ℕ, ◌+◌, ◌≤◌, ◌<◌}
use native.Mathlib.Omega.{arith}
use native.Mathlib.Nat.{le_refl}
use mathlib.Core.Path.{◌≡◌, sym, ap, subst, ◌∙◌}
use mathlib.Core.Logic.{◌⊎◌, inl, inr}
use mathlib.Core.Option.{Option, none, some, none-ne-some, some-injective}
use Rattle.theory.specs.Ballots.{tick, proposer, Lease, top}
use Rattle.theory.specs.Model.{Setup, Message, prepare_request, prepare_response, release, idle}
use Rattle.theory.specs.Model.{asking, Host, World, Sent, put, with_round, with_asking}
use Rattle.theory.specs.Model.{Expired, Keeps, as_sent, as_empty, Counted, next_tick, NewTick}
use Rattle.theory.specs.Invariant.{Voted, Proposed, Live, Below, Heard, Reply, MessageOk}
use Rattle.theory.specs.Invariant.{Asking, Invariant}
use Rattle.theory.proofs.Act.{kind, released_before, Owed, held}
use Rattle.theory.proofs.ActParts.{come_dead, under, plain_owed, proposed_before}
use Rattle.theory.proofs.ActParts.{host_with_round, keep_round}

module _ {𝒞 : Setup} where
  open 𝒞 use {longest as T, spread as S, Hosts, In}

  module _ {s : World 𝒞} (I : Invariant s) (h : ℕ) where
    pub keep_give_up : Invariant (put s h (with_round (s.host h) idle) none)
    keep_give_up = keep_round I h idle tt

    -- nothing is proposed with a new ballot yet: it is above the last one of its host, which has
    -- waited out all that a restart made it forget
    unused : (b o e : ℕ) → tick b ≡ next_tick (s.host h) (s.clock h) → proposer b ≡ h →
        (s.host h).wait ≤ s.clock h → NewTick (s.host h) (s.clock h) → 1 ≤ T → Proposed s b o e
        → ⊥
    unused b o e now ours awake new long p =
        let z : (s.host h).last ≤ tick b
        → tick b + T ≤ (s.host h).wait = rw ours at (I.messages _ p).spent in
        omega (arith, z (omega arith))

    -- no release of a host is above its new ballot
    highest : (b r : ℕ) → tick b ≡ next_tick (s.host h) (s.clock h) → proposer b ≡ h
        → Sent s (release r) → proposer r ≡ h → b < r → ⊥
    highest b r now ours q i l =
        let z : tick r ≤ s.clock h = rw i at (I.messages _ q) in omega arith

    pub keep_start : (b d : ℕ) (R : Hosts) → tick b ≡ next_tick (s.host h) (s.clock h)
        → proposer b ≡ h →
        ((x : ℕ) → In x R → ⊥) → (s.host h).wait ≤ s.clock h → NewTick (s.host h) (s.clock h)
        → 1 ≤ d → d + S ≤ T →
        Invariant
        (put s h
        (with_asking (s.host h) (next_tick (s.host h) (s.clock h) + 1) (asking b d R none))
        (some (prepare_request b)))
    keep_start b d R now ours nobody awake new one short =
        held I h w m F
        (λ m' z.
        subst (λ k. MessageOk (put s h w m) k) (some-injective _ _ z)
        (λ y. omega (arith, I.near h y)))
        (host_with_round I h (next_tick v (s.clock h) + 1) (asking b d R none) m F (omega arith)
        (omega arith)
        (record {
          ours = ours;
          unsaid = λ o e p.
              unused b o e now ours awake new (omega arith)
              (proposed_before I h w m (omega arith) b o e p);
          spent = omega arith;
          old = λ y. omega (arith, I.near h y);
          short = short;
          unreleased = λ r.
              highest b r.ballot now ours
              (released_before m (omega arith) r.ballot r.sent) r.by_owner r.higher;
          below = λ a q. absurd (none-ne-some a q);
          heard = λ x i. absurd (nobody x i);
        }))
        (λ b o e q. absurd (omega (arith, ap kind q)))
      where
        v : Host 𝒞
        v = s.host h

        w : Host 𝒞
        w = with_asking v (next_tick v (s.clock h) + 1) (asking b d R none)

        m : Option Message
        m = some (prepare_request b)

        F : Owed s h w m
        F = plain_owed I h w m (omega arith) (le_refl _) (inl (le_refl _, omega arith))

    pub keep_hear : (b d : ℕ) (R R' : Hosts) (K A K' : Option Lease) (x : ℕ)
        → (s.host h).round ≡ asking b d R K → Sent s (prepare_response x b A) →
        Counted 𝒞 x R R' → Keeps (s.clock h) K A K' →
        Invariant (put s h (with_round (s.host h) (asking b d R' K')) none)
    keep_hear b d R R' K A K' x q m more keeps =
        keep_round I h (asking b d R' K') (record {
          ours = Q.ours;
          unsaid = Q.unsaid;
          spent = Q.spent;
          old = Q.old;
          short = Q.short;
          unreleased = Q.unreleased;
          below = one_of keeps;
          heard = λ y i. let whose : (y ≡ x) ⊎ In y R = more y i in by_whom y whose;
        })
      where
        Q : Asking s h (s.host h).last b d R K
        Q = rw q at (I.hosts h).round_ok

        P : Reply s x b A
        P = I.messages _ m

        one_of : Keeps (s.clock h) K A K' → Below s b K'
        one_of (as_sent (inl z) g) = rw z Q.below
        one_of (as_sent (inr z) g) = rw z P.below
        one_of (as_empty a t l (inl z) g) = rw z Q.below
        one_of (as_empty a t l (inr z) g) = λ k q. absurd (none-ne-some k (sym z ∙ q))

        -- what x voted for is at or below the reply's lease; where that one's end has come, none of
        -- it is live
        missed : (a : Lease) → A ≡ some a → Expired a (s.clock h) → (c o e : ℕ) → Proposed s c o e
            → c < b → Live s c o e → Voted s x c → ⊥
        missed a t l c o e p n k v =
            let u : c < a.ballot + 1 = rw t at (P.heard.full c o e p n k v) in
            k.not_dead
            (come_dead I h e
            (omega (arith, (under I c o e a p (P.below a t).0 (omega arith) k).1)))

        by_sender : Keeps (s.clock h) K A K' → Heard s x b K'
        by_sender (as_sent w g) = record {
          joined = P.heard.joined;
          full = λ c o e p l k v. omega (arith, P.heard.full c o e p l k v, g.over_reply);
        }
        by_sender (as_empty a t l w g) = record {
          joined = P.heard.joined;
          full = λ c o e p n k v. absurd (missed a t l c o e p n k v);
        }

        kept_over : Keeps (s.clock h) K A K' → top K ≤ top K'
        kept_over (as_sent w g) = omega (arith, g.over_kept)
        kept_over (as_empty a t l w g) = omega (arith, g.over_kept)

        by_whom : (y : ℕ) → (y ≡ x) ⊎ In y R → Heard s y b K'
        by_whom y (inl z) = rw z (by_sender keeps)
        by_whom y (inr i) =
            let g = Q.heard y i in
            record {
              joined = g.joined;
              full = λ c o e p l k v.
                  omega (arith, g.full c o e p l k v, kept_over keeps);
            }
