-- The acts of a release keep the invariant: letting go, and obeying one who lets go. Assumes
-- nothing.
use Prim.Native.Nat.{ℕ, ◌+◌, ◌≤◌, ◌<◌}
use native.Mathlib.Omega.{arith}
use native.Mathlib.Nat.{le_refl}
use mathlib.Core.Path.{◌≡◌, refl, sym, ap, subst, ◌∙◌}
use mathlib.Core.Logic.{inl, inr}
use mathlib.Core.Option.{Option, none, some, none-ne-some, some-injective}
use Rattle.theory.specs.Ballots.{tick, proposer, Lease, Holder, top}
use Rattle.theory.specs.Model.{Setup, Message, release, Round, idle, asking, proposing, Host}
use Rattle.theory.specs.Model.{World, Sent, put, FreedLease, FreedHolder, letting_go, obeying}
use Rattle.theory.specs.Model.{Names, next_tick, NewTick, NotBelow}
use Rattle.theory.specs.Invariant.{Voted, Proposed, Live, MessageOk, RoundOk, Naming, HostOk}
use Rattle.theory.specs.Invariant.{Invariant}
use Rattle.theory.proofs.Later.{Later, live_before, accepted_kept_on, round_kept, named_kept}
use Rattle.theory.proofs.Act.{kind, Owed, later, held}
use Rattle.theory.proofs.ActParts.{under, plain_owed, voted_before, mute, firm}

-- 0 for nobody
abbrev holders : Option Holder → ℕ
holders none = 0
holders (some n) = 1

module _ {𝒞 : Setup} where
  -- 0 for no round
  abbrev rounds : Round 𝒞 → ℕ
  rounds idle = 0
  rounds (asking b d R K) = 1
  rounds (proposing b o e R) = 1

  -- nothing is asked of a host that has no round and names nobody
  no_round_lem : (s : World 𝒞) (x l : ℕ) (r : Round 𝒞) → rounds r ≡ 0 → RoundOk s x l r
  no_round_lem s x l idle z = tt
  no_round_lem s x l (asking b d R K) z = absurd (omega arith)
  no_round_lem s x l (proposing b o e R) z = absurd (omega arith)

  no_holder_lem : (s : World 𝒞) (x : ℕ) (N : Option Holder) → holders N ≡ 0 → (n : Holder)
      → N ≡ some n → Naming s x n
  no_holder_lem s x none z n q = absurd (none-ne-some n q)
  no_holder_lem s x (some k) z n q = absurd (omega arith)

  module _ {s : World 𝒞} (I : Invariant s) (h : ℕ) where
    pub keep_let_go : (b : ℕ) → tick b ≡ next_tick (s.host h) (s.clock h) → proposer b ≡ h
        → (s.host h).wait ≤ s.clock h → Names (s.host h) h
        → NewTick (s.host h) (s.clock h) →
        Invariant
        (put s h (letting_go (s.host h) (next_tick (s.host h) (s.clock h) + 1))
        (some (release b)))
    keep_let_go b now ours awake names new =
        held I h w m F
        (λ m' z.
        subst (λ k. MessageOk (put s h w m) k) (some-injective _ _ z)
        (rw ours (omega arith)))
        (record {
          wait_short = H.wait_short;
          promised_old = H.promised_old;
          accepted_ok = λ a q. (L.sent _ (H.accepted_ok a q).0, (H.accepted_ok a q).1);
          accepted_kept =
              accepted_kept_on I L h v.wait v.wait v.accepted v.accepted
              (voted_before I h w m (omega arith) h) (le_refl _) (le_refl _) H.accepted_kept;
          round_ok = no_round_lem (put s h w m) h w.last w.round (omega arith);
          named_ok = no_holder_lem (put s h w m) h w.named (omega arith);
        })
        (λ b o e q. absurd (omega (arith, ap kind q)))
      where
        v : Host 𝒞
        v = s.host h

        w : Host 𝒞
        w = letting_go v (next_tick v (s.clock h) + 1)

        m : Option Message
        m = some (release b)

        H : HostOk s h v
        H = I.hosts h

        F : Owed s h w m
        F = record {
          wait = le_refl _;
          memory = inl (le_refl _, omega arith);
          vote = λ x c z. absurd (omega (arith, ap kind z));
          proposal = λ c o e z. absurd (omega (arith, ap kind z));
          release = λ c z. let r : b ≡ c = cc in subst (λ c. proposer c ≡ h) r ours;
        }

        L : Later s (put s h w m)
        L = later I h w m F

    pub keep_obey : (b : ℕ) (A : Option Lease) (N : Option Holder) → Sent s (release b)
        → (s.host h).wait ≤ s.clock h → NotBelow (s.host h) b
        → FreedLease b (s.host h).accepted A → FreedHolder b (s.host h).named N →
        Invariant (put s h (obeying (s.host h) b A N) none)
    keep_obey b A N q awake above lease holder =
        held I h w none F (λ m' z. absurd (none-ne-some m' z))
        (record {
          wait_short = H.wait_short;
          promised_old = λ c l. omega (arith, I.messages _ q, I.near (proposer b) h);
          accepted_ok = λ a z. still_ok a z lease;
          accepted_kept = λ c o e x p k l. kept c o e x p k l lease;
          round_ok =
              round_kept I L h v.last v.round (mute I h w none (omega arith) h)
              (firm I h w none (omega arith) h) H.round_ok;
          named_ok = λ n z. still_named n z holder;
        })
        (λ b o e z. absurd (none-ne-some _ z))
      where
        v : Host 𝒞
        v = s.host h

        w : Host 𝒞
        w = obeying v b A N

        H : HostOk s h v
        H = I.hosts h

        F : Owed s h w none
        F = plain_owed I h w none (omega arith) (le_refl _) (inl (omega (arith, above), le_refl _))

        L : Later s (put s h w none)
        L = later I h w none F

        still_ok : (a : Lease) → A ≡ some a → FreedLease b v.accepted A
            → Proposed s a.ballot a.owner a.end × (a.ballot < b + 1)
        still_ok a z (inl y) =
            let g = H.accepted_ok a (sym y ∙ z) in (g.0, omega (arith, g.1, above))
        still_ok a z (inr y) = absurd (none-ne-some a (sym y.0 ∙ z))

        -- a live proposal at or below the dropped lease is its owner's, so its owner has let go of
        -- it
        kept : (c o e : ℕ) → Voted s h c → Proposed s c o e → Live (put s h w none) c o e
            → v.wait < e → FreedLease b v.accepted A → c < top A
        kept c o e x p k l (inl y) =
            rw y (H.accepted_kept c o e x p (live_before I L c o e p k) l)
        kept c o e x p k l (inr (_, a, y, freed)) =
            let k' = live_before I L c o e p k in
            let t : c < a.ballot + 1 = rw y at (H.accepted_kept c o e x p k' l) in
            let g = under I c o e a p (H.accepted_ok a y).0 (omega arith) k' in
            absurd
            (k'.not_released
            (record {
              ballot = b;
              sent = q;
              by_owner = omega (arith, g.0, freed.0);
              higher = omega (arith, freed.1);
            }))

        still_named : (n : Holder) → N ≡ some n → FreedHolder b v.named N
            → Naming (put s h w none) h n
        still_named n z (inl y) =
            named_kept I L h v.named refl (firm I h w none (omega arith) h) H.named_ok n
            (sym y ∙ z)
        still_named n z (inr y) = absurd (none-ne-some n (sym y.0 ∙ z))
