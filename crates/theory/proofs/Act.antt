-- One host acts: what has to be shown for the invariant to hold afterwards. Assumes nothing.
use Prim.Native.Nat.{ℕ, ◌≤◌, ◌<◌}
use native.Mathlib.Omega.{arith}
use native.Mathlib.Nat.{le_refl}
use mathlib.Core.Path.{◌≡◌, refl, sym, ap, ◌∙◌}
use mathlib.Core.Logic.{◌⊎◌, inl, inr, ◌≢◌}
use mathlib.Core.Option.{Option, none, some}
use mathlib.Core.List.{List, Memᴰ}
use Rattle.theory.specs.Ballots.{proposer, with-one}
use Rattle.theory.specs.Model.{Setup, Message, prepare_request, prepare_response}
use Rattle.theory.specs.Model.{propose_request, propose_response, learn, release, Host, World}
use Rattle.theory.specs.Model.{Sent, put}
use Rattle.theory.specs.Invariant.{Voted, Proposed, Live, MessageOk, HostOk, Invariant}
use Rattle.theory.proofs.Ballots.{changed-all, with-old, with_cases}
use Rattle.theory.proofs.Later.{Fresh, Remembers, Later, live_before, message_kept}
use Rattle.theory.proofs.Later.{host_kept}

-- a number for each kind of message, 0 for none: to tell them apart
abbrev pub kind : Option Message → ℕ
kind none = 0
kind (some (prepare_request b)) = 1
kind (some (prepare_response x b A)) = 2
kind (some (propose_request b o e)) = 4
kind (some (propose_response x b)) = 5
kind (some (learn b o f)) = 6
kind (some (release b)) = 7

-- what a message is not; `omega arith` proves each for a message that is written out
pub record NoVote (m : Option Message) : Type 0 where
  pub vote : kind m ≡ 5 → ⊥

pub record NoProposal (m : Option Message) : Type 0 where
  pub proposal : kind m ≡ 4 → ⊥

pub record NoRelease (m : Option Message) : Type 0 where
  pub release : kind m ≡ 7 → ⊥

pub record Plain (m : Option Message) : Type 0 where
  pub vote : kind m ≡ 5 → ⊥
  pub proposal : kind m ≡ 4 → ⊥
  pub release : kind m ≡ 7 → ⊥

-- where the message is no release, there was each release before
pub released_before : (m : Option Message) → NoRelease m → {l : List Message} (r : ℕ)
    → Memᴰ (release r) (with-one m l) → Memᴰ (release r) l
released_before m nr {l} r q = go (with_cases m q)
  where
    go : Memᴰ (release r) l ⊎ (m ≡ some (release r)) → Memᴰ (release r) l
    go (inl q) = q
    go (inr q) = absurd (nr.release (ap kind q))

module _ {𝒞 : Setup} where
  -- what a step of the host h, to v with the message m, owes to all others
  pub record Owed (s : World 𝒞) (h : ℕ) (v : Host 𝒞) (m : Option Message) : Type 0 where
    pub wait : (s.host h).wait ≤ v.wait
    pub memory : Remembers (s.clock h) (s.host h) v
    pub vote : (x b : ℕ) → m ≡ some (propose_response x b) → (x ≡ h) × Fresh s h b
    pub proposal : (b o e : ℕ) → m ≡ some (propose_request b o e) → (proposer b ≡ h)
        × ((o' e' : ℕ) → Proposed s b o' e' → ⊥)
    pub release : (b : ℕ) → m ≡ some (release b) → proposer b ≡ h

  -- what a new proposal owes to the others
  pub record NewProposal (s s' : World 𝒞) (b o e : ℕ) : Type 0 where
    pub up : (c o' e' : ℕ) → Proposed s c o' e' → c < b → Live s c o' e' → (o' ≡ o) × (e' ≤ e)
    pub down : (c o' e' : ℕ) → Proposed s c o' e' → b < c → Live s' b o e → ⊥

  module _ {s : World 𝒞} (I : Invariant s) (h : ℕ) (v : Host 𝒞) (m : Option Message)
      (F : Owed s h v m) where
    voted_cases : (x b : ℕ) → Voted (put s h v m) x b → Voted s x b ⊎ ((x ≡ h) × Fresh s h b)
    voted_cases x b q = go (with_cases m q)
      where
        go : Voted s x b ⊎ (m ≡ some (propose_response x b)) → Voted s x b ⊎ ((x ≡ h) × Fresh s h b)
        go (inl q) = inl q
        go (inr q) = inr (F.vote x b q)

    -- a step that proposes is no vote
    unvoted : (b o e : ℕ) → m ≡ some (propose_request b o e) → (x : ℕ) → Voted (put s h v m) x b → ⊥
    unvoted b o e q x w = go (with_cases m w)
      where
        go : Voted s x b ⊎ (m ≡ some (propose_response x b)) → ⊥
        go (inl w) =
            let k = I.messages _ w in (F.proposal b o e q).1 k.owner k.end k.proposed
        go (inr w) = omega (arith, ap kind (sym q ∙ w))

    pub later : Later s (put s h v m)
    later = record {
      sent = λ m' q. with-old m q;
      clock = λ x. le_refl _;
      wait =
          changed-all (λ x w. (s.host x).wait ≤ w.wait) s.host h v F.wait (λ x n. le_refl _);
      memory =
          changed-all (λ x w. Remembers (s.clock x) (s.host x) w) s.host h v F.memory
          (λ x n. inl (le_refl _, le_refl _));
      vote = λ x b q. go x b (voted_cases x b q);
      proposal = λ b o e q. prop b o e (with_cases m q);
    }
      where
        go : (x b : ℕ) → Voted s x b ⊎ ((x ≡ h) × Fresh s h b) → Voted s x b ⊎ Fresh s x b
        go x b (inl q) = inl q
        go x b (inr q) = inr (rw q.0 q.1)

        prop : (b o e : ℕ) → Proposed s b o e ⊎ (m ≡ some (propose_request b o e))
            → Proposed s b o e
            ⊎ ((x : ℕ) → Voted (put s h v m) x b → ⊥)
        prop b o e (inl q) = inl q
        prop b o e (inr q) = inr (unvoted b o e q)

    pub held : ((m' : Message) → m ≡ some m' → MessageOk (put s h v m) m')
        → HostOk (put s h v m) h v →
        ((b o e : ℕ) → m ≡ some (propose_request b o e) → NewProposal s (put s h v m) b o e)
        → Invariant (put s h v m)
    held said mine-ok new = record {
      near = I.near;
      messages = λ m' q. at m' (with_cases m q);
      hosts = changed-all (λ x w. HostOk (put s h v m) x w) s.host h v mine-ok others;
      one = λ b o e o' e' p q. single b o e o' e' (with_cases m p) (with_cases m q);
      main = λ b o e b' o' e' p q l k. chain b o e b' o' e' (with_cases m p) (with_cases m q) l k;
    }
      where
        at : (m' : Message) → Sent s m' ⊎ (m ≡ some m') → MessageOk (put s h v m) m'
        at m' (inl q) = message_kept I later m' (I.messages m' q)
        at m' (inr q) = said m' q

        quiet : (x : ℕ) → x ≢ h → (b : ℕ) → Voted s x b ⊎ ((x ≡ h) × Fresh s h b) → Voted s x b
        quiet x n b (inl q) = q
        quiet x n b (inr q) = absurd (n q.0)

        mine : (x : ℕ) → x ≢ h → (b o e : ℕ) → proposer b ≡ x → Proposed s b o e
            ⊎ (m ≡ some (propose_request b o e)) → Proposed s b o e
        mine x n b o e i (inl q) = q
        mine x n b o e i (inr q) = absurd (n (sym i ∙ (F.proposal b o e q).0))

        firm : (x : ℕ) → x ≢ h → (r : ℕ) → proposer r ≡ x → Sent s (release r)
            ⊎ (m ≡ some (release r)) → Sent s (release r)
        firm x n r i (inl q) = q
        firm x n r i (inr q) = absurd (n (sym i ∙ F.release r q))

        others : (x : ℕ) → x ≢ h → HostOk (put s h v m) x (s.host x)
        others x n =
            host_kept I later x (s.host x) refl (λ b q. quiet x n b (voted_cases x b q))
            (record { proposed = λ b o e i q. mine x n b o e i (with_cases m q) })
            (record { released = λ r i q. firm x n r i (with_cases m q) }) (I.hosts x)

        single : (b o e o' e' : ℕ) → Proposed s b o e ⊎ (m ≡ some (propose_request b o e)) →
            Proposed s b o' e' ⊎ (m ≡ some (propose_request b o' e')) → (o ≡ o') × (e ≡ e')
        single b o e o' e' (inl p) (inl q) = I.one b o e o' e' p q
        single b o e o' e' (inl p) (inr q) = absurd ((F.proposal b o' e' q).1 o e p)
        single b o e o' e' (inr p) (inl q) = absurd ((F.proposal b o e p).1 o' e' q)
        single b o e o' e' (inr p) (inr q) = (cc, cc)

        chain : (b o e b' o' e' : ℕ) → Proposed s b o e ⊎ (m ≡ some (propose_request b o e)) →
            Proposed s b' o' e' ⊎ (m ≡ some (propose_request b' o' e')) → b < b' →
            Live (put s h v m) b o e → (o ≡ o') × (e ≤ e')
        chain b o e b' o' e' (inl p) (inl q) l k =
            I.main b o e b' o' e' p q l (live_before I later b o e p k)
        chain b o e b' o' e' (inl p) (inr q) l k =
            (new b' o' e' q).up b o e p l (live_before I later b o e p k)
        chain b o e b' o' e' (inr p) (inl q) l k = absurd ((new b o e p).down b' o' e' q l k)
        chain b o e b' o' e' (inr p) (inr q) l k = absurd (let z : b ≡ b' = cc in omega arith)
