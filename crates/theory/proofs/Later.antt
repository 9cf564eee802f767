-- What every step keeps: `Later s s'` is what all steps have in common, and it carries each fact of
-- the invariant from s to s'. Assumes nothing.
use Prim.Native.Nat.{ℕ, ◌+◌, ◌≤◌, ◌<◌}
use native.Mathlib.Omega.{arith}
use mathlib.Core.Path.{◌≡◌}
use mathlib.Core.Logic.{◌⊎◌, inl, inr}
use mathlib.Core.Option.{Option, some}
use Rattle.theory.specs.Ballots.{tick, proposer, Lease, Holder, top}
use Rattle.theory.specs.Model.{Setup, Message, prepare_request, prepare_response}
use Rattle.theory.specs.Model.{propose_request, propose_response, learn, release, Round, idle}
use Rattle.theory.specs.Model.{asking, proposing, Host, World, Sent}
use Rattle.theory.specs.Invariant.{Voted, Proposed, Joined, Shut, Released, Live, Chosen, Old}
use Rattle.theory.specs.Invariant.{Below, Heard, Proposal, Holding, MessageOk, RoundOk}
use Rattle.theory.specs.Invariant.{Naming, HostOk, Invariant}
use Rattle.theory.proofs.Ballots.{le_or_lt}

module _ {𝒞 : Setup} where
  open 𝒞 use {longest as T, spread as S}

  -- x may vote for b now
  pub record Fresh (s : World 𝒞) (x b : ℕ) : Type 0 where
    pub awake : (s.host x).wait ≤ s.clock x
    pub unbound : (s.host x).promised ≤ b + 1
    pub owner : ℕ
    pub end : ℕ
    pub proposed : Proposed s b owner end
    pub ahead : s.clock x < end

  -- as a host v becomes w, it remembers its promise and its last ballot, or it has restarted at the
  -- clock c
  abbrev pub Remembers : ℕ → Host 𝒞 → Host 𝒞 → Type 0
  Remembers c v w = ((v.promised ≤ w.promised) × (v.last ≤ w.last)) ⊎ (c + T + S ≤ w.wait)

  pub record Later (s s' : World 𝒞) : Type 0 where
    pub sent : (m : Message) → Sent s m → Sent s' m
    pub clock : (x : ℕ) → s.clock x ≤ s'.clock x
    pub wait : (x : ℕ) → (s.host x).wait ≤ (s'.host x).wait
    pub memory : (x : ℕ) → Remembers (s.clock x) (s.host x) (s'.host x)
    -- who votes now was free to
    pub vote : (x b : ℕ) → Voted s' x b → Voted s x b ⊎ Fresh s x b
    -- nobody has voted for what is proposed now
    pub proposal : (b o e : ℕ) → Proposed s' b o e → Proposed s b o e ⊎ ((x : ℕ) → Voted s' x b → ⊥)

  -- from s to s' nothing was proposed with a ballot of x's
  pub record Mute (s s' : World 𝒞) (x : ℕ) : Type 0 where
    pub proposed : (b o e : ℕ) → proposer b ≡ x → Proposed s' b o e → Proposed s b o e

  -- from s to s' x let go of nothing
  pub record Firm (s s' : World 𝒞) (x : ℕ) : Type 0 where
    pub released : (r : ℕ) → proposer r ≡ x → Sent s' (release r) → Sent s (release r)

  -- what x has let go of in s', where it let go of nothing from s to s'
  pub released_back : {s s' : World 𝒞} {x b : ℕ} → Firm s s' x → Released s' b x → Released s b x
  released_back firm r =
      record {
        ballot = r.ballot;
        sent = firm.released r.ballot r.by_owner r.sent;
        by_owner = r.by_owner;
        higher = r.higher;
      }

  module _ {s s' : World 𝒞} (I : Invariant s) (L : Later s s') where
    -- a proposal's end is within T of its tick
    end_short : (b o e : ℕ) → Proposed s b o e → e ≤ tick b + T
    end_short b o e p = (I.messages _ p).short

    pub joined_kept : (x b : ℕ) → Joined s x b → Joined s' x b
    joined_kept x b j h = go (L.memory x) (le_or_lt (s.host x).promised b)
      where
        go : Remembers (s.clock x) (s.host x) (s'.host x) →
            ((s.host x).promised ≤ b) ⊎ (b < (s.host x).promised) → tick b + T ≤ (s'.host x).wait
        go m (inl k) = omega (arith, j k, L.wait x)
        go (inl m) (inr k) = omega arith
        go (inr m) (inr k) = omega (arith, (I.hosts x).promised_old b k)

    pub shut_kept : (x b e : ℕ) → e ≤ tick b + T → Shut s x b e → Shut s' x b e
    shut_kept x b e t j h w = go (L.memory x) (le_or_lt (s.host x).promised (b + 1))
      where
        go : Remembers (s.clock x) (s.host x) (s'.host x) →
            ((s.host x).promised ≤ b + 1) ⊎ (b + 1 < (s.host x).promised) → e ≤ s'.clock x
        go m (inl k) = omega (arith, j k (omega (arith, L.wait x)), L.clock x)
        go (inl m) (inr k) = omega arith
        go (inr m) (inr k) = omega (arith, (I.hosts x).promised_old b (omega arith))

    -- who is shut does not vote
    silent_kept : (x b o e : ℕ) → Proposed s b o e → Shut s x b e → (Voted s x b → ⊥) → Voted s' x b
        → ⊥
    silent_kept x b o e p j n v = go (L.vote x b v)
      where
        go : Voted s x b ⊎ Fresh s x b → ⊥
        go (inl v) = n v
        go (inr f) =
            let q : f.end ≡ e = (I.one _ _ _ _ _ f.proposed p).1 in
            omega (arith, f.awake, f.ahead, j f.unbound (omega (arith, f.awake, f.ahead)))

    -- who has joined a higher ballot does not vote
    pub joined_silent : (x b c o e : ℕ) → Proposed s c o e → c < b → Joined s x b → Voted s' x c
        → Voted s x c
    joined_silent x b c o e p l j v = go (L.vote x c v)
      where
        go : Voted s x c ⊎ Fresh s x c → Voted s x c
        go (inl v) = v
        go (inr f) =
            absurd
            (omega (
              arith,
              f.awake,
              f.ahead,
              end_short _ _ _ f.proposed,
              j (omega (arith, f.unbound)),
            ))

    pub live_before : (b o e : ℕ) → Proposed s b o e → Live s' b o e → Live s b o e
    live_before b o e p l = record {
      not_dead = λ d. l.not_dead (λ y. omega (arith, d y, L.clock y));
      not_blocked = λ k. l.not_blocked (record {
        set = k.set;
        majority = k.majority;
        silent = λ x i v. silent_kept x b o e p (k.shut x i) (k.silent x i) v;
        shut = λ x i. shut_kept x b e (end_short b o e p) (k.shut x i);
      });
      not_released = λ r.
          l.not_released (released_back (record { released = λ c i q. L.sent _ q }) r);
    }

    pub chosen_kept : (b : ℕ) → Chosen s b → Chosen s' b
    chosen_kept b c =
        record { set = c.set; majority = c.majority; votes = λ x i. L.sent _ (c.votes x i) }

    pub old_kept : (b : ℕ) → Old s b → Old s' b
    old_kept b h y = omega (arith, h y, L.clock y)

    pub below_kept : (b : ℕ) (A : Option Lease) → Below s b A → Below s' b A
    below_kept b A h a e = (L.sent _ (h a e).0, (h a e).1)

    pub heard_kept : (x b : ℕ) (A : Option Lease) → Heard s x b A → Heard s' x b A
    heard_kept x b A h =
        record {
          joined = joined_kept x b h.joined;
          full = λ c o e p l k v.
              go c o e (L.proposal c o e p) l k v;
        }
      where
        go : (c o e : ℕ) → Proposed s c o e ⊎ ((x : ℕ) → Voted s' x c → ⊥) → c < b → Live s' c o e
            → Voted s' x c → c < top A
        go c o e (inl p) l k v =
            h.full c o e p l (live_before c o e p k) (joined_silent x b c o e p l h.joined v)
        go c o e (inr n) l k v = absurd (n x v)

    pub holding_kept : (b o f : ℕ) → Holding s b o f → Holding s' b o f
    holding_kept b o f h =
        record { proposed = L.sent _ h.proposed; chosen = chosen_kept b h.chosen }

    proposal_kept : (b e : ℕ) → Proposal s b e → Proposal s' b e
    proposal_kept b e h = record {
      old = old_kept b h.old;
      short = h.short;
      set = h.set;
      majority = h.majority;
      joined = λ x i. joined_kept x b (h.joined x i);
      spent = λ l. go l (L.memory (proposer b)) (le_or_lt (s.host (proposer b)).last (tick b));
    }
      where
        go : (s'.host (proposer b)).last ≤ tick b →
            Remembers (s.clock (proposer b)) (s.host (proposer b)) (s'.host (proposer b)) →
            ((s.host (proposer b)).last ≤ tick b) ⊎ (tick b < (s.host (proposer b)).last)
            → tick b + T ≤ (s'.host (proposer b)).wait
        go l m (inl k) = omega (arith, h.spent k, L.wait (proposer b))
        go l (inl m) (inr k) = omega arith
        go l (inr m) (inr k) = omega (arith, h.old (proposer b))

    pub message_kept : (m : Message) → MessageOk s m → MessageOk s' m
    message_kept (prepare_request b) h = old_kept b h
    message_kept (prepare_response x b A) h =
        record { heard = heard_kept x b A h.heard; below = below_kept b A h.below }
    message_kept (propose_request b o e) h = proposal_kept b e h
    message_kept (propose_response x b) h =
        record { owner = h.owner; end = h.end; proposed = L.sent _ h.proposed }
    message_kept (learn b o f) h = holding_kept b o f h
    message_kept (release b) h = omega (arith, L.clock (proposer b))

    -- ---- a host and its parts, where the host did nothing that they rest on

    -- what x has accepted, where x did not vote
    pub accepted_kept_on : (x w w' : ℕ) (A A' : Option Lease)
        → ((b : ℕ) → Voted s' x b → Voted s x b) → w ≤ w' → top A ≤ top A' →
        ((b o e : ℕ) → Voted s x b → Proposed s b o e → Live s b o e → w < e → b < top A) →
        (b o e : ℕ) → Voted s' x b → Proposed s' b o e → Live s' b o e → w' < e → b < top A'
    accepted_kept_on x w w' A A' quiet lw la k b o e v p l g = go (L.proposal b o e p)
      where
        go : Proposed s b o e ⊎ ((y : ℕ) → Voted s' y b → ⊥) → b < top A'
        go (inl p) = omega (arith, k b o e (quiet b v) p (live_before b o e p l) (omega arith))
        go (inr n) = absurd (n x v)

    pub round_kept : (x l : ℕ) (r : Round 𝒞) → Mute s s' x → Firm s s' x → RoundOk s x l r
        → RoundOk s' x l r
    round_kept x l idle mute firm h = tt
    round_kept x l (asking b d R K) mute firm h = record {
      ours = h.ours;
      unsaid = λ o e p. h.unsaid o e (mute.proposed b o e h.ours p);
      spent = h.spent;
      old = old_kept b h.old;
      short = h.short;
      unreleased = λ k. h.unreleased (released_back firm k);
      below = below_kept b K h.below;
      heard = λ y i. heard_kept y b K (h.heard y i);
    }
    round_kept x l (proposing b o e R) mute firm h = record {
      proposed = L.sent _ h.proposed;
      unreleased = λ k. h.unreleased (released_back firm k);
      votes = λ y i. L.sent _ (h.votes y i);
    }

    pub naming_kept : (x : ℕ) (n : Holder) → Firm s s' x → s'.clock x < n.end → Naming s x n
        → Naming s' x n
    naming_kept x n firm l k = record {
      holding = holding_kept _ _ _ k.holding;
      ahead = l;
      unreleased = λ i r. k.unreleased i (released_back firm r);
    }

    pub named_kept : (x : ℕ) (N : Option Holder) → s'.clock x ≡ s.clock x → Firm s s' x →
        ((n : Holder) → N ≡ some n → Naming s x n) → (n : Holder) → N ≡ some n → Naming s' x n
    named_kept x N c firm k n q = naming_kept x n firm (omega (arith, (k n q).ahead)) (k n q)

    -- a host that took no part
    pub host_kept : (x : ℕ) (v : Host 𝒞) → s'.clock x ≡ s.clock x
        → ((b : ℕ) → Voted s' x b → Voted s x b) →
        Mute s s' x → Firm s s' x → HostOk s x v → HostOk s' x v
    host_kept x v c quiet mute firm h = record {
      wait_short = omega (arith, h.wait_short);
      promised_old = λ b l. omega (arith, h.promised_old b l);
      accepted_ok = λ a q. (L.sent _ (h.accepted_ok a q).0, (h.accepted_ok a q).1);
      accepted_kept =
          accepted_kept_on x v.wait v.wait v.accepted v.accepted quiet (omega arith)
          (omega arith) h.accepted_kept;
      round_ok = round_kept x v.last v.round mute firm h.round_ok;
      named_ok = named_kept x v.named c firm h.named_ok;
    }
