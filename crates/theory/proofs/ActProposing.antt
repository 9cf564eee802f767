-- The acts of the proposing round keep the invariant: proposing, counting a vote, telling of the
-- holder, naming it. Assumes nothing.
use Prim.Native.Nat.{ℕ, ◌+◌, ◌≤◌, ◌<◌}
use native.Mathlib.Omega.{arith}
use native.Mathlib.Nat.{le_refl}
use mathlib.Core.Path.{◌≡◌, ap, subst, ◌∙◌}
use mathlib.Core.Logic.{◌⊎◌, inl, inr}
use mathlib.Core.Option.{Option, none, some, some-injective}
use Rattle.theory.specs.Ballots.{tick, proposer, Lease, top}
use Rattle.theory.specs.Model.{Setup, Message, propose_request, propose_response, learn, asking}
use Rattle.theory.specs.Model.{proposing, Host, World, Sent, put, with_round, with_holder}
use Rattle.theory.specs.Model.{HoldersEnd, ToldOwner, ToldEnd, Choice, free, over, renew}
use Rattle.theory.specs.Model.{other, Counted}
use Rattle.theory.specs.Invariant.{Voted, Proposed, Live, Proposal, Holding, MessageOk}
use Rattle.theory.specs.Invariant.{Asking, Proposing, Invariant}
use Rattle.theory.proofs.Ballots.{le_or_lt, with_new}
use Rattle.theory.proofs.Later.{Later, released_back, message_kept, joined_kept}
use Rattle.theory.proofs.Later.{holding_kept, round_kept}
use Rattle.theory.proofs.Act.{kind, Owed, NewProposal, later, held}
use Rattle.theory.proofs.ActParts.{come_dead, under, joined_shut, plain_owed, voted_before}
use Rattle.theory.proofs.ActParts.{mute, firm, host_with_round, keep_round, keep_named}

module _ {𝒞 : Setup} where
  open 𝒞 use {longest as T, spread as S, Hosts, In, Majority}

  module _ {s : World 𝒞} (I : Invariant s) (h : ℕ) where
    pub keep_propose : (b d o e : ℕ) (R R' : Hosts) (K : Option Lease)
        → (s.host h).round ≡ asking b d R K → Majority R →
        Choice h (s.clock h) (tick b + d + S) K o e → ((x : ℕ) → In x R' → ⊥) →
        Invariant
        (put s h (with_round (s.host h) (proposing b o e R')) (some (propose_request b o e)))
    keep_propose b d o e R R' K q maj choice nobody =
        held I h w m F
        (λ m' z.
        subst (λ k. MessageOk (put s h w m) k) (some-injective _ _ z)
        (message_kept I L (propose_request b o e) proposal))
        (host_with_round I h v.last (proposing b o e R') m F (omega arith) (omega arith)
        (record {
          proposed = with_new;
          unreleased = λ r. Q.unreleased (released_back (firm I h w m (omega arith) h) r);
          votes = λ x i. absurd (nobody x i);
        }))
        (λ b' o' e' z. new b' o' e' (some-injective _ _ z))
      where
        v : Host 𝒞
        v = s.host h

        w : Host 𝒞
        w = with_round v (proposing b o e R')

        m : Option Message
        m = some (propose_request b o e)

        Q : Asking s h v.last b d R K
        Q = rw q at (I.hosts h).round_ok

        F : Owed s h w m
        F = record {
          wait = le_refl _;
          memory = inl (le_refl _, le_refl _);
          vote = λ x c z. absurd (omega (arith, ap kind z));
          proposal = λ c o' e' z. let r : b ≡ c = cc in
              subst (λ c. (proposer c ≡ h) × ((o' e' : ℕ) → Proposed s c o' e' → ⊥)) r
              (Q.ours, Q.unsaid);
          release = λ c z. absurd (omega (arith, ap kind z));
        }

        L : Later s (put s h w m)
        L = later I h w m F

        -- the kept lease's end is short enough
        kept_short : (a : Lease) → K ≡ some a → a.end ≤ tick b + T
        kept_short a z = let r = Q.below a z in omega (arith, (I.messages _ r.0).short, r.1)

        end_short : {o e : ℕ} → Choice h (s.clock h) (tick b + d + S) K o e → e ≤ tick b + T
        end_short (free z) = omega (arith, Q.short)
        end_short (over a z l) = omega (arith, Q.short)
        end_short (renew a e z p l l' (inl c)) = omega (arith, Q.short)
        end_short (renew a e z p l l' (inr c)) = omega (arith, kept_short a z)
        end_short (other a z) = kept_short a z

        proposal : Proposal s b e
        proposal = record {
          old = Q.old;
          short = end_short choice;
          set = R;
          majority = maj;
          joined = λ x i. (Q.heard x i).joined;
          spent = rw Q.ours (λ l. absurd (omega (arith, Q.spent)));
        }

        -- the kept lease is at least as high as each live proposal below b ...
        covered : (c o' e' : ℕ) → Proposed s c o' e' → c < b → Live s c o' e' → c < top K
        covered c o' e' p l k = go (le_or_lt (top K) c)
          where
            go : (top K ≤ c) ⊎ (c < top K) → c < top K
            go (inr t) = t
            go (inl t) =
                absurd (k.not_blocked (record {
                  set = R;
                  majority = maj;
                  silent = λ x i y. omega (arith, (Q.heard x i).full c o' e' p l k y);
                  shut = λ x i.
                      joined_shut s x b c e' l (I.messages _ p).short (Q.heard x i).joined;
                }))

        -- ... so it is for the same owner, and ends no earlier
        at_one : (a : Lease) → K ≡ some a → (c o' e' : ℕ) → Proposed s c o' e' → c < b
            → Live s c o' e' → (o' ≡ a.owner) × (e' ≤ a.end)
        at_one a z c o' e' p l k =
            let t : c < a.ballot + 1 = rw z at (covered c o' e' p l k) in
            under I c o' e' a p (Q.below a z).0 (omega arith) k

        up : {o e : ℕ} → Choice h (s.clock h) (tick b + d + S) K o e → (c o' e' : ℕ)
            → Proposed s c o' e' → c < b → Live s c o' e' →
            (o' ≡ o) × (e' ≤ e)
        up (free z) c o' e' p l k = absurd (omega (arith, covered c o' e' p l k, ap top z))
        up (over a z t) c o' e' p l k =
            absurd (k.not_dead (come_dead I h e' (omega (arith, (at_one a z c o' e' p l k).1))))
        up (renew a e z i t t' r) c o' e' p l k =
            let g = at_one a z c o' e' p l k in (g.0 ∙ i, omega (arith, g.1))
        up (other a z) c o' e' p l k = at_one a z c o' e' p l k

        -- a proposal with a higher ballot blocks this one
        down : (c o' e' : ℕ) → Proposed s c o' e' → b < c → Live (put s h w m) b o e → ⊥
        down c o' e' p l k =
            let g = I.messages _ p in
            k.not_blocked (record {
              set = g.set;
              majority = g.majority;
              silent = λ x i y. let u = I.messages _ (voted_before I h w m (omega arith) x b y) in
                  Q.unsaid u.owner u.end u.proposed;
              shut = λ x i.
                  joined_shut (put s h w m) x c b e l (end_short choice)
                  (joined_kept I L x c (g.joined x i));
            })

        new : (b' o' e' : ℕ) → propose_request b o e ≡ propose_request b' o' e'
            → NewProposal s (put s h w m) b' o' e'
        new b' o' e' z =
            let p : b ≡ b' = cc in
            let q : o ≡ o' = cc in
            let r : e ≡ e' = cc in
            subst (λ b. NewProposal s (put s h w m) b o' e') p
            (subst (λ o. NewProposal s (put s h w m) b o e') q
            (subst (λ e. NewProposal s (put s h w m) b o e) r
            (record { up = up choice; down = down })))

    pub keep_count : (b o e : ℕ) (R R' : Hosts) (x : ℕ) → (s.host h).round ≡ proposing b o e R
        → Sent s (propose_response x b) →
        Counted 𝒞 x R R' → Invariant (put s h (with_round (s.host h) (proposing b o e R')) none)
    keep_count b o e R R' x q m more =
        keep_round I h (proposing b o e R')
        (record {
          proposed = Q.proposed;
          unreleased = Q.unreleased;
          votes = λ y i. let whose : (y ≡ x) ⊎ In y R = more y i in by_whom y whose;
        })
      where
        Q : Proposing s h b o e R
        Q = rw q at (I.hosts h).round_ok

        by_whom : (y : ℕ) → (y ≡ x) ⊎ In y R → Voted s y b
        by_whom y (inl z) = rw z m
        by_whom y (inr i) = Q.votes y i

    -- a lease that a majority voted for; the keepers' end is the spread after the holder's
    won : (b o e f : ℕ) (R : Hosts) → Proposing s h b o e R → Majority R → HoldersEnd S e f
        → Holding s b o f
    won b o e f R Q maj apart =
        let z : e ≡ f + S = omega (arith, apart) in
        record {
          proposed = rw z at Q.proposed;
          chosen = record { set = R; majority = maj; votes = Q.votes };
        }

    pub keep_tell : (b o e p f : ℕ) (R : Hosts) → (s.host h).round ≡ proposing b o e R → Majority R
        → ToldOwner s.sent o p → ToldEnd s.sent S e f →
        Invariant (put s h (s.host h) (some (learn b p f)))
    keep_tell b o e p f R q maj told ends =
        let same : p ≡ o = told in
        let apart : e ≡ f + S = ends in
        held I h v m F
        (λ m' z.
        subst (λ k. MessageOk (put s h v m) k) (some-injective _ _ z)
        (holding_kept I L b p f (rw same (won b o e f R Q maj apart))))
        (host_with_round I h v.last v.round m F (omega arith) (omega arith)
        (round_kept I L h v.last v.round (mute I h v m (omega arith) h)
        (firm I h v m (omega arith) h) (I.hosts h).round_ok))
        (λ b o e q. absurd (omega (arith, ap kind q)))
      where
        v : Host 𝒞
        v = s.host h

        m : Option Message
        m = some (learn b p f)

        F : Owed s h v m
        F = plain_owed I h v m (omega arith) (le_refl _) (inl (le_refl _, le_refl _))

        L : Later s (put s h v m)
        L = later I h v m F

        Q : Proposing s h b o e R
        Q = rw q at (I.hosts h).round_ok

    pub keep_win : (b o e f : ℕ) (R : Hosts) → (s.host h).round ≡ proposing b o e R → Majority R
        → HoldersEnd S e f → s.clock h < f →
        Invariant
        (put s h (with_holder (s.host h) (record { ballot = b; owner = o; end = f })) none)
    keep_win b o e f R q maj apart l =
        let Q : Proposing s h b o e R = rw q at (I.hosts h).round_ok in
        keep_named I h _
        (record {
          holding = won b o e f R Q maj apart;
          ahead = l;
          unreleased = λ i. Q.unreleased;
        })
