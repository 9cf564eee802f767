-- The facts that the proof of agreement speaks of, and the invariant. But for `Released` the claims
-- do not rest on them: they are what the proof carries from step to step.
--
-- A disjunction is written as an implication where that is enough: `Joined s x b` says that x has
-- promised b or higher, or waits until tick b + T, as "if the promise is below b, then ..". That a
-- proposal is lost (dead, blocked or released) is never a disjunct: each claim says "while the
-- proposal is live". What is claimed is then decidable, and nothing here needs excluded middle.
-- Assumes nothing.
use Rattle.std.specs.Prelude.{ℕ, ◌+◌, ◌≤◌, ◌<◌, ◌≡◌}
use Rattle.std.proofs.Math.Option.{Option, some}
use Rattle.theory.specs.Ballots.{tick, proposer, Lease, Holder, top}
use Rattle.theory.specs.Model.{Setup, Message, prepare_request, prepare_response}
use Rattle.theory.specs.Model.{propose_request, propose_response, learn, release, Round, idle}
use Rattle.theory.specs.Model.{asking, proposing, Host, World, Sent}

module _ {𝒞 : Setup} where
  open 𝒞 use {longest as T, spread as S, Hosts, In, Majority}

  -- ---- facts of a world; every step keeps them, but that a live proposal may come to be dead,
  -- blocked or released

  abbrev pub Voted : World 𝒞 → ℕ → ℕ → Type 0
  Voted s x b = Sent s (propose_response x b)

  abbrev pub Proposed : World 𝒞 → ℕ → ℕ → ℕ → Type 0
  Proposed s b o e = Sent s (propose_request b o e)

  -- x votes for nothing below b: it has promised b or higher, or it waits past the end of every
  -- lease with a ballot up to b
  abbrev pub Joined : World 𝒞 → ℕ → ℕ → Type 0
  Joined s x b = (s.host x).promised ≤ b → tick b + T ≤ (s.host x).wait

  -- x does not vote for the ballot b with the keepers' end e from now on
  abbrev pub Shut : World 𝒞 → ℕ → ℕ → ℕ → Type 0
  Shut s x b e = (s.host x).promised ≤ b + 1 → (s.host x).wait < e → e ≤ s.clock x

  -- no host can name a holder of a lease with the keepers' end e any more
  abbrev pub Dead : World 𝒞 → ℕ → Type 0
  Dead s e = (y : ℕ) → e ≤ s.clock y + S

  -- the ballot b with the keepers' end e can be chosen no more
  pub record Blocked (s : World 𝒞) (b e : ℕ) : Type 0 where
    pub set : Hosts
    pub majority : Majority set
    pub silent : (x : ℕ) → In x set → Voted s x b → ⊥
    pub shut : (x : ℕ) → In x set → Shut s x b e

  -- the host o has let go of what is its own under the ballot b. Not of what others own there: a
  -- lease may be proposed under a ballot below a release that came before it in time.
  pub record Released (s : World 𝒞) (b o : ℕ) : Type 0 where
    pub ballot : ℕ
    pub sent : Sent s (release ballot)
    pub by_owner : proposer ballot ≡ o
    pub higher : b < ballot

  pub record Live (s : World 𝒞) (b o e : ℕ) : Type 0 where
    pub not_dead : Dead s e → ⊥
    pub not_blocked : Blocked s b e → ⊥
    pub not_released : Released s b o → ⊥

  pub record Chosen (s : World 𝒞) (b : ℕ) : Type 0 where
    pub set : Hosts
    pub majority : Majority set
    pub votes : (x : ℕ) → In x set → Voted s x b

  -- ---- what is true of each message ever sent

  -- the ballot's tick is at most every clock and the spread
  abbrev pub Old : World 𝒞 → ℕ → Type 0
  Old s b = (y : ℕ) → tick b ≤ s.clock y + S

  -- the lease A is none, or a proposal with a ballot below b
  abbrev pub Below : World 𝒞 → ℕ → Option Lease → Type 0
  Below s b A = (a : Lease) → A ≡ some a → Proposed s a.ballot a.owner a.end
      × (a.ballot < b)

  -- x has joined b, and A is at least as high as every live proposal below b that x voted for
  pub record Heard (s : World 𝒞) (x b : ℕ) (A : Option Lease) : Type 0 where
    pub joined : Joined s x b
    pub full : (c o e : ℕ) → Proposed s c o e → c < b → Live s c o e → Voted s x c → c < top A

  -- a prepare response
  pub record Reply (s : World 𝒞) (x b : ℕ) (A : Option Lease) : Type 0 where
    pub heard : Heard s x b A
    pub below : Below s b A

  -- a propose request
  pub record Proposal (s : World 𝒞) (b e : ℕ) : Type 0 where
    pub old : Old s b
    pub short : e ≤ tick b + T
    pub set : Hosts
    pub majority : Majority set
    pub joined : (x : ℕ) → In x set → Joined s x b
    pub spent : (s.host (proposer b)).last ≤ tick b → tick b + T ≤ (s.host (proposer b)).wait

  -- a propose response
  pub record Vote (s : World 𝒞) (b : ℕ) : Type 0 where
    pub owner : ℕ
    pub end : ℕ
    pub proposed : Proposed s b owner end

  -- a learn, and what a host names
  pub record Holding (s : World 𝒞) (b o f : ℕ) : Type 0 where
    pub proposed : Proposed s b o (f + S)
    pub chosen : Chosen s b

  -- a release: its tick has come for its proposer
  abbrev pub Come : World 𝒞 → ℕ → Type 0
  Come s b = tick b ≤ s.clock (proposer b)

  abbrev pub MessageOk : World 𝒞 → Message → Type 0
  MessageOk s (prepare_request b) = Old s b
  MessageOk s (prepare_response x b A) = Reply s x b A
  MessageOk s (propose_request b o e) = Proposal s b e
  MessageOk s (propose_response x b) = Vote s b
  MessageOk s (learn b o f) = Holding s b o f
  MessageOk s (release b) = Come s b

  -- ---- what is true of each host

  -- p asks for the ballot b, and its last ballot's tick is one below `last`
  pub record Asking (s : World 𝒞) (p last b d : ℕ) (R : Hosts) (K : Option Lease) : Type 0 where
    pub ours : proposer b ≡ p
    pub unsaid : (o e : ℕ) → Proposed s b o e → ⊥
    pub spent : tick b < last
    pub old : Old s b
    pub short : d + S ≤ T
    pub unreleased : Released s b p → ⊥
    pub below : Below s b K
    pub heard : (x : ℕ) → In x R → Heard s x b K

  -- p proposes; whose ballot it is, the proof does not need
  pub record Proposing (s : World 𝒞) (p b o e : ℕ) (R : Hosts) : Type 0 where
    pub proposed : Proposed s b o e
    pub unreleased : Released s b p → ⊥
    pub votes : (x : ℕ) → In x R → Voted s x b

  abbrev pub RoundOk : World 𝒞 → ℕ → ℕ → Round 𝒞 → Type 0
  RoundOk s p last idle = Unit {0}
  RoundOk s p last (asking b d R K) = Asking s p last b d R K
  RoundOk s p last (proposing b o e R) = Proposing s p b o e R

  -- x names n
  pub record Naming (s : World 𝒞) (x : ℕ) (n : Holder) : Type 0 where
    pub holding : Holding s n.ballot n.owner n.end
    pub ahead : s.clock x < n.end
    pub unreleased : n.owner ≡ x → Released s n.ballot x → ⊥

  -- v is in order as the host x (wait: A; promised: B; accepted: F; round: D, H, I, K; named: J,
  -- K). K is `unreleased`: what a host has a round for, and what it names itself by, is not below a
  -- release of its own.
  pub record HostOk (s : World 𝒞) (x : ℕ) (v : Host 𝒞) : Type 0 where
    pub wait_short : v.wait ≤ s.clock x + T + S
    pub promised_old : (b : ℕ) → b < v.promised → tick b ≤ s.clock x + S
    pub accepted_ok : (a : Lease) → v.accepted ≡ some a
        → Proposed s a.ballot a.owner a.end × (a.ballot < v.promised)
    pub accepted_kept : (b o e : ℕ) → Voted s x b → Proposed s b o e → Live s b o e → v.wait < e
        → b < top v.accepted
    pub round_ok : RoundOk s x v.last v.round
    pub named_ok : (n : Holder) → v.named ≡ some n → Naming s x n

  -- ---- the invariant

  pub record Invariant (s : World 𝒞) : Type 0 where
    -- any two clocks differ by the spread at most
    pub near : (x y : ℕ) → s.clock x ≤ s.clock y + S
    pub messages : (m : Message) → Sent s m → MessageOk s m
    pub hosts : (x : ℕ) → HostOk s x (s.host x)
    -- proposals with equal ballots are equal
    pub one : (b o e o' e' : ℕ) → Proposed s b o e → Proposed s b o' e' → (o ≡ o') × (e ≡ e')
    -- a proposal above a live one is for the same owner, and ends no earlier
    pub main : (b o e b' o' e' : ℕ) → Proposed s b o e → Proposed s b' o' e' → b < b' → Live s b o e
        → (o ≡ o') × (e ≤ e')
