-- The model of a cell: its setup, its hosts and messages, and the small steps that it takes. An
-- event of a real cell is a few of them.
--
-- A setup is a parameter, so that a theorem holds for every kind of set and of majority: all that
-- the theory asks of majorities is that any two have a member in common. Every number is a host
-- here; a cell of n hosts is one whose other hosts never do anything. `sent` is every message ever
-- sent. To lose, repeat or replace a message is no step, and a message may be delivered at any
-- time, to any host, any number of times. So a message has no target, and what goes to many hosts
-- is one message. Assumes nothing.
use Rattle.std.specs.Prelude.{ℕ, ◌+◌, ◌≤◌, ◌<◌, ◌≡◌, ◌⊎◌, ◌≢◌}
use Rattle.std.proofs.Math.Option.{Option, none, some}
use mathlib.Core.List.{List, [], Memᴰ}
use Rattle.theory.specs.Ballots.{tick, proposer, Lease, Holder, top, changed, with-one}

-- ---- the setup: T, S, sets of hosts and majorities

pub record Setup : Type 1 where
  pub longest : ℕ
  pub spread : ℕ
  pub Hosts : Type 0
  pub In : ℕ → Hosts → Type 0
  pub Majority : Hosts → Type 0
  pub meet : (P Q : Hosts) → Majority P → Majority Q → (x : ℕ) × In x P × In x Q

-- ---- messages

pub data Message : Type 0 where
  prepare_request : ℕ → Message  -- ballot
  prepare_response : ℕ → ℕ → Option Lease → Message  -- sender, ballot, accepted lease
  propose_request : ℕ → ℕ → ℕ → Message  -- ballot, owner, keepers' end
  propose_response : ℕ → ℕ → Message  -- sender, ballot
  learn : ℕ → ℕ → ℕ → Message  -- ballot, owner, holder's end
  release : ℕ → Message  -- ballot; its proposer is the host that lets go

-- ---- a host, and the world: all clocks, all hosts, all messages

pub data Round (𝒞 : Setup) : Type 0 where
  idle : Round 𝒞
  asking : ℕ → ℕ → 𝒞.Hosts → Option Lease
      → Round 𝒞  -- ballot, duration, who replied, the lease kept of the replies
  proposing : ℕ → ℕ → ℕ → 𝒞.Hosts → Round 𝒞  -- ballot, owner, keepers' end, who replied

-- `promised` is one more than the promised ballot, and `last` one more than the last ballot's tick;
-- 0 is none
pub record Host (𝒞 : Setup) : Type 0 where
  pub wait : ℕ
  pub promised : ℕ
  pub last : ℕ
  pub accepted : Option Lease
  pub round : Round 𝒞
  pub named : Option Holder

pub record World (𝒞 : Setup) : Type 0 where
  pub clock : ℕ → ℕ
  pub host : ℕ → Host 𝒞
  pub sent : List Message

-- ---- rules on leases and ends

-- the lease's end has come
abbrev pub Expired : Lease → ℕ → Type 0
Expired a now = a.end ≤ now

-- what is left of an accepted lease A when the clock is c: all of it, or nothing if its end has
-- come
abbrev pub AgedLease : ℕ → Option Lease → Option Lease → Type 0
AgedLease c A A' = (A' ≡ A) ⊎ ((A' ≡ none) × (a : Lease) × (A ≡ some a) × Expired a c)

-- a release with the ballot r frees what has the ballot b and the owner o: what is its proposer's,
-- if its ballot is lower
abbrev pub Frees : ℕ → ℕ → ℕ → Type 0
Frees r b o = (o ≡ proposer r) × (b < r)

-- what is left of an accepted lease A, or of a named holder N, after a release with the ballot r:
-- all of it, or nothing if r frees it
abbrev pub FreedLease : ℕ → Option Lease → Option Lease → Type 0
FreedLease r A A' = (A' ≡ A)
    ⊎ ((A' ≡ none) × (a : Lease) × (A ≡ some a) × Frees r a.ballot a.owner)

abbrev pub FreedHolder : ℕ → Option Holder → Option Holder → Type 0
FreedHolder r N N' = (N' ≡ N)
    ⊎ ((N' ≡ none) × (n : Holder) × (N ≡ some n) × Frees r n.ballot n.owner)

-- f is the holder's end of a lease with the keepers' end e
abbrev pub HoldersEnd : ℕ → ℕ → ℕ → Type 0
HoldersEnd S e f = e ≡ f + S

-- a learn of a chosen lease, with the owner o and the keepers' end e, tells of the owner p and the
-- holder's end f, after the messages l: of that owner, and of the end that is the spread earlier
abbrev pub ToldOwner : List Message → ℕ → ℕ → Type 0
ToldOwner l o p = p ≡ o

abbrev pub ToldEnd : List Message → ℕ → ℕ → ℕ → Type 0
ToldEnd l S e f = HoldersEnd S e f

-- the host h takes a learn of the owner o: it is another host
abbrev pub Learnable : ℕ → ℕ → Type 0
Learnable h o = o ≢ h

-- K' is at least as high as the kept lease K and as a reply's lease A
pub record Higher (K A K' : Option Lease) : Type 0 where
  pub over_kept : top K ≤ top K'
  pub over_reply : top A ≤ top K'

-- what a host keeps that has kept K, when its clock is now and a reply carries A: the higher one;
-- where A's end has come, the reply may count as empty too
pub data Keeps (now : ℕ) (K A K' : Option Lease) : Type 0 where
  as_sent : (K' ≡ K) ⊎ (K' ≡ A) → Higher K A K' → Keeps now K A K'
  as_empty : (a : Lease) → A ≡ some a → Expired a now → (K' ≡ K) ⊎ (K' ≡ none) → Higher K none K'
      → Keeps now K A K'

-- the keepers' end of a lease of one's own, for d ticks by the ballot b, when the clock is now: it
-- is counted from the ballot's tick
abbrev pub own_end : ℕ → ℕ → ℕ → ℕ → ℕ
own_end S now b d = tick b + d + S

-- the owner and the keepers' end that a majority of replies lets p propose
-- (now: p's clock; ours: the end that p's own lease would have; K: the lease kept of the replies)
pub data Choice (p now ours : ℕ) (K : Option Lease) : ℕ → ℕ → Type 0 where
  free : K ≡ none → Choice p now ours K p ours
  over : (a : Lease) → K ≡ some a → Expired a now → Choice p now ours K p ours
  renew : (a : Lease) (e : ℕ) → K ≡ some a → a.owner ≡ p → ours ≤ e → a.end ≤ e → (e ≡ ours)
      ⊎ (e ≡ a.end) → Choice p now ours K p e
  other : (a : Lease) → K ≡ some a → Choice p now ours K a.owner a.end

-- R' counts a reply of the host x beside those of R: nobody is in it but x and they
abbrev pub Counted : (𝒞 : Setup) → ℕ → 𝒞.Hosts → 𝒞.Hosts → Type 0
Counted 𝒞 x R R' = (y : ℕ) → 𝒞.In y R' → (y ≡ x) ⊎ 𝒞.In y R

module _ {𝒞 : Setup} where
  open 𝒞 use {longest as T, spread as S, Hosts, In, Majority}

  abbrev pub Sent : World 𝒞 → Message → Type 0
  Sent s m = Memᴰ m s.sent

  -- ---- rules on a host

  -- a host that has forgotten all, and waits until w
  abbrev pub blank : ℕ → Host 𝒞
  blank w = record { wait = w; promised = 0; last = 0; accepted = none; round = idle; named = none }

  -- a host that was opened or restarted when its clock was c
  abbrev pub restarted : ℕ → Host 𝒞
  restarted c = blank (c + T + S)

  abbrev pub opened : ℕ → World 𝒞
  opened c = record { clock = λ x. c; host = λ x. restarted c; sent = [] }

  abbrev pub with_round : Host 𝒞 → Round 𝒞 → Host 𝒞
  with_round v r =
      record {
        wait = v.wait;
        promised = v.promised;
        last = v.last;
        accepted = v.accepted;
        round = r;
        named = v.named;
      }

  abbrev pub with_asking : Host 𝒞 → ℕ → Round 𝒞 → Host 𝒞
  with_asking v l r =
      record {
        wait = v.wait;
        promised = v.promised;
        last = l;
        accepted = v.accepted;
        round = r;
        named = v.named;
      }

  abbrev pub with_vote : Host 𝒞 → ℕ → Option Lease → Host 𝒞
  with_vote v p a =
      record {
        wait = v.wait;
        promised = p;
        last = v.last;
        accepted = a;
        round = v.round;
        named = v.named;
      }

  abbrev pub with_named : Host 𝒞 → Option Holder → Host 𝒞
  with_named v n =
      record {
        wait = v.wait;
        promised = v.promised;
        last = v.last;
        accepted = v.accepted;
        round = v.round;
        named = n;
      }

  abbrev pub with_holder : Host 𝒞 → Holder → Host 𝒞
  with_holder v n = with_named v (some n)

  -- letting go: the host has no round and names nobody
  abbrev pub letting_go : Host 𝒞 → ℕ → Host 𝒞
  letting_go v l = with_named (with_asking v l idle) none

  -- obeying a release promises its ballot
  abbrev pub obeying : Host 𝒞 → ℕ → Option Lease → Option Holder → Host 𝒞
  obeying v b A N = with_named (with_vote v (b + 1) A) N

  -- accepting a proposal promises its ballot
  abbrev pub accepting : Host 𝒞 → ℕ → ℕ → ℕ → Host 𝒞
  accepting v b o e = with_vote v (b + 1) (some (record { ballot = b; owner = o; end = e }))

  -- the tick of a host's next ballot is its clock c
  abbrev pub next_tick : Host 𝒞 → ℕ → ℕ
  next_tick v c = c

  -- the tick c is later than the last ballot's
  abbrev pub NewTick : Host 𝒞 → ℕ → Type 0
  NewTick v c = v.last ≤ c

  -- the ballot b is above the promise
  abbrev pub Above : Host 𝒞 → ℕ → Type 0
  Above v b = v.promised ≤ b

  -- the ballot b is not below the promise
  abbrev pub NotBelow : Host 𝒞 → ℕ → Type 0
  NotBelow v b = v.promised ≤ b + 1

  -- the host names a holder, and o is its owner
  abbrev pub Names : Host 𝒞 → ℕ → Type 0
  Names v o = (n : Holder) × (v.named ≡ some n) × (n.owner ≡ o)

  -- ---- steps

  -- What the host h may do, when its clock is c, it is v, and l are the messages ever sent: the
  -- host that it becomes, and the message that it sends.
  pub data Act (c : ℕ) (v : Host 𝒞) (l : List Message) (h : ℕ) : Host 𝒞 → Option Message
      → Type 0 where
    restart : Act c v l h (restarted c) none
    give_up : Act c v l h (with_round v idle) none
    start :
        (b d : ℕ) (R : Hosts) → tick b ≡ next_tick v c → proposer b ≡ h → ((x : ℕ) → In x R → ⊥)
        → v.wait ≤ c →
        NewTick v c → 1 ≤ d → d + S ≤ T →
        Act c v l h (with_asking v (next_tick v c + 1) (asking b d R none))
        (some (prepare_request b))
    promise :
        (b : ℕ) → Memᴰ (prepare_request b) l → v.wait ≤ c → Above v b →
        Act c v l h (with_vote v (b + 1) v.accepted) (some (prepare_response h b v.accepted))
    hear :
        (b d : ℕ) (R R' : Hosts) (K A K' : Option Lease) (x : ℕ) → v.round ≡ asking b d R K
        → Memᴰ (prepare_response x b A) l →
        Counted 𝒞 x R R' → Keeps c K A K' →
        Act c v l h (with_round v (asking b d R' K')) none
    propose :
        (b d o e : ℕ) (R R' : Hosts) (K : Option Lease) → v.round ≡ asking b d R K → Majority R
        → Choice h c (own_end S c b d) K o e →
        ((x : ℕ) → In x R' → ⊥)
        → Act c v l h (with_round v (proposing b o e R')) (some (propose_request b o e))
    accept :
        (b o e : ℕ) → Memᴰ (propose_request b o e) l → v.wait ≤ c → c < e → NotBelow v b →
        Act c v l h (accepting v b o e) (some (propose_response h b))
    count :
        (b o e : ℕ) (R R' : Hosts) (x : ℕ) → v.round ≡ proposing b o e R
        → Memᴰ (propose_response x b) l →
        Counted 𝒞 x R R' → Act c v l h (with_round v (proposing b o e R')) none
    tell :
        (b o e p f : ℕ) (R : Hosts) → v.round ≡ proposing b o e R → Majority R → ToldOwner l o p
        → ToldEnd l S e f → Act c v l h v (some (learn b p f))
    -- a host names by its own majority whoever owns the lease, itself too ..
    win :
        (b o e f : ℕ) (R : Hosts) → v.round ≡ proposing b o e R → Majority R → HoldersEnd S e f
        → c < f → Act c v l h (with_holder v (record { ballot = b; owner = o; end = f })) none
    -- .. and by a learn another host only
    name :
        (b o f : ℕ) → Memᴰ (learn b o f) l → c < f → Learnable h o
        → Act c v l h (with_holder v (record { ballot = b; owner = o; end = f })) none
    let_go :
        (b : ℕ) → tick b ≡ next_tick v c → proposer b ≡ h → v.wait ≤ c → Names v h → NewTick v c
        → Act c v l h (letting_go v (next_tick v c + 1)) (some (release b))
    obey :
        (b : ℕ) (A : Option Lease) (N : Option Holder) → Memᴰ (release b) l → v.wait ≤ c
        → NotBelow v b → FreedLease b v.accepted A → FreedHolder b v.named N
        → Act c v l h (obeying v b A N) none

  -- the world after such a step
  abbrev pub put : World 𝒞 → ℕ → Host 𝒞 → Option Message → World 𝒞
  put s h v m =
      record { clock = s.clock; host = changed s.host h v; sent = with-one m s.sent }

  -- What becomes of a host v as its clock goes from c to c': an accepted lease may be dropped if
  -- its end has come; a named holder may be dropped, and is dropped if its end has come, unless the
  -- clock stood still.
  pub record Aged (c c' : ℕ) (v w : Host 𝒞) : Type 0 where
    pub same_wait : w.wait ≡ v.wait
    pub same_promised : w.promised ≡ v.promised
    pub same_last : w.last ≡ v.last
    pub same_round : w.round ≡ v.round
    pub accepted_aged : AgedLease c' v.accepted w.accepted
    pub named_aged : (n : Holder) → w.named ≡ some n → (v.named ≡ some n)
        × ((c' ≡ c) ⊎ (c' < n.end))

  abbrev pub aged : World 𝒞 → (ℕ → ℕ) → (ℕ → Host 𝒞) → World 𝒞
  aged s c f = record { clock = c; host = f; sent = s.sent }

  pub data Step (s : World 𝒞) : World 𝒞 → Type 0 where
    act : (h : ℕ) (v : Host 𝒞) (m : Option Message) → Act (s.clock h) (s.host h) s.sent h v m
        → Step s (put s h v m)
    age :
        (c : ℕ → ℕ) (f : ℕ → Host 𝒞) → ((x : ℕ) → s.clock x ≤ c x) → ((x y : ℕ) → c x ≤ c y + S) →
        ((x : ℕ) → Aged (s.clock x) (c x) (s.host x) (f x)) → Step s (aged s c f)

  -- any number of steps
  pub data Reach (s : World 𝒞) : World 𝒞 → Type 0 where
    here : Reach s s
    then : {t u : World 𝒞} → Reach s t → Step t u → Reach s u
