-- Laws of the leaf rules. Agreement and the limits stand on them, and a build whose rule is another
-- does not have them. Assumes nothing.
use Rattle.std.specs.Prelude.{Option, Some, None}
use mathlib.Core.Path.{◌≡◌, refl, sym, ap, ◌∙◌}
use mathlib.Core.Logic.{◌≢◌}
use mathlib.Core.Bool.{Bool, true, false, cond, not}
use Prim.Native.Nat.{ℕ, ◌+◌, ◌≤◌, ◌<◌}
use native.Mathlib.Omega.{arith}
use lib.Dec.{leb, eqb}
use borrow.Author.Tests.{ltb-true, ltb-false, leb-true, leb-false, eqb-true, eqb-false, not-true}
use borrow.Author.Tests.{le-leb}
use Rattle.base.proofs.Tests.{by_test, true_false, both}
use Rattle.quorum.specs.Sets.{with_host, is_majority}
use Rattle.quorum.proofs.Majorities.{with_same}
use Rattle.message.specs.declared.Ballot.{Ballot}
use Rattle.message.specs.declared.KeepersEnd.{KeepersEnd}
use Rattle.message.specs.Leases.{Lease, Holder, LearnedLease}
use Rattle.message.specs.declared.Head.{Head}
use Rattle.message.proofs.Laws.{above_itself, above_one_way}
use Rattle.message.specs.Message.{is_above, to_holders}
use Rattle.rules.specs.declared.Value.{Value}
use Rattle.rules.specs.declared.Vote.{Vote}
use Rattle.rules.specs.Rules.{is_waiting, wait_end, lease_over, accepted_at, holder_over, named_at}
use Rattle.rules.specs.Rules.{ballot_at, is_fresh, may_promise, counts_reply, has_ended}
use Rattle.rules.specs.Rules.{replaces_kept, higher_of, kept_after, acts_on, value, own_is_later}
use Rattle.rules.specs.Rules.{value_to_propose, is_forbidden, may_accept, after_accept}
use Rattle.rules.specs.Rules.{naming_bound, is_namable, may_learn, named_by, names_itself}
use Rattle.rules.specs.Rules.{takes_release, is_freed, freed, freed_lease, freed_holder}
use Rattle.rules.specs.Rules.{after_release}

-- the first test fails and the second holds
second : (a b : Bool) → cond a false b ≡ true → (a ≡ false) × (b ≡ true)
second true b e = true_false (sym e)
second false b e = (refl, e)

-- ---- waiting, time and restart

-- the wait outlasts every lease proposed before it: its ballot's tick is at most S above the clock,
-- and its end at most T later
pub wait_outlasts : (clock longest spread tick end : ℕ) → tick ≤ clock + spread
    → end ≤ tick + longest → end ≤ wait_end clock longest spread
unfolding wait_end
wait_outlasts clock longest spread tick end a b = omega arith

-- a host that does not wait has reached the end of its wait
pub awake : (clock wait : ℕ) → is_waiting clock wait ≡ false → wait ≤ clock
awake clock wait e = ltb-false _ _ e

-- a wait ends at clock + T + S
pub wait_is : (clock longest spread : ℕ) → wait_end clock longest spread ≡ clock + longest + spread
unfolding wait_end
wait_is clock longest spread = refl

-- what is left of an accepted lease: nothing where it goes, and all of it where it stays
pub data LeaseLeft (Goes Stays : Lease → Type 0) : Option Lease → Option Lease → Type 0 where
  empty : LeaseLeft Goes Stays None None
  over : (l : Lease) → Goes l → LeaseLeft Goes Stays (Some l) None
  live : (l : Lease) → Stays l → LeaseLeft Goes Stays (Some l) (Some l)

-- and of a named holder
pub data HolderLeft (Goes Stays : Holder → Type 0) : Option Holder → Option Holder → Type 0 where
  nobody : HolderLeft Goes Stays None None
  dropped : (h : Holder) → Goes h → HolderLeft Goes Stays (Some h) None
  stays : (h : Holder) → Stays h → HolderLeft Goes Stays (Some h) (Some h)

-- time drops an accepted lease whose end has come, and no other
abbrev pub LeaseAged : ℕ → Option Lease → Option Lease → Type 0
LeaseAged clock = LeaseLeft (λ l. l.end.0 ≤ clock) (λ l. clock < l.end.0)

pub lease_aged : (clock : ℕ) (a : Option Lease) → LeaseAged clock a (accepted_at clock a)
unfolding accepted_at
lease_aged clock None = empty
lease_aged clock (Some l) =
    by_test (LeaseAged clock (Some l)) (lease_over clock l) _ _
    (λ t. over l (leb-true l.end.0 clock t)) (λ t. live l (leb-false l.end.0 clock t))

-- and so with a named holder
abbrev pub HolderAged : ℕ → Option Holder → Option Holder → Type 0
HolderAged clock = HolderLeft (λ h. h.end.0 ≤ clock) (λ h. clock < h.end.0)

pub holder_aged : (clock : ℕ) (m : Option Holder) → HolderAged clock m (named_at clock m)
unfolding named_at
holder_aged clock None = nobody
holder_aged clock (Some h) =
    by_test (HolderAged clock (Some h)) (holder_over clock h) _ _
    (λ t. dropped h (leb-true h.end.0 clock t)) (λ t. stays h (leb-false h.end.0 clock t))

-- ---- start

-- a start's ballot is of its clock and its host
pub ballot_clock : (clock number : ℕ) → ((ballot_at clock number).tick ≡ clock)
    × ((ballot_at clock number).host ≡ number)
ballot_clock clock number = (refl, refl)

-- a start's tick is above the last ballot's
pub fresh : (t clock : ℕ) → is_fresh (Some t) clock ≡ true → t < clock
unfolding is_fresh
fresh t clock e = ltb-true t clock e

-- ---- prepare request

-- a promise only rises
pub promise_rises : (p b : Ballot) → may_promise (Some p) b ≡ true → is_above b p ≡ true
unfolding may_promise
promise_rises p b e = e

-- ---- prepare response

-- a host that replied is not counted again
pub counted_once : (replied h : ℕ) → counts_reply (with_host replied h) h ≡ false
counted_once replied h = ap (λ (b : ℕ). not (eqb b 1)) (with_same replied h)

-- the end of a lease has come where it is at or below the clock
come : (clock : ℕ) (l : Lease) → l.end.0 ≤ clock → has_ended clock (Some l) ≡ true
unfolding has_ended
come clock l h = le-leb l.end.0 clock h

-- at a tie the earlier reply is kept
pub earlier_kept : (a b : Lease) → a.ballot ≡ b.ballot
    → higher_of (Some a) (Some b) ≡ Some a
unfolding higher_of
earlier_kept a b e = rw (e, above_itself b.ballot)

-- of two replies one is kept that the other's ballot is not above; an empty one is below every
-- other
abbrev pub NotAbove : Option Lease → Option Lease → Type 0
NotAbove None b = Unit {0}
NotAbove (Some a) None = ⊥
NotAbove (Some a) (Some b) = is_above a.ballot b.ballot ≡ false

pub data Higher (a b : Option Lease) : Option Lease → Type 0 where
  earlier : NotAbove b a → Higher a b a
  later : NotAbove a b → Higher a b b

pub higher_kept : (a b : Option Lease) → Higher a b (higher_of a b)
unfolding higher_of
higher_kept None b = later tt
higher_kept (Some a) None = earlier tt
higher_kept (Some a) (Some b) =
    by_test (Higher (Some a) (Some b)) (replaces_kept a b) _ _
    (λ t. later (above_one_way _ _ t)) (λ t. earlier t)

-- an empty reply leaves what was kept
empty_leaves : (clock : ℕ) (kept : Option Lease) → kept_after clock kept None ≡ kept
unfolding kept_after has_ended higher_of
empty_leaves clock None = refl
empty_leaves clock (Some a) = refl

-- a reply whose lease has ended counts as empty, whatever its ballot
pub ended_as_empty : (clock : ℕ) (kept : Option Lease) (l : Lease) → l.end.0 ≤ clock
    → kept_after clock kept (Some l) ≡ kept_after clock kept None
unfolding kept_after
ended_as_empty clock kept l h =
    ap (λ (b : Bool). cond b kept (higher_of kept (Some l))) (come clock l h)
    ∙ sym (empty_leaves clock kept)

-- what is kept after one more reply is the higher of the two, or what was kept where the reply's
-- lease has ended
pub data Keeping (clock : ℕ) (kept : Option Lease) : Option Lease → Option Lease → Type 0 where
  as_sent : {reply k : Option Lease} → Higher kept reply k → Keeping clock kept reply k
  as_empty : (l : Lease) → l.end.0 ≤ clock → Keeping clock kept (Some l) kept

pub keeping : (clock : ℕ) (kept reply : Option Lease)
    → Keeping clock kept reply (kept_after clock kept reply)
unfolding kept_after has_ended
keeping clock kept None = as_sent (higher_kept kept None)
keeping clock kept (Some l) =
    by_test (Keeping clock kept (Some l)) (leb l.end.0 clock) _ _
    (λ t. as_empty l (leb-true l.end.0 clock t))
    (λ _. as_sent (higher_kept kept (Some l)))

-- a round acts on the one reply that makes its set a majority
pub acts_majority : (n before after : ℕ) → acts_on n before after ≡ true
    → (is_majority n after ≡ true) × (is_majority n before ≡ false)
unfolding acts_on
acts_majority n before after e = let p = second _ _ e in (p.1, p.0)

-- where there was none before, a round acts exactly on a majority
pub acts_first : (n before after : ℕ) → is_majority n before ≡ false
    → acts_on n before after ≡ is_majority n after
unfolding acts_on
acts_first n before after e = rw e

-- the lease to propose is one's own where none was kept, where the kept one has ended, or where it
-- is one's own and ends no later; else the kept one
pub data ToPropose (number clock : ℕ) (own : KeepersEnd) : Option Lease → Value → Type 0 where
  free : ToPropose number clock own None (value number own)
  ended : (l : Lease) → l.end.0 ≤ clock
      → ToPropose number clock own (Some l) (value number own)
  renewed : (l : Lease) → l.owner ≡ number → l.end.0 ≤ own.0
      → ToPropose number clock own (Some l) (value number own)
  kept : (l : Lease) → ToPropose number clock own (Some l) (value l.owner l.end)

pub to_propose : (number clock : ℕ) (own : KeepersEnd) (a : Option Lease)
    → ToPropose number clock own a (value_to_propose number clock own a)
unfolding value_to_propose
to_propose number clock own None = free
to_propose number clock own (Some l) =
    by_test (ToPropose number clock own (Some l)) (leb l.end.0 clock) _ _
    (λ t. ended l (leb-true l.end.0 clock t))
    (λ _. by_test (ToPropose number clock own (Some l)) (eqb l.owner number) _ _
    (λ o.
    by_test (ToPropose number clock own (Some l)) (own_is_later own l) _ _
    (λ t. renewed l (eqb-true l.owner number o) (leb-true l.end.0 own.0 t)) (λ _. kept l))
    (λ _. kept l))

-- ---- propose request

-- an accepted proposal's end is to come
pub accept_live : (p : Option Ballot) (clock : ℕ) (l : Lease) → may_accept p clock l ≡ true
    → clock < l.end.0
unfolding may_accept
accept_live p clock l e = leb-false l.end.0 clock (second _ _ e).0

-- whatever is forbidden is not accepted
accept_allowed : (p : Option Ballot) (clock : ℕ) (l : Lease) → may_accept p clock l ≡ true
    → is_forbidden p l.ballot ≡ false
unfolding may_accept
accept_allowed p clock l e =
    not-true (is_forbidden p l.ballot) (second (leb l.end.0 clock) _ e).1

-- what is not forbidden is not below the promise
allowed_not_below : (p b : Ballot) → is_forbidden (Some p) b ≡ false → is_above p b ≡ false
unfolding is_forbidden
allowed_not_below p b e = e

-- an accepted proposal's ballot is not below the promise
pub accept_not_below : (p : Ballot) (clock : ℕ) (l : Lease)
    → may_accept (Some p) clock l ≡ true → is_above p l.ballot ≡ false
accept_not_below p clock l e =
    allowed_not_below p l.ballot (accept_allowed (Some p) clock l e)

-- whoever accepts has promised that ballot, and holds that lease
pub accept_promises : (l : Lease) → ((after_accept l).promised ≡ Some l.ballot)
    × ((after_accept l).accepted ≡ Some l)
unfolding after_accept
accept_promises l = (refl, refl)

-- ---- propose response and learn

-- a lease that is named has its holder's end to come, and the two ends are S apart
pub namable : (clock spread : ℕ) (e : KeepersEnd) → is_namable clock spread e ≡ true
    → (clock < (to_holders e spread).0) × ((to_holders e spread).0 + spread ≡ e.0)
namable clock spread e h =
    let l = ltb-true (naming_bound clock spread) e.0 h in
    (omega arith, omega arith)

-- a holder is named where nobody was, or gives way to a higher ballot
pub data Naming (h : Holder) : Option Holder → Option Holder → Type 0 where
  first : Naming h None (Some h)
  replaced : (k : Holder) → is_above h.ballot k.ballot ≡ true
      → Naming h (Some k) (Some h)
  unmoved : (k : Holder) → is_above h.ballot k.ballot ≡ false
      → Naming h (Some k) (Some k)

pub naming : (h : Holder) (m : Option Holder) → Naming h m (named_by m h)
unfolding named_by
naming h None = first
naming h (Some k) =
    by_test (Naming h (Some k)) (is_above h.ballot k.ballot) _ _ (λ t. replaced k t)
    (λ t. unmoved k t)

-- a learn message that is taken names another host, and its end is to come
pub record Learnt (number clock : ℕ) (m : LearnedLease) : Type 0 where
  pub another : m.owner ≢ number
  pub live : clock < m.end.0

pub learnt : (number clock : ℕ) (m : LearnedLease) → may_learn number clock m ≡ true
    → Learnt number clock m
unfolding may_learn
learnt number clock m e =
    let p = second (eqb m.owner number) _ e in
    record {
      another = eqb-false m.owner number p.0;
      live = leb-false m.end.0 clock (not-true (leb m.end.0 clock) p.1);
    }

-- ---- release and release request

-- a host that names itself names a holder, of which it is the owner
pub names_itself_lem : (number : ℕ) (m : Option Holder) → names_itself number m ≡ true
    → (h : Holder) × (m ≡ Some h) × (h.owner ≡ number)
unfolding names_itself
names_itself_lem number None e = true_false (sym e)
names_itself_lem number (Some h) e = (h, refl, eqb-true h.owner number e)

-- a release at the promise is taken
pub release_at_promise : (b : Ballot) → takes_release (Some b) b ≡ true
unfolding takes_release is_forbidden
release_at_promise b = let e = above_itself b in cc

-- a release that is taken is not below the promise
pub release_not_below : (p b : Ballot) → takes_release (Some p) b ≡ true
    → is_above p b ≡ false
unfolding takes_release
release_not_below p b e = allowed_not_below p b (not-true (is_forbidden (Some p) b) e)

-- what a release frees is its sender's, with a lower ballot
pub record Freed (m : Head) (o : ℕ) (b : Ballot) : Type 0 where
  pub senders : o ≡ m.sender
  pub lower : is_above m.ballot b ≡ true

freed_tells : (m : Head) (o : ℕ) (b : Ballot) → is_freed m o b ≡ true → Freed m o b
freed_tells m o b e =
    let p = both (eqb o m.sender) (is_above m.ballot b) e in
    record { senders = eqb-true o m.sender p.0; lower = p.1 }

-- a release drops an accepted lease that it frees, and no other
abbrev pub LeaseFreed : Head → Option Lease → Option Lease → Type 0
LeaseFreed m =
    LeaseLeft (λ l. Freed m l.owner l.ballot) (λ l. is_freed m l.owner l.ballot ≡ false)

pub freed_lease_lem : (m : Head) (a : Option Lease) → LeaseFreed m a (freed_lease m a)
unfolding freed
freed_lease_lem m None = empty
freed_lease_lem m (Some l) =
    by_test (LeaseFreed m (Some l)) (is_freed m l.owner l.ballot) _ _
    (λ t. over l (freed_tells m l.owner l.ballot t)) (λ t. live l t)

-- and so with a named holder
abbrev pub HolderFreed : Head → Option Holder → Option Holder → Type 0
HolderFreed m =
    HolderLeft (λ h. Freed m h.owner h.ballot) (λ h. is_freed m h.owner h.ballot ≡ false)

pub freed_holder_lem : (m : Head) (n : Option Holder) → HolderFreed m n (freed_holder m n)
unfolding freed
freed_holder_lem m None = nobody
freed_holder_lem m (Some h) =
    by_test (HolderFreed m (Some h)) (is_freed m h.owner h.ballot) _ _
    (λ t. dropped h (freed_tells m h.owner h.ballot t)) (λ t. stays h t)

-- whoever takes a release has promised its ballot
pub release_promises : (v : Vote) (m : Head)
    → ((after_release v m).promised ≡ Some m.ballot)
    × ((after_release v m).accepted ≡ freed_lease m v.accepted)
unfolding after_release
release_promises v m = (refl, refl)
