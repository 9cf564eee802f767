-- Laws of the layout: the lengths of frames, where refusals are found, a length field that is too
-- short or too long, and numbers as bytes and back. Assumes nothing.
use mathlib.Core.Path.{◌≡◌, refl, sym, ap, ◌∙◌}
use mathlib.Core.Bool.{Bool, true, false, cond}
use mathlib.Core.List.{List, [], ◌∷◌, ◌++◌, map}
use Prim.Native.Nat.{ℕ, ◌+◌, ◌≤◌, ◌<◌}
use native.Mathlib.Nat.{zero-add}
use native.Mathlib.Omega.{arith}
use lib.ListN.{length, get_or, take, length-map}
use lib.Dec.{lit<, lit≤, ltb, eqb}
use borrow.Author.Tests.{le-leb, lt-leb}
use Rattle.base.specs.Refusals.{refused_length, refused_short, first_of, test, Refusal, all_hold}
use Rattle.base.specs.Refusals.{answer_by, tests_in, fails_at, place_by}
use Rattle.base.specs.Lists.{All, all_of}
use Rattle.base.proofs.Places.{fails_append, fails_same}
use Rattle.wire.specs.Wire.{number_at, total, numbers_at, packed}
use Rattle.wire.proofs.Laws.{Fits, packed_length, numbers_packed, packed_numbers, numbers_within}
use Rattle.message.specs.declared.Sizes.{Sizes}
use Rattle.message.specs.declared.Numbers.{Numbers}
use Rattle.message.specs.declared.Message.{Message}
use Rattle.message.specs.declared.Message.TheVariants.{PrepareRequest, PrepareResponseEmpty}
use Rattle.message.specs.declared.Message.TheVariants.{PrepareResponseLease, ProposeRequest}
use Rattle.message.specs.declared.Message.TheVariants.{ProposeResponse, Learn, ReleaseRequest}
use Rattle.message.specs.Message.{prepare_response_lease, propose_request, learn, known_kind}
use Rattle.message.specs.Message.{numbers_of}
use Rattle.message.specs.Message.{message_of, is_response}
use Rattle.message.specs.Faults.{Field, settings, lent_bytes, frame_length, kind_number, sender}
use Rattle.message.specs.Faults.{target, ballot_tick, ballot_host}
use Rattle.message.specs.Faults.{accepted_tick, accepted_host, owner, keepers_end, holders_end}
use Rattle.message.specs.Faults.{host_tests, tick_tests, party_field, party_fits, refusals_of}
use Rattle.message.proofs.Laws.{by_kind}
use Rattle.layout.specs.Layout.{Fit, width_of, common, more_of, fields_of, widths, kind_length}
use Rattle.layout.specs.Layout.{field_number, offset_in, offset_of, place_in, length_offset}
use Rattle.layout.specs.Layout.{kind_offset, fore_length, length_refusals}
use Rattle.layout.specs.Layout.{value_of, bytes_in, bytes_of, value_in}
use Rattle.layout.specs.Parts.{ballot_offset, head_length, most_length, value_end}
use Rattle.layout.specs.Layout.{numbers_from, numbers_in}

-- ---- lengths

pub length_least : (k : ℕ) → head_length ≤ kind_length k
unfolding kind_length total
length_least k = omega arith

pub length_most : (k : ℕ) → known_kind k ≡ true → kind_length k ≤ most_length
unfolding kind_length more_of total
length_most =
    by_kind (λ (k : ℕ). kind_length k ≤ most_length) (lit≤ tt) (lit≤ tt) (lit≤ tt) (lit≤ tt)
    (lit≤ tt)
    (lit≤ tt) (lit≤ tt)

-- what follows the head, by the three tests of the kind
abbrev more_by : Bool → Bool → Bool → List Field
more_by a b c =
    cond a (accepted_tick ∷ accepted_host ∷ owner ∷ keepers_end ∷ [])
    (cond b (owner ∷ keepers_end ∷ []) (cond c (owner ∷ holders_end ∷ []) []))

abbrev length_by : Bool → Bool → Bool → ℕ
length_by a b c = total (widths (common ++ more_by a b c))

-- a frame that is no longer than its head has no more fields
pub no_more : (k : ℕ) → kind_length k ≡ head_length → more_of k ≡ []
unfolding kind_length more_of total
no_more k = go (eqb k prepare_response_lease) (eqb k propose_request) (eqb k learn)
  where
    go : (a b c : Bool) → length_by a b c ≡ head_length → more_by a b c ≡ []
    go true b c e = absurd (omega arith)
    go false true c e = absurd (omega arith)
    go false false true e = absurd (omega arith)
    go false false false e = refl

-- the longest frames are those of a response with a lease
pub lease_more : (k : ℕ) → kind_length k ≡ most_length → more_of k ≡ more_of prepare_response_lease
unfolding kind_length more_of total
lease_more k = go (eqb k prepare_response_lease) (eqb k propose_request) (eqb k learn)
  where
    go : (a b c : Bool) → length_by a b c ≡ most_length → more_by a b c ≡ more_by true false false
    go true b c e = refl
    go false true c e = absurd (omega arith)
    go false false true e = absurd (omega arith)
    go false false false e = absurd (omega arith)

-- a frame that is longer than its head has room for an owner and an end behind it
pub longer : (k : ℕ) → (kind_length k ≡ head_length → ⊥) → head_length + 9 ≤ kind_length k
unfolding kind_length more_of total
longer k = go (eqb k prepare_response_lease) (eqb k propose_request) (eqb k learn)
  where
    go : (a b c : Bool) → (length_by a b c ≡ head_length → ⊥) → head_length + 9 ≤ length_by a b c
    go true b c h = omega arith
    go false true c h = omega arith
    go false false true h = omega arith
    go false false false h = absurd (h refl)

-- any other frame has an owner and an end
pub value_more : (f : Numbers) → (kind_length f.kind ≡ head_length → ⊥)
    → (kind_length f.kind ≡ most_length → ⊥)
    → bytes_in f (more_of f.kind) ≡ packed (1 ∷ 8 ∷ []) (f.owner ∷ value_end f ∷ [])
unfolding kind_length more_of total value_end
value_more f =
    go (eqb f.kind prepare_response_lease) (eqb f.kind propose_request) (eqb f.kind learn)
  where
    go : (a b c : Bool) → (length_by a b c ≡ head_length → ⊥) → (length_by a b c ≡ most_length → ⊥)
        → bytes_in f (more_by a b c)
        ≡ packed (1 ∷ 8 ∷ []) (f.owner ∷ cond b f.keepers.0 f.holders.0 ∷ [])
    go true b c h m = absurd (m refl)
    go false true c h m = refl
    go false false true h m = refl
    go false false false h m = absurd (h refl)

-- ---- where fields stand

-- a field that a kind lacks counts as past its end

pub no_accepted : (k : ℕ) → eqb k prepare_response_lease ≡ false
    → (kind_length k ≡ offset_of k accepted_tick) × (kind_length k ≡ offset_of k accepted_host)
unfolding kind_length more_of total offset_in
no_accepted k e = rw e (go (eqb k propose_request) (eqb k learn))
  where
    go : (b c : Bool) → let more = more_by false b c in
        (length_by false b c ≡ offset_in (common ++ more) accepted_tick)
        × (length_by false b c ≡ offset_in (common ++ more) accepted_host)
    go true c = (refl, refl)
    go false true = (refl, refl)
    go false false = (refl, refl)

pub no_keepers_lem : (k : ℕ) → eqb k prepare_response_lease ≡ false → eqb k propose_request ≡ false
    → kind_length k ≡ offset_of k keepers_end
unfolding kind_length more_of total offset_in
no_keepers_lem k e d = rw (e, d) (go (eqb k learn))
  where
    go : (c : Bool)
        → length_by false false c ≡ offset_in (common ++ more_by false false c) keepers_end
    go true = refl
    go false = refl

pub no_holders_lem : (k : ℕ) → eqb k learn ≡ false → kind_length k ≡ offset_of k holders_end
unfolding kind_length more_of total offset_in
no_holders_lem k e = rw e (go (eqb k prepare_response_lease) (eqb k propose_request))
  where
    go : (a b : Bool) → length_by a b false ≡ offset_in (common ++ more_by a b false) holders_end
    go true b = refl
    go false true = refl
    go false false = refl

-- an owner that follows no accepted ballot stands behind the head
pub owner_first : (k : ℕ) → eqb k prepare_response_lease ≡ false → head_length ≡ offset_of k owner
unfolding more_of offset_in
owner_first k e = rw e (go (eqb k propose_request) (eqb k learn))
  where
    go : (b c : Bool) → head_length ≡ offset_in (common ++ more_by false b c) owner
    go true c = refl
    go false true = refl
    go false false = refl

pub no_owner_lem : (k : ℕ) → eqb k prepare_response_lease ≡ false → eqb k propose_request ≡ false
    → eqb k learn ≡ false → kind_length k ≡ offset_of k owner
unfolding kind_length more_of total offset_in
no_owner_lem k d e f = rw (d, e, f)

-- ---- where a message's refusal is found

pub fault_place : (place : Field → ℕ) (z : Sizes) (f : Numbers) →
    let hosts = host_tests z f (ltb f.target z.n) in
    let ticks = tick_tests f in
    place_by place (refusals_of z f)
    ≡ cond (all_hold hosts)
    (cond (all_hold ticks) (cond (party_fits f) 0 (place (party_field f))) (fails_at place ticks))
    (fails_at place hosts)
unfolding tests_in fails_at
fault_place place z f =
    let hosts = host_tests z f (ltb f.target z.n) in
    let ticks = tick_tests f in
    let party = test (party_field f) (party_fits f) ∷ [] in
    fails_append place hosts (ticks ++ party)
    ∙ ap (λ (x : ℕ). cond (all_hold hosts) x (fails_at place hosts))
    (fails_append place ticks party)

-- the places of a message's fields are the table's offsets, however many bytes are lent

-- a field of a frame: not the lent bytes, and not the settings
place_field : (lent k : ℕ) (x : Field) → eqb (field_number x) (field_number lent_bytes) ≡ false
    → eqb (field_number settings) (field_number x) ≡ false → place_in lent k x ≡ offset_of k x
unfolding offset_in
place_field lent k x p q = rw (p, q, zero-add)

place_party : (lent k : ℕ) (f : Numbers)
    → place_in lent k (party_field f) ≡ offset_of k (party_field f)
place_party lent k f = go (is_response f.kind)
  where
    go : (b : Bool) → let x = cond b target sender in place_in lent k x ≡ offset_of k x
    go true = place_field lent k target refl refl
    go false = place_field lent k sender refl refl

pub message_place : (lent k : ℕ) (z : Sizes) (f : Numbers)
    → place_by (place_in lent k) (refusals_of z f) ≡ place_by (offset_of k) (refusals_of z f)
unfolding tests_in All
message_place lent k z f =
    let e : (x : Field) → eqb (field_number x) (field_number lent_bytes) ≡ false
    → eqb (field_number settings) (field_number x) ≡ false → place_in lent k x ≡ offset_of k x =
    place_field lent k in
    fails_same (place_in lent k) (offset_of k) (tests_in (refusals_of z f)) (
      e sender refl refl,
      (
        e target refl refl,
        (
          e ballot_host refl refl,
          (
            e accepted_host refl refl,
            (
              e owner refl refl,
              (
                e ballot_tick refl refl,
                (
                  e accepted_tick refl refl,
                  (e keepers_end refl refl, (e holders_end refl refl, (place_party lent k f, tt))),
                ),
              ),
            ),
          ),
        ),
      ),
    )

-- ---- a length field that is too short or too long, whatever else is refused after it

pub short_refused : (told right : ℕ) (rs : List (Refusal Field)) → told < right
    → answer_by (length_refusals told right ++ rs) ≡ refused_short
unfolding first_of all_of
short_refused told right rs t = rw (lt-leb right told t)

pub long_refused : (told right : ℕ) (rs : List (Refusal Field)) → right < told
    → answer_by (length_refusals told right ++ rs) ≡ refused_length
unfolding first_of all_of
long_refused told right rs t =
    rw (le-leb right told (omega (arith, t)), lt-leb told right t)

-- ---- numbers as bytes

-- a frame is as long as its kind's are
pub bytes_length : (f : Numbers) → length (bytes_of f) ≡ kind_length f.kind
unfolding bytes_of kind_length
bytes_length f =
    let fs = fields_of f.kind in
    packed_length (widths fs) (map (value_of f) fs)
    (length-map fs width_of ∙ sym (length-map fs (value_of f)))

-- ---- there and back

common_fits : (f : Numbers) (more : List Field) → kind_length f.kind < 65536 → f.kind < 65536
    → Fit f → Fits (widths more) (map (value_of f) more)
    → Fits (widths (common ++ more)) (map (value_of f) (common ++ more))
common_fits f more z k h m = (z, (k, (h.sender, (h.target, (h.ballot_tick, (h.ballot_host, m))))))

fits : (m : Message) → Fit (numbers_of m)
    → Fits (widths (fields_of (numbers_of m).kind))
    (map (value_of (numbers_of m)) (fields_of (numbers_of m).kind))
unfolding numbers_of kind_length more_of total
fits (PrepareRequest m) h = common_fits _ [] (lit< tt) (lit< tt) h tt
fits (PrepareResponseEmpty m) h = common_fits _ [] (lit< tt) (lit< tt) h tt
fits (PrepareResponseLease m) h =
    common_fits _ (more_of prepare_response_lease) (lit< tt) (lit< tt) h
    (h.accepted_tick, (h.accepted_host, (h.owner, (h.keepers_end, tt))))
fits (ProposeRequest m) h =
    common_fits _ (more_of propose_request) (lit< tt) (lit< tt) h (h.owner, (h.keepers_end, tt))
fits (ProposeResponse m) h = common_fits _ [] (lit< tt) (lit< tt) h tt
fits (Learn m) h =
    common_fits _ (more_of learn) (lit< tt) (lit< tt) h (h.owner, (h.holders_end, tt))
fits (ReleaseRequest m) h = common_fits _ [] (lit< tt) (lit< tt) h tt

from_values : (m : Message) →
    let f = numbers_of m in
    numbers_from f.kind (fields_of f.kind) (map (value_of f) (fields_of f.kind)) ≡ f
unfolding numbers_of more_of value_in
from_values (PrepareRequest m) = refl
from_values (PrepareResponseEmpty m) = refl
from_values (PrepareResponseLease m) = refl
from_values (ProposeRequest m) = refl
from_values (ProposeResponse m) = refl
from_values (Learn m) = refl
from_values (ReleaseRequest m) = refl

-- what was written is read, whatever follows
pub numbers_back : (m : Message) (t : List ℕ) → Fit (numbers_of m)
    → numbers_in (bytes_of (numbers_of m) ++ t) (numbers_of m).kind ≡ numbers_of m
unfolding numbers_in bytes_of
numbers_back m t h =
    let f = numbers_of m in
    let fs = fields_of f.kind in
    rw (numbers_packed (widths fs) (map (value_of f) fs) t (fits m h)) (from_values m)

-- numbers that were read are those of a message
pub message_back : (s : List ℕ) (k : ℕ) → known_kind k ≡ true
    → numbers_of (message_of (numbers_in s k)) ≡ numbers_in s k
unfolding numbers_in more_of value_in numbers_at numbers_of message_of
message_back s =
    by_kind (λ (k : ℕ). numbers_of (message_of (numbers_in s k)) ≡ numbers_in s k) refl refl refl
    refl
    refl refl refl

module _ (s : List ℕ) where
  values_in : (k : ℕ) → known_kind k ≡ true → number_at s 2 2 ≡ k → number_at s 0 2 ≡ kind_length k
      → map (value_of (numbers_in s k)) (fields_of k) ≡ numbers_at s 0 (widths (fields_of k))
  unfolding kind_length numbers_in more_of value_in numbers_at total
  values_in =
      by_kind
      (λ (k : ℕ).
      number_at s 2 2 ≡ k → number_at s 0 2 ≡ kind_length k
      → map (value_of (numbers_in s k)) (fields_of k) ≡ numbers_at s 0 (widths (fields_of k)))
      (λ a l. rw (a, l))
      (λ a l. rw (a, l))
      (λ a l. rw (a, l))
      (λ a l. rw (a, l))
      (λ a l. rw (a, l))
      (λ a l. rw (a, l))
      (λ a l. rw (a, l))

  -- what was read is written: the bytes that were there
  pub bytes_back : (k : ℕ) → ((i : ℕ) → get_or s i 0 < 256) → known_kind k ≡ true
      → kind_length k ≤ length s → number_at s 2 2 ≡ k → number_at s 0 2 ≡ kind_length k
      → bytes_of (numbers_in s k) ≡ take (kind_length k) s
  unfolding bytes_of numbers_in kind_length
  bytes_back k b h l a e = ap (packed (widths (fields_of k))) (values_in k h a e)
      ∙ packed_numbers s 0 (widths (fields_of k)) b (omega (arith, l))

  -- bytes after a whole frame are not looked at
  pub numbers_whole : (t : List ℕ) (k : ℕ) → kind_length k ≤ length s
      → numbers_in (s ++ t) k ≡ numbers_in s k
  unfolding numbers_in kind_length
  numbers_whole t k l = rw (numbers_within s t 0 (widths (fields_of k)) (omega (arith, l)))

-- ---- the constants are those of the table

pub record Constants : Type 0 where
  pub length_stands : offset_in common frame_length ≡ length_offset
  pub kind_stands : offset_in common kind_number ≡ kind_offset
  pub fore : offset_in common sender ≡ fore_length
  pub ballot_stands : offset_in common ballot_tick ≡ ballot_offset
  pub head : total (widths common) ≡ head_length
  pub most : kind_length prepare_response_lease ≡ most_length

pub constants : Constants
unfolding offset_in total kind_length more_of
constants =
    record {
      length_stands = refl;
      kind_stands = refl;
      fore = refl;
      ballot_stands = refl;
      head = refl;
      most = refl;
    }
