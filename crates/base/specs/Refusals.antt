-- The refusals of documents 01 and 02 by number, and how an ordered list of them gives an answer,
-- and the place of the field that it is found at. Assumes nothing.
use Rattle.std.specs.Prelude.{ℕ, Bool, cond, List, [], ◌∷◌, ◌++◌, map, eqb}
use Rattle.base.specs.Lists.{all_of}

abbrev pub done : ℕ
done = 0

abbrev pub refused_cell : ℕ
refused_cell = 1

abbrev pub refused_cut : ℕ
refused_cut = 2

abbrev pub refused_kind : ℕ
refused_kind = 3

-- a length field that is too long; one that is too short is 17
abbrev pub refused_length : ℕ
refused_length = 4

abbrev pub refused_host : ℕ
refused_host = 5

abbrev pub refused_tick : ℕ
refused_tick = 6

abbrev pub refused_party : ℕ
refused_party = 7

abbrev pub refused_room : ℕ
refused_room = 8

abbrev pub refused_waiting : ℕ
refused_waiting = 9

abbrev pub refused_same_tick : ℕ
refused_same_tick = 10

abbrev pub refused_duration : ℕ
refused_duration = 11

abbrev pub refused_slot : ℕ
refused_slot = 12

abbrev pub refused_full : ℕ
refused_full = 13

abbrev pub refused_spread : ℕ
refused_spread = 14

abbrev pub refused_clock : ℕ
refused_clock = 15

abbrev pub refused_long : ℕ
refused_long = 16

abbrev pub refused_short : ℕ
refused_short = 17

abbrev pub refused_not_holder : ℕ
refused_not_holder = 18

-- ---- answers

-- 0 where a test holds, else the refusal's number
abbrev pub unless : Bool → ℕ → ℕ
unless b k = cond b done k

-- the first number that is not 0, or 0
unfoldable pub first_of : List ℕ → ℕ
first_of [] = done
first_of (k ∷ ks) = cond (eqb k done) (first_of ks) k

-- ---- refusals that name their fields

-- what has to hold of a field
pub record Test (Field : Type 0) : Type 0 where
  pub field : Field
  pub holds : Bool

abbrev pub test : {Field : Type 0} → Field → Bool → Test Field
test f b = record { field = f; holds = b }

-- a refusal: its number, and the tests one of which must fail for it
pub record Refusal (Field : Type 0) : Type 0 where
  pub number : ℕ
  pub tests : List (Test Field)

abbrev pub refusal : {Field : Type 0} → ℕ → List (Test Field) → Refusal Field
refusal k ts = record { number = k; tests = ts }

abbrev pub all_hold : {Field : Type 0} → List (Test Field) → Bool
all_hold ts = all_of (map (λ t. t.holds) ts)

-- the number of the first refusal that applies, or 0 (done)
abbrev pub answer_by : {Field : Type 0} → List (Refusal Field) → ℕ
answer_by rs = first_of (map (λ r. unless (all_hold r.tests) r.number) rs)

-- ---- where a refusal is found

-- all the tests of a list of refusals, in its order
unfoldable pub tests_in : {Field : Type 0} → List (Refusal Field) → List (Test Field)
tests_in [] = []
tests_in (r ∷ rs) = r.tests ++ tests_in rs

-- the place of the first of these tests that fails, or 0
unfoldable pub fails_at : {Field : Type 0} → (Field → ℕ) → List (Test Field) → ℕ
fails_at place [] = 0
fails_at place (t ∷ ts) = cond t.holds (fails_at place ts) (place t.field)

-- the place of the field at which the first refusal that applies is found, or 0
abbrev pub place_by : {Field : Type 0} → (Field → ℕ) → List (Refusal Field) → ℕ
place_by place rs = fails_at place (tests_in rs)
