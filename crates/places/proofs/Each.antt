-- Laws of the first n hosts, each changed, and of the first number that one of them is refused by.
-- Assumes nothing.
use mathlib.Core.Path.{◌≡◌, refl, ap, ◌∙◌}
use mathlib.Core.List.{List, [], ◌∷◌, map}
use Prim.Native.Nat.{ℕ, zero, suc, ◌+◌, ◌≤◌, ◌<◌}
use native.Mathlib.Nat.{not-suc-le-zero, le_of_suc-le-suc}
use native.Mathlib.Numerals.{add-one}
use native.Mathlib.Omega.{arith}
use lib.ListN.{length, get_or, set, take}
use Rattle.base.specs.Refusals.{done, first_of}
use Rattle.base.proofs.Tests.{first_passed, first_of_lem}
use Rattle.host.specs.declared.Host.{Host}
use Rattle.places.specs.Places.{blank_host, each_host}

pub length_each : (n : ℕ) (f : Host → Host) (hs : List Host) → length (each_host n f hs) ≡ length hs
unfolding each_host
length_each zero f hs = refl
length_each (suc n) f [] = refl
length_each (suc n) f (h ∷ hs) = ap suc (length_each n f hs)

pub each_below : (n : ℕ) (f : Host → Host) (hs : List Host) (k : ℕ) (d : Host) → k < n
    → k < length hs → get_or (each_host n f hs) k d ≡ f (get_or hs k d)
unfolding each_host
each_below zero f hs k d a b = absurd (not-suc-le-zero a)
each_below (suc n) f [] k d a b = absurd (not-suc-le-zero b)
each_below (suc n) f (h ∷ hs) zero d a b = refl
each_below (suc n) f (h ∷ hs) (suc k) d a b =
    each_below n f hs k d (le_of_suc-le-suc a) (le_of_suc-le-suc b)

pub each_above : (n : ℕ) (f : Host → Host) (hs : List Host) (k : ℕ) (d : Host) → n ≤ k
    → get_or (each_host n f hs) k d ≡ get_or hs k d
unfolding each_host
each_above zero f hs k d a = refl
each_above (suc n) f [] k d a = refl
each_above (suc n) f (h ∷ hs) zero d a = absurd (not-suc-le-zero a)
each_above (suc n) f (h ∷ hs) (suc k) d a = each_above n f hs k d (le_of_suc-le-suc a)

each_suc : (i : ℕ) (f : Host → Host) (hs : List Host) (d : Host) → i < length hs
    → each_host (suc i) f hs ≡ set (each_host i f hs) i (f (get_or hs i d))
unfolding each_host
each_suc i f [] d b = absurd (not-suc-le-zero b)
each_suc zero f (h ∷ hs) d b = refl
each_suc (suc i) f (h ∷ hs) d b =
    ap (λ (ks : List Host). f h ∷ ks) (each_suc i f hs d (le_of_suc-le-suc b))

-- one host more
pub each_next : (i : ℕ) (f : Host → Host) (hs : List Host) (d : Host) → i < length hs
    → each_host (i + 1) f hs ≡ set (each_host i f hs) i (f (get_or hs i d))
each_next i f hs d b = ap (λ (k : ℕ). each_host k f hs) (add-one i) ∙ each_suc i f hs d b

-- ---- the first of the numbers that the first n hosts are refused by

pub first_each : (f : Host → ℕ) (n : ℕ) (hs : List Host) → first_of (map f (take n hs)) ≡ done
    → (k : ℕ) → k < n → k < length hs → f (get_or hs k blank_host) ≡ done
first_each f zero hs e k a b = absurd (not-suc-le-zero a)
first_each f (suc n) [] e k a b = absurd (not-suc-le-zero b)
first_each f (suc n) (h ∷ hs) e zero a b = (first_passed (f h) (map f (take n hs)) e).0
first_each f (suc n) (h ∷ hs) e (suc k) a b =
    first_each f n hs (first_passed (f h) (map f (take n hs)) e).1 k (le_of_suc-le-suc a)
    (le_of_suc-le-suc b)

pub each_of : (P : ℕ → Type 0) (f : Host → ℕ) (n : ℕ) (hs : List Host) → P done
    → ((k : ℕ) → k < n → P (f (get_or hs k blank_host))) → P (first_of (map f (take n hs)))
unfolding first_of
each_of P f zero hs z p = z
each_of P f (suc n) [] z p = z
each_of P f (suc n) (h ∷ hs) z p =
    first_of_lem P (f h) (map f (take n hs)) (p zero (omega arith))
    (λ _. each_of P f n hs z (λ k b. p (suc k) (omega (arith, b))))
