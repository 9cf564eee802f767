-- The walk over clocks, one step at a time: the span of the first of them, and what it tells of the
-- clocks of all hosts. Assumes nothing.
use mathlib.Core.Path.{◌≡◌, refl, sym, ◌∙◌}
use mathlib.Core.Bool.{Bool, true, false}
use mathlib.Core.List.{List}
use Prim.Native.Nat.{ℕ, ◌+◌, ◌-◌, ◌≤◌, ◌<◌, max, min}
use native.Mathlib.Omega.{arith}
use native.Mathlib.Decide.{dec_lt}
use lib.Dec.{leb}
use lib.ListN.{length}
use borrow.Author.Tests.{leb-true, le-leb}
use Rattle.state.specs.declared.Settings.{Settings}
use Rattle.host.specs.declared.Host.{Host}
use Rattle.places.specs.Places.{clocks_ok}
use Rattle.places.proofs.PlaceLimits.{clock_at, clocks_in, out_clocks}

-- the clocks of the first i hosts are from low to high, low is the greatest and high the least such
-- number; before the first, low is top
pub record Span (top : ℕ) (clock : ℕ → ℕ) (i low high : ℕ) : Type 0 where
  pub from : (k : ℕ) → k < i → low ≤ clock k
  pub to : (k : ℕ) → k < i → clock k ≤ high
  pub least : (b : ℕ) → (i ≡ 0 → b ≤ top) → ((k : ℕ) → k < i → b ≤ clock k) → b ≤ low
  pub most : (b : ℕ) → ((k : ℕ) → k < i → clock k ≤ b) → high ≤ b

pub span_none : (top : ℕ) (clock : ℕ → ℕ) → Span top clock 0 top 0
span_none top clock =
    record {
      from = λ k b. absurd (omega (arith, b));
      to = λ k b. absurd (omega (arith, b));
      least = λ b t _. t refl;
      most = λ b _. omega arith;
    }

pub span_first : (top : ℕ) (clock : ℕ → ℕ) → Span top clock 1 (clock 0) (clock 0)
span_first top clock =
    record {
      from = λ k b. let e : k ≡ 0 = omega arith in rw e (omega arith);
      to = λ k b. let e : k ≡ 0 = omega arith in rw e (omega arith);
      least = λ b _ f. f 0 (omega arith);
      most = λ b f. f 0 (omega arith);
    }

pub span_next : (top : ℕ) (clock : ℕ → ℕ) (i low high : ℕ) → (i ≡ 0 → clock i ≤ top)
    → Span top clock i low high
    → Span top clock (i + 1) (min low (clock i)) (max high (clock i))
span_next top clock i low high t p =
    record {
      from = λ k b. above k b (dec_lt k i);
      to = λ k b. below k b (dec_lt k i);
      least = λ b _ f.
          let here = f i (omega arith) in
          let rest =
          p.least b (λ e. omega (arith, here, t e)) (λ k q. f k (omega (arith, q))) in
          omega (arith, here, rest);
      most = λ b f.
          let here = f i (omega arith) in
          let rest = p.most b (λ k q. f k (omega (arith, q))) in
          omega (arith, here, rest);
    }
  where
    above : (k : ℕ) → k < i + 1 → Dec (k < i) → min low (clock i) ≤ clock k
    above k q (yes r) = omega (arith, p.from k r)
    above k q (no r) = let e : k ≡ i = omega arith in rw e (omega arith)

    below : (k : ℕ) → k < i + 1 → Dec (k < i) → clock k ≤ max high (clock i)
    below k q (yes r) = omega (arith, p.to k r)
    below k q (no r) = let e : k ≡ i = omega arith in rw e (omega arith)

-- the clocks of another walk, equal one by one
pub span_same : (top : ℕ) (clock other : ℕ → ℕ) (i low high : ℕ)
    → ((k : ℕ) → k < i → clock k ≡ other k) → Span top clock i low high
    → Span top other i low high
span_same top clock other i low high e p =
    record {
      from = λ k b. omega (arith, p.from k b, e k b);
      to = λ k b. omega (arith, p.to k b, e k b);
      least = λ b t f. p.least b t (λ k q. omega (arith, f k q, e k q));
      most = λ b f. p.most b (λ k q. omega (arith, f k q, e k q));
    }

pub span_clocks : (s : Settings) (hs : List Host) (top low high : ℕ) → 1 ≤ s.n
    → s.n ≤ length hs → Span top (clock_at hs) s.n low high
    → leb (high - low) s.spread ≡ clocks_ok s hs
span_clocks s hs top low high some few p =
    go (leb (high - low) s.spread) refl (clocks_ok s hs) refl
  where
    near : high - low ≤ s.spread → clocks_ok s hs ≡ true
    near q =
        out_clocks s hs few (λ h k a b. omega (arith, q, p.to h a, p.from k b, p.to k b))

    -- each clock is at most S above each other, so the latest is at most S above the earliest
    apart : clocks_ok s hs ≡ true → high - low ≤ s.spread
    apart e =
        let late =
        p.most (low + s.spread)
        (λ h a.
        let early =
        p.least (clock_at hs h - s.spread) (λ z. absurd (omega (arith, z, some)))
        (λ k b. omega (arith, clocks_in s hs few e h k a b)) in
        omega (arith, early)) in
        omega (arith, late)

    go : (x : Bool) → leb (high - low) s.spread ≡ x → (y : Bool) → clocks_ok s hs ≡ y → x ≡ y
    go true e true f = refl
    go true e false f = sym (near (leb-true (high - low) s.spread e)) ∙ f
    go false e true f = sym e ∙ le-leb (high - low) s.spread (apart f)
    go false e false f = refl
