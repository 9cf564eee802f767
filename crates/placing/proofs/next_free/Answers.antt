-- `next_free`: past the slots that are taken by eights, what the search over the others finds.
use Rattle.std.proofs.Common.{◌≡◌, ℕ, ◌≤◌, ◌<◌, true, false, arith, rules, tests}
use Rattle.std.specs.Prelude.{Option, Some, None, MatchOption, List, Bool}
use Rattle.std.proofs.lemmas.Iterator.{first_from_Range}
use native.Mathlib.Decide.{dec_lt}
use lib.ListN.{get_or}
use Rattle.slots.specs.Slots.{slot_count}
use Rattle.placing.specs.Parts.{Passed, NextFree}
use Rattle.placing.proofs.next_free.Goals as goal

past : (free : List Bool) (from p i : ℕ) → Passed free from p
    → ((k : ℕ) → p ≤ k → k < i → get_or free k false ≡ false)
    → (x : ℕ) → from ≤ x → x < i → get_or free x false ≡ false
past free from p i q none x a b = go (dec_lt x p)
  where
    go : Dec (x < p) → get_or free x false ≡ false
    go (yes l) = q.taken x a l
    go (no l) = none x (omega (arith, l)) b

found : (free : List Bool) (from p : ℕ) (r : Option ℕ) → Passed free from p
    → MatchOption r ((k : ℕ) → p ≤ k → k < 96 → get_or free k false ≡ false)
    (λ i. (p ≤ i) × (i < 96) × (get_or free i false ≡ true)
    × ((k : ℕ) → p ≤ k → k < i → get_or free k false ≡ false))
    → NextFree free from r
unfolding NextFree
found free from p None q m =
    record {
      least = omega (arith, q.least, q.most);
      most = omega arith;
      taken = past free from p slot_count q m;
    }
found free from p (Some i) q m =
    record {
      passed = record {
        least = omega (arith, q.least, m.0);
        most = omega (arith, m.1);
        taken = past free from p i q m.3;
      };
      within = m.1;
      here = m.2;
    }

pub returns : goal.returns
returns c =
    found _ _ _ c.find.result c.past_eights.ensures
    (first_from_Range _ _ _ _ (λ h. get_or c.args.free.now h false ≡ true)
    (λ h. get_or c.args.free.now h false ≡ false)
    c.find.ensures.ran (λ x q k. search (rules, tests)) (λ x q k. search (rules, tests)))
