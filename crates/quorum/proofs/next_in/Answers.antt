-- `next_in`: what the search over the range finds is the next one, and where it finds none, n is.
use Rattle.std.proofs.Common.{◌≡◌, ◌-◌, ℕ, ◌≤◌, ◌<◌, true, false, sym, ◌∙◌, arith, rules, tests}
use Rattle.std.specs.Prelude.{Option, Some, None, unwrap_or, MatchOption}
use Rattle.std.proofs.lemmas.Iterator.{first_from_Range}
use Rattle.quorum.specs.Sets.{is_in}
use Rattle.quorum.specs.Parts.{next_in}
use Rattle.quorum.proofs.Next.{next_first}
use Rattle.quorum.proofs.next_in.Goals as goal

found : (set from n : ℕ) (r : Option ℕ) → from ≤ n
    → MatchOption r ((k : ℕ) → from ≤ k → k < n → is_in set k ≡ false)
    (λ i. (from ≤ i) × (i < n) × (is_in set i ≡ true)
    × ((k : ℕ) → from ≤ k → k < i → is_in set k ≡ false))
    → unwrap_or r n ≡ next_in set from n
found set from n None b m =
    sym (next_first set from (n - from) n b (omega arith) (λ p. absurd (omega arith)) m)
found set from n (Some i) b m =
    sym (next_first set from (n - from) i m.0 (omega arith) (λ p. m.2) m.3)

pub returns : goal.returns
returns c =
    c.unwrap_or.ensures ∙
    (found c.args.set c.args.from c.args.n c.find.result c.requires.0
    (first_from_Range _ _ _ _ (λ h. is_in c.args.set h ≡ true) (λ h. is_in c.args.set h ≡ false)
    c.find.ensures.ran (λ x q k. search (rules, tests)) (λ x q k. search (rules, tests))))
