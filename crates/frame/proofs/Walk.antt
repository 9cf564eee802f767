-- The next host of a walk that shifts a set down to it: as many places on as the set has zeros at
-- its low end. Assumes nothing.
use mathlib.Core.Path.{◌≡◌, refl, sym, ap, ◌∙◌}
use mathlib.Core.List.{List, ◌++◌}
use Prim.Native.Nat.{ℕ, zero, suc, ◌+◌, ◌-◌, ◌/◌, ◌%◌, ◌^◌, ◌<◌}
use native.Mathlib.Nat.{mod-lt, div-le_self}
use native.Mathlib.Omega.{arith}
use lib.Count.{count_trailing_zeros, under}
use lib.Dec.{lit<}
use lib.ListN.{length, length-append}
use lib.Pow.{shr-shr}
use Rattle.quorum.specs.Sets.{members_from}
use Rattle.quorum.proofs.Laws.{members_step, walk_below}
use Rattle.message.specs.declared.Numbers.{Numbers}
use Rattle.message.specs.Message.{with_target}
use Rattle.layout.specs.Layout.{kind_length, bytes_of}
use Rattle.layout.proofs.Laws.{bytes_length}
use Rattle.frame.specs.Writing.{frames_in}

-- t places on from h: that host is in the set, and none of those before it is
record Next (set h t : ℕ) : Type 0 where
  within : set / 2 ^ (h + t) % 2 ≡ 1
  same : (k : ℕ) → members_from set h (t + k) ≡ members_from set (h + t) k

next_host : (w set h : ℕ) → set / 2 ^ h < 2 ^ w → (set / 2 ^ h ≡ 0 → ⊥)
    → Next set h (count_trailing_zeros w (set / 2 ^ h))
unfolding count_trailing_zeros members_from
next_host zero set h b n = absurd (n (omega arith))
next_host (suc w) set h b n =
    go (set / 2 ^ h % 2) refl (mod-lt (set / 2 ^ h) (lit< tt))
    (λ some. next_host w set (suc h) (rw (← half) (omega arith)) some)
  where
    half : set / 2 ^ h / 2 ≡ set / 2 ^ suc h
    half = shr-shr set h 1 ∙ ap (λ (j : ℕ). set / 2 ^ j) (omega arith)

    go : (d : ℕ) → set / 2 ^ h % 2 ≡ d → d < 2
        → ((set / 2 ^ suc h ≡ 0 → ⊥) → Next set (suc h) (count_trailing_zeros w (set / 2 ^ suc h)))
        → Next set h (under d (count_trailing_zeros w (set / 2 ^ h / 2)))
    go zero p l rest =
        let t = count_trailing_zeros w (set / 2 ^ suc h) in
        let r : Next set (suc h) t = rest (λ e. n (omega (arith, half, p, e))) in
        let i : h + suc t ≡ suc h + t = omega arith in
        rw half
        record {
          within = rw i r.within;
          same = λ k.
              let j : suc t + k ≡ suc (t + k) = omega arith in
              rw (j, p, i) (r.same k);
        }
    go (suc zero) p l rest =
        let i : h + 0 ≡ h = omega arith in
        record { within = rw i p; same = λ k. let j : 0 + k ≡ k = omega arith in rw (i, j) }
    go (suc (suc j)) p l rest = absurd (omega arith)

-- the frames from h on are the one to the next host, and those from behind it on
pub record Due (f : Numbers) (set h g : ℕ) : Type 0 where
  pub below : g < 16
  pub frames : frames_in f (members_from set h (16 - h))
      ≡ bytes_of (with_target f g) ++ frames_in f (members_from set (g + 1) (16 - (g + 1)))

pub frames_due : (f : Numbers) (set h : ℕ) → set < 2 ^ 16 → (set / 2 ^ h ≡ 0 → ⊥)
    → Due f set h (h + count_trailing_zeros 16 (set / 2 ^ h))
unfolding frames_in
frames_due f set h b n =
    let t = count_trailing_zeros 16 (set / 2 ^ h) in
    let r = next_host 16 set h (omega (arith, div-le_self set (2 ^ h))) n in
    let low : h + t < 16 = walk_below set (h + t) 16 b (λ z. omega (arith, r.within, z)) in
    let e : 16 - h ≡ t + (16 - (h + t)) = omega arith in
    record {
      below = low;
      frames = rw (e, r.same (16 - (h + t)), members_step set (h + t) 16 low, r.within);
    }

-- the frames to the set's hosts from h on
abbrev pub due : Numbers → ℕ → ℕ → List ℕ
due f set h = frames_in f (members_from set h (16 - h))

-- the walk's turn: what is left of the set tells the next host
pub next_due : (f : Numbers) (set h rest : ℕ) → rest ≡ set / 2 ^ h → set < 2 ^ 16
    → (rest ≡ 0 → ⊥) → Due f set h (h + count_trailing_zeros 16 rest)
next_due f set h rest e b n = rw e (frames_due f set h b (λ z. n (e ∙ z)))

pub due_length : (f : Numbers) (set h g len : ℕ) → Due f set h g → len ≡ kind_length f.kind
    → length (due f set h) ≡ len + length (due f set (g + 1))
due_length f set h g len d k =
    ap length d.frames
    ∙ length-append (bytes_of (with_target f g)) (due f set (g + 1))
    ∙ ap (λ (n : ℕ). n + length (due f set (g + 1))) (bytes_length (with_target f g) ∙ sym k)
