-- How many numbers below a bound pass a test.
-- Assumes nothing.
use Rattle.std.proofs.Common.{◌≡◌, ℕ, zero, suc, ◌+◌, ◌<◌, ◌≤◌, Bool, true, false, cond, refl, inl, inr, not-suc-le-zero, arith}
use Rattle.std.proofs.lemmas.Bool.{false≢true, cases_eq}

unfoldable pub count : ℕ → (ℕ → Bool) → ℕ
count zero f = 0
count (suc i) f = cond (f i) 1 0 + count i f

pub count_le : (i : ℕ) (f : ℕ → Bool) → count i f ≤ i
unfolding count
count_le zero f = omega arith
count_le (suc i) f = go (f i) (count_le i f)
  where
    go : (b : Bool) → count i f ≤ i → cond b 1 0 + count i f ≤ suc i
    go true h = omega arith
    go false h = omega arith

pub count_mono : (i : ℕ) (f f' : ℕ → Bool) → ((p : ℕ) → p < i → f p ≡ true → f' p ≡ true) → count i f ≤ count i f'
unfolding count
count_mono zero f f' h = omega arith
count_mono (suc i) f f' h = go (f i) (f' i) (h i (omega arith)) (count_mono i f f' (λ p lt. h p (omega arith)))
  where
    go : (b c : Bool) → (b ≡ true → c ≡ true) → count i f ≤ count i f' → cond b 1 0 + count i f ≤ cond c 1 0 + count i f'
    go false c k h = omega arith
    go true true k h = omega arith
    go true false k h = absurd (false≢true (k refl))

-- f' passes wherever f does, and once more
pub count_less : (i : ℕ) (f f' : ℕ → Bool) → ((p : ℕ) → p < i → f p ≡ true → f' p ≡ true)
    → (q : ℕ) → q < i → f q ≡ false → f' q ≡ true → count i f < count i f'
unfolding count
count_less zero f f' h q lt e e' = absurd (not-suc-le-zero lt)
count_less (suc i) f f' h q lt e e' =
    elim (cases_eq q i) [
      | inl s ↦
          let a : f i ≡ false = rw s at e in
          let b : f' i ≡ true = rw s at e' in
          let m : count i f ≤ count i f' = count_mono i f f' (λ p l. h p (omega arith)) in
          rw (a, b) (omega arith)
      | inr s ↦ go (f i) (f' i) (h i (omega arith)) (count_less i f f' (λ p l. h p (omega arith)) q (omega arith) e e')
    ]
  where
    go : (b c : Bool) → (b ≡ true → c ≡ true) → count i f < count i f' → cond b 1 0 + count i f < cond c 1 0 + count i f'
    go false c k h = omega arith
    go true true k h = omega arith
    go true false k h = absurd (false≢true (k refl))
