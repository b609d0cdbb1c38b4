-- What `all` over the numbers below a bound tells, by what its closure tells of each.
-- Assumes nothing.
use Rattle.std.proofs.Common.{◌≡◌, ℕ, ◌<◌, Bool, true, false, ◌↔◌, IsTrue, List, length, get_or, Option, MatchBool, refl, ◌∙◌, subst, arith}
use Rattle.std.specs.Fn.{Mut, Called}
use Rattle.std.specs.Iterator.{YieldsThen}
use Rattle.std.specs.List.{FoldsTo, AllWithin, HoldsAt, range_with_len}
use Rattle.std.specs.Option.{MatchOption}
use Rattle.std.specs.declared.ops.Range.{Range}
use Rattle.std.proofs.iter.Yields.{nat_range_steps}
use Rattle.std.proofs.lemmas.Bool.{false≢true}
use Rattle.std.proofs.lemmas.Iterator.{YieldsList-from_range, cases_from_all}
use Rattle.std.proofs.lemmas.List.FromFn.{length-range_with_len, get_or-range_with_len}

-- every number below n has P exactly where r is true
pub all_below : {F : Type 0} {g : Mut F (ℕ × Unit {0}) Bool} {s : Range ℕ} (P : ℕ → Type 0) (n : ℕ) (u : Range ℕ) (f : F) (r : Bool)
    → (xs : List ℕ) × (o : Option ℕ) × (j : F) × YieldsThen nat_range_steps s xs o u × FoldsTo (λ p x q. Called g p (x, tt) true q) f xs j
    × MatchOption o (r ≡ true) (λ x. (r ≡ false) × ((h : F) × Called g j (x, tt) false h))
    → s ≡ record { start = 0; end = n } → ((x : ℕ) (q : F) → Called g f (x, tt) true q → (q ≡ f) × P x)
    → ((x : ℕ) (q : F) → Called g f (x, tt) false q → P x → ⊥) → IsTrue r ↔ ((k : ℕ) → k < n → P k)
all_below P n u f r ran is pass fail = from r (cases_from_all u f r P (λ k. P k → ⊥) ran (YieldsList-from_range 0 n n is (omega arith)) pass fail)
  where
    numbers : List ℕ
    numbers = range_with_len 0 n

    at : (k : ℕ) → k < n → get_or numbers k 0 ≡ k
    at k l = get_or-range_with_len 0 n k 0 l ∙ omega arith

    from : (b : Bool) → MatchBool b (AllWithin P numbers 0 (length numbers)) ((k : ℕ) × (k < length numbers) × HoldsAt (λ k. P k → ⊥) numbers k)
        → IsTrue b ↔ ((k : ℕ) → k < n → P k)
    from true h = (λ _ k l. subst P (at k l) (h k 0 (omega arith) (omega (arith, length-range_with_len 0 n))), λ _. refl)
    from false (k, l, out) =
        let low : k < n = omega (arith, length-range_with_len 0 n) in
        (λ e. absurd (false≢true e), λ each. absurd (subst (λ j. P j → ⊥) (at k low) (out 0) (each k low)))
