-- Steps placed one after the other, and where a step stands in such a list.
use Rattle.std.specs.Prelude.{ℕ, zero, suc, ◌+◌, Bool, false, if◌then◌else◌, not, ◌&&◌, ◌||◌, List, [], ◌∷◌, Some, None, Option, ◌==◌}
use Rattle.bits.specs.Sets.{has, mask_of, any, first}

-- a candidate for the next place, where U holds the steps not yet placed and R q p says that q leads to p: p is not yet placed, and
-- no step that is not yet placed leads to it
unfoldable pub candidate : (ℕ → ℕ → Bool) → ℕ → ℕ → ℕ → Bool
candidate R i U p = has U p && not (any i (λ q. has U q && R q p))

-- the one that is taken: the lowest
abbrev pub lowest_candidate_of : (ℕ → ℕ → Bool) → ℕ → ℕ → Option ℕ
lowest_candidate_of R i U = first i (candidate R i U)

-- the steps of U below i, placed one after the other, each time the lowest candidate; at most k of them.
-- Where 2 leads to 0 and nothing else leads anywhere, places R 3 3 7 is 1 ∷ 2 ∷ 0 ∷ []
unfoldable pub places : (ℕ → ℕ → Bool) → ℕ → ℕ → ℕ → List ℕ
places R i zero U = []
places R i (suc k) U =
    elim (lowest_candidate_of R i U) [ None ↦ [] | Some p ↦ p ∷ places R i k (mask_of i (λ q. has U q && not (q == p))) ]

-- how often p stands in w
unfoldable pub times : List ℕ → ℕ → ℕ
times [] p = 0
times (q ∷ w) p = (if q == p then 1 else 0) + times w p

-- whether p stands in w
unfoldable pub holds : List ℕ → ℕ → Bool
holds [] p = false
holds (q ∷ w) p = q == p || holds w p

-- whether p stands in w before the first j, or anywhere where w has no j. before 2 (0 ∷ 1 ∷ 2 ∷ []) 1 is true
unfoldable pub before : ℕ → List ℕ → ℕ → Bool
before j [] p = false
before j (q ∷ w) p = not (q == j) && (q == p || before j w p)

-- whether p stands in w behind the first j. behind 0 (0 ∷ 1 ∷ 2 ∷ []) 1 is true
unfoldable pub behind : ℕ → List ℕ → ℕ → Bool
behind j [] p = false
behind j (q ∷ w) p = if q == j then holds w p else behind j w p
