-- A fence, by its table of pairs.
use Rattle.std.specs.Prelude.{◌≡◌, ℕ, ◌<◌, min, max, Bool, true, if◌then◌else◌, not, ◌&&◌, ◌||◌, ◌⊎◌, List, ◌==◌, nat_lt, slice_index}
use Rattle.bits.specs.Sets.{has}
use Rattle.bits.specs.Tables.{words}
use Rattle.sheets.specs.declared.fences.Fence.{Fence}
use Rattle.sheets.specs.Graphs.{Graph}

-- whether the pair of p and q, in either order, is in the table: the higher step has the lower in its set.
-- fenced (0 ∷ 0 ∷ 1 ∷ []) 0 2 is true: step 2 has step 0
abbrev pub fenced : List ℕ → ℕ → ℕ → Bool
fenced pairs p q = not (p == q) && has (slice_index pairs (max p q)) (min p q)

-- whether p and q are i and j, in either order
abbrev pub is_pair : ℕ → ℕ → ℕ → ℕ → Bool
is_pair i j p q = (p == i && q == j) || (p == j && q == i)

-- a step with itself is refused, then a step that is not below the count n. fence_refusal 3 5 5 is 9, fence_refusal 3 0 3 is 10
abbrev pub fence_refusal : ℕ → ℕ → ℕ → ℕ
fence_refusal n i j = if i == j then 9 else if nat_lt i n && nat_lt j n then 0 else 10

-- two steps clash when they clash below or their pair is fenced
abbrev pub fence_clash : Graph → List ℕ → ℕ → ℕ → Bool
fence_clash g pairs i j = (nat_lt i g.steps && nat_lt j g.steps) && (g.clashes i j || fenced pairs i j)

-- the same in words: i and j are steps, and they clash below or their pair is fenced
abbrev pub ClashOrFenced : Graph → List ℕ → ℕ → ℕ → Type 0
ClashOrFenced g pairs i j = (i < g.steps) × (j < g.steps) × ((g.clashes i j ≡ true) ⊎ (fenced pairs i j ≡ true))

-- what a fence over a sheet that means g means
abbrev pub fence_graph : Graph → List ℕ → Graph
fence_graph g pairs = record { steps = g.steps; clashes = fence_clash g pairs }

-- the pairs of a fence
abbrev pub pairs_of : {S : Type 0} → Fence S → ℕ → ℕ → Bool
pairs_of s = fenced (words s.pairs.lower)

-- what a fence means, where `meaning` tells what the sheets below mean
abbrev pub graph_of : {S : Type 0} → (S → Graph) → Fence S → Graph
graph_of meaning s = fence_graph (meaning s.below) (words s.pairs.lower)

-- what a call of fence with the outcome k makes of a relation: as before, and the pair of i and j too where it was accepted.
-- Gains 0 0 2 none r says that r holds of 0 and 2, of 2 and 0, and of nothing else
abbrev pub Gains : ℕ → ℕ → ℕ → (ℕ → ℕ → Bool) → (ℕ → ℕ → Bool) → Type 0
Gains k i j before after = (p q : ℕ) → after p q ≡ (before p q || (k == 0 && is_pair i j p q))
