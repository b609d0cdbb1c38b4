-- Steps and their clashes: what every sheet means.
use Rattle.std.specs.Prelude.{◌≡◌, ℕ, ◌<◌, ◌≤◌, Bool, true, false, ◌&&◌, nat_lt}
use Rattle.bits.specs.Sets.{width, mask_of}
use Rattle.sheets.specs.Limits.{limit}

-- a conflict graph: how many steps there are, numbered from 0, and which two clash
pub record Graph : Type 0 where
  pub steps : ℕ
  pub clashes : ℕ → ℕ → Bool

-- the neighbours of step i: the lower-numbered steps that clash with it. Where 0 and 1 both clash with 2 and 3, those of 3 are 3,
-- the set of 0 and 1
abbrev pub neighbours_of : Graph → ℕ → ℕ
neighbours_of g i = mask_of width (λ j. nat_lt j i && g.clashes i j)

-- the laws of a sheet
pub record Lawful (g : Graph) : Type 0 where
  -- there are no more steps than the limit
  pub few : g.steps ≤ limit
  -- no step clashes with itself
  pub irreflexive : (i : ℕ) → g.clashes i i ≡ false
  -- where i clashes with j, j clashes with i
  pub symmetric : (i j : ℕ) → g.clashes i j ≡ g.clashes j i
  -- only steps below the count clash
  pub inside : (i j : ℕ) → g.clashes i j ≡ true → (i < g.steps) × (j < g.steps)
