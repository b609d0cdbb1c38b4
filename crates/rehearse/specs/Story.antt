-- The story's runbook: four steps whose clashes form a ring.
use Rattle.std.specs.Prelude.{ℕ, zero, suc, if◌then◌else◌, List, [], ◌∷◌, ◌++◌}
use Rattle.sheets.specs.declared.footprints.Footprint.{Footprint}
use Rattle.sheets.specs.Graphs.{Graph}
use Rattle.sheets.specs.Footprints.{blank, reading, writing}

-- what the steps touch: column 0 is the product names, 1 the supplier list, 2 the joined products, 3 the buyers' count
abbrev pub story : List Footprint
story =
    writing 0 (reading 0 blank)
    ∷ writing 1 blank
    ∷ writing 2 (reading 1 (reading 0 blank))
    ∷ writing 3 (reading 1 (reading 0 blank))
    ∷ []

-- the steps below k that clash with step j, each as a pair with it
unfoldable pub lower_pairs : Graph → ℕ → ℕ → List (ℕ × ℕ)
lower_pairs g j zero = []
lower_pairs g j (suc k) = lower_pairs g j k ++ (if g.clashes k j then (k, j) ∷ [] else [])

-- the pairs of steps below n that clash
unfoldable pub pairs_below : Graph → ℕ → List (ℕ × ℕ)
pairs_below g zero = []
pairs_below g (suc j) = pairs_below g j ++ lower_pairs g j j

-- the pairs of steps that clash, each with the lower step first
abbrev pub clashing_pairs : Graph → List (ℕ × ℕ)
clashing_pairs g = pairs_below g g.steps

-- the ring: unescape and suppliers each clash with join and with count
abbrev pub ring : List (ℕ × ℕ)
ring = (0, 2) ∷ (1, 2) ∷ (0, 3) ∷ (1, 3) ∷ []
