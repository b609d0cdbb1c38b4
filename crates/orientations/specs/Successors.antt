-- Which of two orientations is lower, the successor, and lists of successors.
use Rattle.std.specs.Prelude.{◌≡◌, ℕ, zero, suc, ◌*◌, ◌<◌, ◌⊎◌, List, [], ◌∷◌, length, Some, None, Option, ◌≢◌}
use Rattle.sheets.specs.Graphs.{Graph}
use Rattle.orientations.specs.Rows.{row, Orients, lower_neighbours}
use Rattle.orientations.specs.Assignments.{LowerRow, next_row}

-- the lowest orientation of n steps: every neighbour runs before
unfoldable pub lowest : ℕ → List ℕ
lowest zero = []
lowest (suc n) = 0 ∷ lowest n

-- k is the lowest step whose row differs; rows that hold an orientation are its assignments
abbrev pub Changed : List ℕ → List ℕ → ℕ → Type 0
Changed o p k = (k < length o) × (row o k ≢ row p k) × ((j : ℕ) → j < k → row o j ≡ row p j)

-- 1 · 2 · … · n
unfoldable pub factorial : ℕ → ℕ
factorial zero = 1
factorial (suc n) = suc n * factorial n

-- where a walk is: before the first orientation, at one, or past the last
pub data Place : Type 0 where
  fresh : Place
  standing : List ℕ → Place
  finished : Place

module _ (g : Graph) where
  -- o is lower than p: at the lowest step where they differ, o has the lower assignment
  unfoldable pub Lower : List ℕ → List ℕ → Type 0
  Lower [] p = ⊥
  Lower (a ∷ o) [] = ⊥
  Lower (a ∷ o) (b ∷ p) = Lower o p ⊎ ((o ≡ p) × LowerRow g o a b)

  -- the highest orientation of n steps: every neighbour runs after
  unfoldable pub highest : ℕ → List ℕ
  highest zero = []
  highest (suc n) = lower_neighbours g n ∷ highest n

  -- p is the successor of o: the lowest orientation above it
  pub record Successor (o p : List ℕ) : Type 0 where
    -- it is an orientation
    pub orients : Orients g p
    -- it is above o
    pub above : Lower o p
    -- and below every other that is
    pub least : (c : List ℕ) → Orients g c → Lower o c → (p ≡ c) ⊎ Lower p c

  -- no orientation is above o
  abbrev pub Topmost : List ℕ → Type 0
  Topmost o = (c : List ℕ) → Orients g c → Lower o c → ⊥

  -- what comes after o: its successor, or nothing where none is above it
  abbrev pub Next : List ℕ → Option (List ℕ) → Type 0
  Next o (Some p) = Successor o p
  Next o None = Topmost o

  -- the successor, computed: the highest step that has a next assignment takes it, and every row above becomes 0
  unfoldable pub successor : List ℕ → Option (List ℕ)
  successor [] = None
  successor (a ∷ o) =
      elim (next_row g o a) [ Some b ↦ Some (b ∷ o) | None ↦ elim (successor o) [ Some p ↦ Some (0 ∷ p) | None ↦ None ] ]

  -- the lowest step at which the successor differs, where there is one
  unfoldable pub changed : List ℕ → ℕ
  changed [] = 0
  changed (a ∷ o) = elim (next_row g o a) [ Some b ↦ length o | None ↦ changed o ]

  -- what the move from a place tells: 0 for the first orientation, else the lowest step that changes; nothing where none is left
  abbrev pub told : Place → Option ℕ
  told fresh = Some 0
  told (standing o) = elim (successor o) [ Some p ↦ Some (changed o) | None ↦ None ]
  told finished = None

  -- where the move leads
  abbrev pub moved : Place → Place
  moved fresh = standing (lowest g.steps)
  moved (standing o) = elim (successor o) [ Some p ↦ standing p | None ↦ finished ]
  moved finished = finished

  -- the next k orientations after o, fewer where fewer are left
  unfoldable pub following : ℕ → List ℕ → List (List ℕ)
  following zero o = []
  following (suc k) o = elim (successor o) [ Some p ↦ p ∷ following k p | None ↦ [] ]

  -- the next k orientations from a place, fewer where fewer are left
  unfoldable pub upcoming : ℕ → Place → List (List ℕ)
  upcoming zero s = []
  upcoming (suc k) fresh = lowest g.steps ∷ following k (lowest g.steps)
  upcoming (suc k) (standing o) = following (suc k) o
  upcoming (suc k) finished = []

  -- every orientation of g, from the lowest up: there are at most n! of them for n steps, so one more would find no other
  unfoldable pub all_orientations : List (List ℕ)
  all_orientations = upcoming (suc (factorial g.steps)) fresh
