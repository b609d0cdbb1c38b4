-- The move from an orientation to its successor.
use Rattle.std.specs.Prelude.{◌≡◌, ℕ, List, [], ◌∷◌, length, Some, None, Option}
use Rattle.orientations.specs.Assignments.{next_row}
use Rattle.orientations.specs.Successors.{lowest, successor, told, Successor, Topmost, Changed}
use Rattle.orientations.specs.Successors.Place.{standing}
use Rattle.sheets.specs.Graphs.{Graph}
use Rattle.rows.specs.declared.successors.Rise.{Rise}

-- the highest step that has a next assignment, with the row of that assignment
unfoldable pub rise_of : Graph → List ℕ → Option Rise
rise_of g [] = None
rise_of g (a ∷ o) = elim (next_row g o a) [ Some b ↦ Some (record { step = length o; row = record { bits = b } }) | None ↦ rise_of g o ]

-- the step told: the lowest at which the successor differs
abbrev pub told_by : Graph → List ℕ → Option ℕ
told_by g o = told g (standing o)

-- the rows afterwards: the successor's, or the lowest where there is none
abbrev pub moved_to : Graph → List ℕ → List ℕ
moved_to g o = elim (successor g o) [ Some p ↦ p | None ↦ lowest (length o) ]

-- the same in the subject's words, for rows o that hold an orientation: p is the lowest one above o and k the lowest step that
-- changed; or none is above o
abbrev pub Moved : Graph → List ℕ → Option ℕ → List ℕ → Type 0
Moved g o (Some k) p = Successor g o p × Changed o p k
Moved g o None p = Topmost g o × (p ≡ lowest g.steps)
