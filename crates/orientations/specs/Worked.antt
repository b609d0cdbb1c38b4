-- Small graphs with their orders and the answers of a walk, worked out: one table.
use Rattle.std.specs.Prelude.{◌≡◌, ℕ, zero, suc, Bool, false, ◌||◌, List, [], ◌∷◌, map, Some, None, Option}
use Rattle.sheets.specs.Fences.{is_pair}
use Rattle.sheets.specs.Graphs.{Graph}
use Rattle.orientations.specs.Successors.{Place, factorial, told, moved, all_orientations}
use Rattle.orientations.specs.Successors.Place.{fresh}
use Rattle.orientations.specs.Orders.{order}

-- whether p and q are one of the pairs, in either order
unfoldable pub paired : List (ℕ × ℕ) → ℕ → ℕ → Bool
paired [] p q = false
paired (pair ∷ pairs) p q = is_pair pair.0 pair.1 p q || paired pairs p q

-- n steps, of which those pairs clash
abbrev pub pair_graph : ℕ → List (ℕ × ℕ) → Graph
pair_graph n pairs = record { steps = n; clashes = paired pairs }

-- what the first k moves from a place tell, up to the one that tells nothing
unfoldable pub answers_from : Graph → ℕ → Place → List (Option ℕ)
answers_from g zero s = []
answers_from g (suc k) s = elim (told g s) [ Some t ↦ Some t ∷ answers_from g k (moved g s) | None ↦ None ∷ [] ]

-- a line of the table
pub record Worked : Type 0 where
  -- a graph, by its count of steps and the pairs that clash
  pub steps : ℕ
  pub clashing : List (ℕ × ℕ)
  -- the orders of its orientations, from the lowest up
  pub orders : List (List ℕ)
  -- what the moves of a walk over it tell, from the first to the one after the last orientation, which tells nothing
  pub answers : List (Option ℕ)

-- the line of a graph, by the definitions
abbrev pub worked_out : ℕ → List (ℕ × ℕ) → Worked
worked_out n pairs =
    let g : Graph = pair_graph n pairs in
    record {
      steps = n;
      clashing = pairs;
      orders = map (order g) (all_orientations g);
      answers = answers_from g (suc (factorial n)) fresh;
    }

-- the ring's pairs: 0 and 1 each clash with 2 and 3
abbrev pub ring_pairs : List (ℕ × ℕ)
ring_pairs = (0, 2) ∷ (1, 2) ∷ (0, 3) ∷ (1, 3) ∷ []

-- no step, two free steps, two that clash, three that all clash, and the ring
abbrev pub worked : List Worked
worked =
    record { steps = 0; clashing = []; orders = [] ∷ []; answers = Some 0 ∷ None ∷ [] }
    ∷ record { steps = 2; clashing = []; orders = (0 ∷ 1 ∷ []) ∷ []; answers = Some 0 ∷ None ∷ [] }
    ∷ record {
      steps = 2;
      clashing = (0, 1) ∷ [];
      orders = (0 ∷ 1 ∷ []) ∷ (1 ∷ 0 ∷ []) ∷ [];
      answers = Some 0 ∷ Some 1 ∷ None ∷ [];
    }
    ∷ record {
      steps = 3;
      clashing = (0, 1) ∷ (0, 2) ∷ (1, 2) ∷ [];
      orders = (0 ∷ 1 ∷ 2 ∷ []) ∷ (0 ∷ 2 ∷ 1 ∷ []) ∷ (2 ∷ 0 ∷ 1 ∷ []) ∷ (1 ∷ 0 ∷ 2 ∷ []) ∷ (1 ∷ 2 ∷ 0 ∷ []) ∷ (2 ∷ 1 ∷ 0 ∷ []) ∷ [];
      answers = Some 0 ∷ Some 2 ∷ Some 2 ∷ Some 1 ∷ Some 2 ∷ Some 2 ∷ None ∷ [];
    }
    ∷ record {
      steps = 4;
      clashing = ring_pairs;
      orders =
          (0 ∷ 1 ∷ 2 ∷ 3 ∷ []) ∷ (0 ∷ 3 ∷ 1 ∷ 2 ∷ []) ∷ (1 ∷ 3 ∷ 0 ∷ 2 ∷ []) ∷ (3 ∷ 0 ∷ 1 ∷ 2 ∷ [])
          ∷ (0 ∷ 2 ∷ 1 ∷ 3 ∷ []) ∷ (0 ∷ 2 ∷ 3 ∷ 1 ∷ []) ∷ (3 ∷ 0 ∷ 2 ∷ 1 ∷ []) ∷ (1 ∷ 2 ∷ 0 ∷ 3 ∷ [])
          ∷ (1 ∷ 2 ∷ 3 ∷ 0 ∷ []) ∷ (3 ∷ 1 ∷ 2 ∷ 0 ∷ []) ∷ (2 ∷ 0 ∷ 1 ∷ 3 ∷ []) ∷ (2 ∷ 0 ∷ 3 ∷ 1 ∷ [])
          ∷ (2 ∷ 1 ∷ 3 ∷ 0 ∷ []) ∷ (2 ∷ 3 ∷ 0 ∷ 1 ∷ []) ∷ [];
      answers =
          Some 0 ∷ Some 3 ∷ Some 3 ∷ Some 3 ∷ Some 2 ∷ Some 3 ∷ Some 3 ∷ Some 2 ∷ Some 3 ∷ Some 3 ∷ Some 2 ∷ Some 3 ∷ Some 3 ∷ Some 3
          ∷ None ∷ [];
    }
    ∷ []

-- the definitions give every line of the table
abbrev pub WorkedOrders : Type 0
WorkedOrders = map (λ line. worked_out line.steps line.clashing) worked ≡ worked
