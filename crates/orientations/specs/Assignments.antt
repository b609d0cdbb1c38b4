-- The assignments of one step over an orientation of the steps below it: which is lower, and the next one.
-- An assignment is a test on steps: f p is true where it has 1 at p.
use Rattle.std.specs.Prelude.{◌≡◌, ℕ, Bool, true, false, if◌then◌else◌, not, ◌&&◌, ◌||◌, List, [], ◌∷◌, length, Some, None, Option, ◌==◌}
use Rattle.std.specs.Bool.{beq}
use Rattle.bits.specs.Sets.{has, mask_of, any}
use Rattle.sheets.specs.Graphs.{Graph}
use Rattle.orientations.specs.Placing.{places, behind}
use Rattle.orientations.specs.Rows.{assignment, ancestor, lower_neighbours}

-- whether f is lower than f': it has 0 at the first place of w where they differ
unfoldable pub lower : List ℕ → (ℕ → Bool) → (ℕ → Bool) → Bool
lower [] f f' = false
lower (p ∷ w) f f' = if beq (f p) (f' p) then lower w f f' else f' p

-- the step at the rightmost place of w where f has 0
unfoldable pub last_zero : List ℕ → (ℕ → Bool) → Option ℕ
last_zero [] f = None
last_zero (p ∷ w) f = elim (last_zero w f) [ Some j ↦ Some j | None ↦ elim (f p) [ true ↦ None | false ↦ Some p ] ]

-- f with 1 at the step j of w, and 0 at every place after it
unfoldable pub raised : List ℕ → (ℕ → Bool) → ℕ → ℕ → Bool
raised w f j p = p == j || (f p && not (behind j w p))

-- the closure of f: 1 also at each p to which some q below i with 1 leads
unfoldable pub closed : (ℕ → ℕ → Bool) → ℕ → (ℕ → Bool) → ℕ → Bool
closed R i f p = f p || any i (λ q. f q && R q p)

-- the next assignment to the set N after f, as a set, where w lists N: the rightmost 0 becomes 1, every place after it 0, then
-- closure; none where every place has 1
unfoldable pub rise : (ℕ → ℕ → Bool) → ℕ → ℕ → List ℕ → (ℕ → Bool) → Option ℕ
rise R i N w f =
    elim (last_zero w f) [ None ↦ None | Some j ↦ Some (mask_of i (λ p. has N p && closed R i (raised w f j) p)) ]

module _ (g : Graph) where
  -- W of the step that comes after o: its neighbours, placed one after the other, the lowest that has no unplaced neighbour as an
  -- ancestor. Chains stay among the steps below and may pass steps that are no neighbours
  unfoldable pub W : List ℕ → List ℕ
  W o = places (ancestor g o) (length o) (length o) (lower_neighbours g (length o))

  -- the row a is lower than b over o: its assignment is
  abbrev pub LowerRow : List ℕ → ℕ → ℕ → Type 0
  LowerRow o a b = lower (W o) (assignment g (length o) a) (assignment g (length o) b) ≡ true

  -- the row of the next assignment after that of the row a
  unfoldable pub next_row : List ℕ → ℕ → Option ℕ
  next_row o a = rise (ancestor g o) (length o) (lower_neighbours g (length o)) (W o) (assignment g (length o) a)
