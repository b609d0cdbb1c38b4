-- The neighbours of a step, and what a row says of them.
-- Assumes nothing.
use Rattle.std.proofs.Common.{◌≡◌, ℕ, ◌<◌, ◌≤◌, true, false, not, ◌&&◌, nat_lt, ◌⊎◌, sym, ap, ◌∙◌, inl, inr, arith}
use mathlib.Core.Path.{fun_ext}
use Rattle.std.proofs.lemmas.Bool.{not-true, not_from_false, and_parts, and_from, and_left, and_right, cases_Bool, cases_lt, ltb-true, lt-ltb}
use Rattle.std.proofs.lemmas.Bool.{false_from_ne_true}
use Rattle.bits.specs.Sets.{width, has}
use Rattle.bits.proofs.Sets.{has_none, has_in, has_mask, has_past, mask_ext, mask_alike}
use Rattle.sheets.specs.Graphs.{Graph, Lawful, neighbours_of}
use Rattle.orientations.specs.Rows.{assignment, earlier, Within, lower_neighbours}

module _ (g : Graph) (i : ℕ) where
  -- a lower step is a neighbour where it clashes, and no other number is one
  pub neighbour_is : (p : ℕ) → p < i → has (lower_neighbours g i) p ≡ g.clashes i p
  unfolding lower_neighbours
  neighbour_is p h = has_mask i (g.clashes i) p h

  pub neighbour_past : (p : ℕ) → i ≤ p → has (lower_neighbours g i) p ≡ false
  unfolding lower_neighbours
  neighbour_past p h = has_past i (g.clashes i) p h

  pub neighbour_below : (p : ℕ) → has (lower_neighbours g i) p ≡ true → p < i
  unfolding lower_neighbours
  neighbour_below p e = (has_in i (g.clashes i) p e).0

  pub neighbour_clashes : (p : ℕ) → has (lower_neighbours g i) p ≡ true → g.clashes i p ≡ true
  unfolding lower_neighbours
  neighbour_clashes p e = (has_in i (g.clashes i) p e).1

  pub clash_neighbour : (p : ℕ) → p < i → g.clashes i p ≡ true → has (lower_neighbours g i) p ≡ true
  clash_neighbour p h e = neighbour_is p h ∙ e

  module _ (a : ℕ) where
    -- the neighbours with 1
    pub later_parts : (p : ℕ) → assignment g i a p ≡ true → (has (lower_neighbours g i) p ≡ true) × (has a p ≡ true)
    unfolding assignment
    later_parts p e = and_parts (has (lower_neighbours g i) p) (has a p) e

    pub later_from : (p : ℕ) → has (lower_neighbours g i) p ≡ true → has a p ≡ true → assignment g i a p ≡ true
    unfolding assignment
    later_from p n e = and_from (has (lower_neighbours g i) p) (has a p) n e

    pub later_below : (p : ℕ) → assignment g i a p ≡ true → p < i
    later_below p e = neighbour_below p (later_parts p e).0

    -- the neighbours with 0
    pub earlier_parts : (p : ℕ) → earlier g i a p ≡ true → (has (lower_neighbours g i) p ≡ true) × (has a p ≡ false)
    unfolding earlier
    earlier_parts p e = let (n, z) = and_parts (has (lower_neighbours g i) p) (not (has a p)) e in (n, not-true (has a p) z)

    pub earlier_from : (p : ℕ) → has (lower_neighbours g i) p ≡ true → has a p ≡ false → earlier g i a p ≡ true
    unfolding earlier
    earlier_from p n z = and_from (has (lower_neighbours g i) p) (not (has a p)) n (not_from_false (has a p) z)

    pub earlier_below : (p : ℕ) → earlier g i a p ≡ true → p < i
    earlier_below p e = neighbour_below p (earlier_parts p e).0

    -- a row of neighbours alone is its assignment
    pub within_is : Within g i a → assignment g i a ≡ has a
    unfolding assignment
    within_is w =
        fun_ext
        (λ p.
        elim (cases_Bool (has a p)) [
          | inl e ↦ and_from (has (lower_neighbours g i) p) (has a p) (w p e) e ∙ sym e
          | inr e ↦ and_right (has (lower_neighbours g i) p) (has a p) e ∙ sym e
        ])

    -- without neighbours there are no values
    pub later_none : 0 ≡ lower_neighbours g i → (p : ℕ) → assignment g i a p ≡ false
    unfolding assignment
    later_none none p = and_left _ (has a p) (ap (λ (m : ℕ). has m p) (sym none) ∙ has_none p)

    pub earlier_none : 0 ≡ lower_neighbours g i → (p : ℕ) → earlier g i a p ≡ false
    unfolding earlier
    earlier_none none p = and_left _ (not (has a p)) (ap (λ (m : ℕ). has m p) (sym none) ∙ has_none p)

-- ---- in a lawful graph

-- a number that is no step clashes with nothing
pub clash_past : (g : Graph) → Lawful g → (i j : ℕ) → (g.steps ≤ i) ⊎ (g.steps ≤ j) → g.clashes i j ≡ false
clash_past g laws i j h =
    false_from_ne_true _
    (λ e. let (a, b) = laws.inside i j e in elim h [ inl z ↦ omega arith | inr z ↦ omega arith ])

-- under the laws of a sheet they are the neighbours that sheets answer
pub neighbours_same : (g : Graph) → Lawful g → (i : ℕ) → neighbours_of g i ≡ lower_neighbours g i
unfolding lower_neighbours
neighbours_same g laws i =
    mask_alike width i (λ j. nat_lt j i && g.clashes i j) (g.clashes i)
    (λ p lt e. let (below, clash) = and_parts (nat_lt p i) (g.clashes i p) e in (ltb-true p i below, clash))
    (λ p lt e. let (at, other) = laws.inside i p e in (omega (arith, laws.few), and_from (nat_lt p i) (g.clashes i p) (lt-ltb p i lt) e))

-- a number that is no step has no neighbours
pub neighbours_none : (g : Graph) → Lawful g → (i : ℕ) → g.steps ≤ i → 0 ≡ lower_neighbours g i
neighbours_none g laws i h =
    mask_ext _ _
    (λ j.
    has_none j
    ∙ elim (cases_lt j i) [
      | inl l ↦ sym (neighbour_is g i j l ∙ clash_past g laws i j (inl h))
      | inr l ↦ sym (neighbour_past g i j l)
    ])
