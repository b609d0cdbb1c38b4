-- Orders of the steps, the order of an orientation, and the orientation of an order.
use Rattle.std.specs.Prelude.{◌≡◌, ℕ, zero, suc, true, if◌then◌else◌, ◌&&◌, List, [], ◌∷◌, length, nat_lt}
use Rattle.bits.specs.Sets.{has, mask_of}
use Rattle.sheets.specs.Graphs.{Graph}
use Rattle.orientations.specs.Placing.{places, times, before}
use Rattle.orientations.specs.Rows.{arrow, lower_neighbours}

-- l has each of the steps below n once, and nothing else
abbrev pub EachOnce : ℕ → List ℕ → Type 0
EachOnce n l = (p : ℕ) → times l p ≡ (if nat_lt p n then 1 else 0)

module _ (g : Graph) where
  -- the order of the orientation o: of the unplaced steps with no arrow from an unplaced step, the lowest, and so on
  unfoldable pub order : List ℕ → List ℕ
  order o = places (arrow g o) (length o) (length o) (mask_of (length o) (λ p. true))

  -- l runs as the arrows of o say
  abbrev pub Follows : List ℕ → List ℕ → Type 0
  Follows o l = (q p : ℕ) → arrow g o q p ≡ true → before p l q ≡ true

  -- o puts every clashing pair as l does
  abbrev pub Agrees : List ℕ → List ℕ → Type 0
  Agrees o l = (q p : ℕ) → g.clashes q p ≡ true → arrow g o q p ≡ before p l q

  -- the orientation of the first n steps in which every clashing pair is put as in the order l
  unfoldable pub of_order : List ℕ → ℕ → List ℕ
  of_order l zero = []
  of_order l (suc n) = mask_of n (λ p. has (lower_neighbours g n) p && before p l n) ∷ of_order l n
