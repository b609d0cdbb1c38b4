-- Lists of orientations, and what comes after a place.
use Rattle.std.specs.Prelude.{◌≡◌, ℕ, ◌<◌, ◌≤◌, ◌⊎◌, List, [], length, ◌≢◌, slice_index_or}
use Rattle.sheets.specs.Graphs.{Graph}
use Rattle.orientations.specs.Rows.{Orients}
use Rattle.orientations.specs.Successors.{Place, Lower}
use Rattle.orientations.specs.Successors.Place.{fresh, standing, finished}

-- o stands in the list
abbrev pub Listed : List (List ℕ) → List ℕ → Type 0
Listed os o = (k : ℕ) × (k < length os) × (slice_index_or os k [] ≡ o)

-- none stands there twice
abbrev pub Apart : List (List ℕ) → Type 0
Apart os = (j k : ℕ) → j < k → k < length os → slice_index_or os j [] ≢ slice_index_or os k []

-- each is above those before it
abbrev pub Rising : Graph → List (List ℕ) → Type 0
Rising g os = (j k : ℕ) → j < k → k < length os → Lower g (slice_index_or os j []) (slice_index_or os k [])

-- a place that a walk over g can have
abbrev pub Possible : Graph → Place → Type 0
Possible g fresh = Unit {0}
Possible g (standing o) = Orients g o
Possible g finished = Unit {0}

-- o comes after the place s
abbrev pub After : Graph → Place → List ℕ → Type 0
After g fresh o = Unit {0}
After g (standing p) o = Lower g p o
After g finished o = ⊥

-- os are the lowest k orientations after s, rising, or all of them where fewer are left
pub record Coming (g : Graph) (k : ℕ) (s : Place) (os : List (List ℕ)) : Type 0 where
  -- there are at most k
  pub most : length os ≤ k
  -- each is an orientation that comes after s
  pub members : (j : ℕ) → j < length os → Orients g (slice_index_or os j []) × After g s (slice_index_or os j [])
  -- they rise
  pub rising : Rising g os
  -- an orientation after s is one of them, or there are k and it is above them all
  pub others : (o : List ℕ) → Orients g o → After g s o
      → Listed os o ⊎ ((length os ≡ k) × ((j : ℕ) → j < length os → Lower g (slice_index_or os j []) o))
