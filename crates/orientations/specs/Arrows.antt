-- Orientations of a conflict graph, by their arrows. An arrow from q to p says that q runs before p; R q p tells whether it is there.
use Rattle.std.specs.Prelude.{◌≡◌, ℕ, Bool, true, false, not}
use Rattle.sheets.specs.Graphs.{Graph}

-- a chain: one or more arrows, each from where the one before it ends, leading from q to p. Then q is an ancestor of p
pub data Chain (R : ℕ → ℕ → Bool) : ℕ → ℕ → Type 0 where
  last : {q p : ℕ} → R q p ≡ true → Chain R q p
  link : {q r p : ℕ} → R q r ≡ true → Chain R r p → Chain R q p

-- no chain leads from a step back to itself
abbrev pub Acyclic : (ℕ → ℕ → Bool) → Type 0
Acyclic R = (p : ℕ) → Chain R p p → ⊥

-- R is an acyclic orientation of g; below, an orientation is always an acyclic one
pub record Orientation (g : Graph) (R : ℕ → ℕ → Bool) : Type 0 where
  -- two steps that clash have one arrow between them
  pub one : (q p : ℕ) → g.clashes q p ≡ true → R p q ≡ not (R q p)
  -- two steps that do not clash have none
  pub nothing_else : (q p : ℕ) → g.clashes q p ≡ false → R q p ≡ false
  -- no chain of arrows leads back to its start
  pub acyclic : Acyclic R
