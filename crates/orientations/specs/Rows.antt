-- Orientations as they are held: a row for each step, in a list with the highest step first, so that a ∷ o adds step `length o` with
-- the row a to the orientation o of the steps below it. The row of a step is the set of the neighbours that the step runs before;
-- whatever else is in it counts for nothing.
use Rattle.std.specs.Prelude.{◌≡◌, ℕ, Bool, true, false, if◌then◌else◌, not, ◌&&◌, ◌||◌, List, [], ◌∷◌, length, ◌==◌, nat_lt}
use Rattle.bits.specs.Sets.{has, mask_of, any}
use Rattle.sheets.specs.Graphs.{Graph}
use Rattle.orientations.specs.Arrows.{Chain, Acyclic}

-- the neighbours of step i as a set: the lower-numbered steps that clash with it, however many steps there are. Where 0 and 1 both
-- clash with 2, lower_neighbours g 2 is 3, the set of 0 and 1
unfoldable pub lower_neighbours : Graph → ℕ → ℕ
lower_neighbours g i = mask_of i (g.clashes i)

-- the row of step k; 0 where o has none
unfoldable pub row : List ℕ → ℕ → ℕ
row [] k = 0
row (a ∷ o) k = if k == length o then a else row o k

-- the rows of the steps below k
unfoldable pub under : List ℕ → ℕ → List ℕ
under [] k = []
under (a ∷ o) k = if nat_lt k (length (a ∷ o)) then under o k else (a ∷ o)

-- R, which tells what leads where among the steps below i, with step i added to it, where `earlier` run before i and i runs before
-- `later`. What is earlier, and what leads there, comes to lead into i; i comes to lead out to what is later, and to where that
-- leads. Then q leads to p where it did before; where q is i or leads into it, and i leads out to p; where p is i and q leads into
-- it; and i leads to itself where it leads out to something that leads into it
unfoldable pub grown : (ℕ → ℕ → Bool) → ℕ → (ℕ → Bool) → (ℕ → Bool) → ℕ → ℕ → Bool
grown R i earlier later q p =
    let into = λ (x : ℕ). any i (λ r. earlier r && (x == r || R x r)) in
    let out = λ (x : ℕ). any i (λ r. later r && (r == x || R r x)) in
    R q p || ((q == i || into q) && out p) || (p == i && (into q || (q == i && any i (λ r. later r && into r))))

-- R with the arrows of step i added to it: one from each step of `earlier`, and one to each step of `later`
unfoldable pub pointed : (ℕ → ℕ → Bool) → ℕ → (ℕ → Bool) → (ℕ → Bool) → ℕ → ℕ → Bool
pointed R i earlier later q p = R q p || (q == i && later p) || (p == i && earlier q)

module _ (g : Graph) where
  -- the assignment that the row a gives to step i: 1 at the neighbours that i runs before
  unfoldable pub assignment : ℕ → ℕ → ℕ → Bool
  assignment i a p = has (lower_neighbours g i) p && has a p

  -- the neighbours that run before i: the assignment has 0 there
  unfoldable pub earlier : ℕ → ℕ → ℕ → Bool
  earlier i a p = has (lower_neighbours g i) p && not (has a p)

  -- whether there is an arrow from q to p. With one clash, 0–1, and the row 1 for step 1, the arrow is from 1 to 0
  unfoldable pub arrow : List ℕ → ℕ → ℕ → Bool
  arrow [] q p = false
  arrow (a ∷ o) q p = pointed (arrow o) (length o) (earlier (length o) a) (assignment (length o) a) q p

  -- whether q is an ancestor of p, computed step by step; that this tells where a chain leads is a theorem
  unfoldable pub ancestor : List ℕ → ℕ → ℕ → Bool
  ancestor [] q p = false
  ancestor (a ∷ o) q p = grown (ancestor o) (length o) (earlier (length o) a) (assignment (length o) a) q p

  -- the row a holds neighbours of step i alone
  abbrev pub Within : ℕ → ℕ → Type 0
  Within i a = (p : ℕ) → has a p ≡ true → has (lower_neighbours g i) p ≡ true

  -- each row of o holds neighbours of its step alone
  unfoldable pub AllWithin : List ℕ → Type 0
  AllWithin [] = Unit {0}
  AllWithin (a ∷ o) = AllWithin o × Within (length o) a

  -- o holds an orientation of the steps below `length o`
  abbrev pub Sound : List ℕ → Type 0
  Sound o = AllWithin o × Acyclic (arrow o)

  -- o holds an orientation of g
  pub record Orients (o : List ℕ) : Type 0 where
    -- it has a row for each step
    pub full : length o ≡ g.steps
    -- they hold neighbours alone, and their arrows close no circle
    pub sound : Sound o

  -- the row a is legal over o: it holds neighbours alone, and where a neighbour q is an ancestor of a neighbour p by arrows among the
  -- steps below, a 1 at q means a 1 at p. The chain may pass steps that are no neighbours
  abbrev pub Legal : List ℕ → ℕ → Type 0
  Legal o a =
      Within (length o) a
      × ((q p : ℕ) → has (lower_neighbours g (length o)) q ≡ true → has (lower_neighbours g (length o)) p ≡ true → Chain (arrow o) q p
      → has a q ≡ true → has a p ≡ true)
