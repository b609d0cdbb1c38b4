-- What is proved of orientations, in the subject's words. Each statement stands on the contract of a function of this crate.
use Rattle.std.specs.Prelude.{◌≡◌, ℕ, ◌<◌, ◌≤◌, Bool, true, if◌then◌else◌, ◌⊎◌, ◌↔◌, List, [], ◌∷◌, length, Some, None, IsTrue, Option, ◌≢◌, slice_index_or}
use Rattle.bits.specs.Sets.{has}
use Rattle.sheets.specs.Graphs.{Graph, Lawful, neighbours_of}
use Rattle.orientations.specs.Arrows.{Chain, Orientation}
use Rattle.orientations.specs.Placing.{times, before}
use Rattle.orientations.specs.Rows.{row, under, arrow, ancestor, Sound, Orients, Legal, lower_neighbours}
use Rattle.orientations.specs.Assignments.{W, LowerRow, next_row}
use Rattle.orientations.specs.Successors.{Place, lowest, highest, Lower, Changed, Next, successor, changed, upcoming, all_orientations, factorial}
use Rattle.orientations.specs.Lists.{Listed, Apart, Rising, Possible, Coming}
use Rattle.orientations.specs.Orders.{EachOnce, order, Follows, Agrees, of_order}

-- ---- rows and arrows

-- rows and orientations correspond one to one: rows that hold an orientation have the arrows of one, every orientation is held by some
-- rows, and by one list of rows alone
abbrev pub RowsCorrespond : Type 0
RowsCorrespond =
    (g : Graph) → Lawful g
    → ((o : List ℕ) → Orients g o → Orientation g (arrow g o))
    × ((R : ℕ → ℕ → Bool) → Orientation g R → (o : List ℕ) × Orients g o × ((q p : ℕ) → arrow g o q p ≡ R q p))
    × ((o p : List ℕ) → Orients g o → Orients g p → ((q r : ℕ) → arrow g o q r ≡ arrow g p q r) → o ≡ p)

-- under the laws of a sheet, the neighbours that it tells, a set of numbers below 32, are those of the theory, a set without a bound
abbrev pub NeighboursAgree : Type 0
NeighboursAgree = (g : Graph) → Lawful g → (i : ℕ) → neighbours_of g i ≡ lower_neighbours g i

-- `ancestor` tells where a chain of arrows leads
abbrev pub AncestorsTell : Type 0
AncestorsTell = (g : Graph) (o : List ℕ) (q p : ℕ) → IsTrue (ancestor g o q p) ↔ Chain (arrow g o) q p

-- with one row more the rows hold an orientation of one step more exactly when those below hold one and the row is legal over them
abbrev pub LegalAdds : Type 0
LegalAdds = (g : Graph) (a : ℕ) (o : List ℕ) → Sound g (a ∷ o) ↔ (Sound g o × Legal g o a)

-- ---- the assignments of one step

-- W lists each neighbour once and nothing else, and an ancestor stands earlier
abbrev pub W_lists : Type 0
W_lists =
    (g : Graph) (o : List ℕ) → Sound g o
    → ((p : ℕ) → times (W g o) p ≡ (if has (lower_neighbours g (length o)) p then 1 else 0))
    × ((q p : ℕ) → has (lower_neighbours g (length o)) q ≡ true → has (lower_neighbours g (length o)) p ≡ true → Chain (arrow g o) q p
    → before p (W g o) q ≡ true)

-- over one orientation, lower is a strict total order of the legal rows
abbrev pub RowsOrdered : Type 0
RowsOrdered =
    (g : Graph) (o : List ℕ) → Sound g o
    → ((a : ℕ) → LowerRow g o a a → ⊥)
    × ((a b c : ℕ) → LowerRow g o a b → LowerRow g o b c → LowerRow g o a c)
    × ((a b : ℕ) → Legal g o a → Legal g o b → (a ≡ b) ⊎ (LowerRow g o a b ⊎ LowerRow g o b a))

-- what comes after the row a over o: a legal row above it, with no legal row in between; nothing where a has 1 at every neighbour,
-- and then no legal row is above it
abbrev pub NextRow : Graph → List ℕ → ℕ → Option ℕ → Type 0
NextRow g o a (Some b) =
    Legal g o b × LowerRow g o a b × (a ≢ lower_neighbours g (length o))
    × ((c : ℕ) → Legal g o c → LowerRow g o a c → LowerRow g o c b → ⊥)
NextRow g o a None = (a ≡ lower_neighbours g (length o)) × ((c : ℕ) → Legal g o c → LowerRow g o a c → ⊥)

-- raising the rightmost 0 of W, with zeros after it and then closure, gives the next legal row
abbrev pub RowsRise : Type 0
RowsRise = (g : Graph) (o : List ℕ) → Sound g o → (a : ℕ) → Legal g o a → NextRow g o a (next_row g o a)

-- all zeros is legal and no row is below it; all ones is legal and no row is above it
abbrev pub RowsEnd : Type 0
RowsEnd =
    (g : Graph) (o : List ℕ) → Sound g o
    → (Legal g o 0 × ((c : ℕ) → LowerRow g o c 0 → ⊥))
    × (Legal g o (lower_neighbours g (length o)) × ((c : ℕ) → LowerRow g o (lower_neighbours g (length o)) c → ⊥))

-- ---- which orientation is lower

-- lower is a strict total order of the orientations of a graph
abbrev pub LowerOrders : Type 0
LowerOrders =
    (g : Graph)
    → ((o : List ℕ) → Lower g o o → ⊥)
    × ((o p q : List ℕ) → Lower g o p → Lower g p q → Lower g o q)
    × ((o p : List ℕ) → Orients g o → Orients g p → (o ≡ p) ⊎ (Lower g o p ⊎ Lower g p o))

-- o is lower than p exactly where they have the same steps, agree on those below some step k, and o has the lower assignment at k
abbrev pub LowerReads : Type 0
LowerReads =
    (g : Graph) (o p : List ℕ) → Lower g o p ↔ ((length o ≡ length p)
    × ((k : ℕ) × (k < length o) × (under o k ≡ under p k) × LowerRow g (under o k) (row o k) (row p k)))

-- the lowest and the highest are orientations; the one is below all others, the other above
abbrev pub EndsStand : Type 0
EndsStand =
    (g : Graph)
    → (Orients g (lowest g.steps) × ((c : List ℕ) → Orients g c → (lowest g.steps ≡ c) ⊎ Lower g (lowest g.steps) c))
    × (Orients g (highest g g.steps) × ((c : List ℕ) → Orients g c → (highest g g.steps ≡ c) ⊎ Lower g c (highest g g.steps)))

-- `successor` gives the lowest orientation above, and none exactly at the highest; `changed` tells the lowest step that changes
abbrev pub SuccessorsStand : Type 0
SuccessorsStand =
    (g : Graph) (o : List ℕ) → Orients g o
    → Next g o (successor g o)
    × ((successor g o ≡ None) ↔ (o ≡ highest g g.steps))
    × ((p : List ℕ) → successor g o ≡ Some p → Changed o p (changed g o))

-- ---- lists of orientations

-- from the lowest by successors: every orientation, rising, so each once, and at most n! for n steps
abbrev pub AllListed : Type 0
AllListed =
    (g : Graph)
    → ((k : ℕ) → k < length (all_orientations g) → Orients g (slice_index_or (all_orientations g) k []))
    × ((o : List ℕ) → Orients g o → Listed (all_orientations g) o)
    × Rising g (all_orientations g) × Apart (all_orientations g)
    × (length (all_orientations g) ≤ factorial g.steps)

-- no orientation is lost: each stands at exactly one place of the list
abbrev pub NoneLost : Type 0
NoneLost =
    (g : Graph) → Lawful g → (R : ℕ → ℕ → Bool) → Orientation g R
    → (k : ℕ) × (k < length (all_orientations g)) × ((q p : ℕ) → arrow g (slice_index_or (all_orientations g) k []) q p ≡ R q p)
    × ((j : ℕ) → j < length (all_orientations g) → ((q p : ℕ) → arrow g (slice_index_or (all_orientations g) j []) q p ≡ R q p) → j ≡ k)

-- `upcoming` gives the lowest k orientations after a place, and no other list has them
abbrev pub UpcomingStand : Type 0
UpcomingStand =
    (g : Graph) (k : ℕ) (s : Place) → Possible g s
    → Coming g k s (upcoming g k s) × ((os : List (List ℕ)) → Coming g k s os → os ≡ upcoming g k s)

-- lists without repeats that hold all orientations, and no others, have equal length
abbrev pub ListsAlike : Type 0
ListsAlike =
    (g : Graph) (os ps : List (List ℕ)) → Apart os → Apart ps
    → ((o : List ℕ) → Listed os o ↔ Orients g o) → ((o : List ℕ) → Listed ps o ↔ Orients g o) → length os ≡ length ps

-- ---- orders

-- the order of an orientation has every step once, follows every arrow, and tells it apart from all other orientations
abbrev pub OrdersFollow : Type 0
OrdersFollow =
    (g : Graph)
    → ((o : List ℕ) → Orients g o → EachOnce g.steps (order g o) × Follows g o (order g o))
    × ((o p : List ℕ) → Orients g o → Orients g p → order g o ≡ order g p → o ≡ p)

-- an orientation's order puts every clashing pair as it does; and exactly one orientation puts every clashing pair as a given order
-- does
abbrev pub OrdersOriented : Type 0
OrdersOriented =
    (g : Graph) → Lawful g
    → ((o : List ℕ) → Orients g o → Agrees g o (order g o))
    × ((l : List ℕ) → EachOnce g.steps l
    → Orients g (of_order g l g.steps) × Agrees g (of_order g l g.steps) l
    × ((o : List ℕ) → Orients g o → Agrees g o l → o ≡ of_order g l g.steps))
