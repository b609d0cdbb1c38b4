-- A relation kept as a table of sets, and rows kept in an array.
use Rattle.std.specs.Prelude.{ℕ, zero, suc, Bool, List, [], ◌∷◌, slice_index}
use Rattle.bits.specs.Sets.{has}
use Rattle.bits.specs.Tables.{words}
use Rattle.rows.specs.declared.relations.Relation.{Relation}

-- q leads to p in a table of words: it is in the entry of p. leads_in (0 ∷ 1 ∷ []) 0 1 is true
abbrev pub leads_in : List ℕ → ℕ → ℕ → Bool
leads_in table q p = has (slice_index table p) q

-- q leads to p
abbrev pub leads : Relation → ℕ → ℕ → Bool
leads relation = leads_in (words relation.sources)

-- the rows of the steps below n, the highest step first. rows_of (5 ∷ 6 ∷ 7 ∷ []) 2 is 6 ∷ 5 ∷ []
unfoldable pub rows_of : List ℕ → ℕ → List ℕ
rows_of rows zero = []
rows_of rows (suc n) = slice_index rows n ∷ rows_of rows n
