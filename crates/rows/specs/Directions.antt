-- The rows that directions hold.
use Rattle.std.specs.Prelude.{ℕ, List}
use Rattle.bits.specs.Tables.{words}
use Rattle.rows.specs.declared.directions.Directions.{Directions}
use Rattle.rows.specs.Relations.{rows_of}

-- the rows of the steps below a level, the highest step first
abbrev pub held_to : Directions → ℕ → List ℕ
held_to d level = rows_of (words d.rows) level

-- the rows of the steps of the graph
abbrev pub held : Directions → List ℕ
held d = held_to d d.conflicts.count
