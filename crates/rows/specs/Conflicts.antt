-- The conflict graph that copied clashes mean.
use Rattle.std.specs.Prelude.{ℕ, ◌≤◌, false, refl}
use Rattle.std.proofs.lemmas.Bool.{false≢true}
use Rattle.bits.specs.Tables.{words}
use Rattle.sheets.specs.Fences.{fence_graph}
use Rattle.sheets.specs.FenceLaws.{fence_lawful}
use Rattle.sheets.specs.Graphs.{Graph, Lawful}
use Rattle.sheets.specs.Limits.{limit}
use Rattle.rows.specs.declared.graph.Conflicts.{Conflicts}

-- n steps, none of which clash
abbrev pub free_graph : ℕ → Graph
free_graph n = record { steps = n; clashes = λ i j. false }

-- the steps below the count, with the clashes that stand in the table of pairs. The table is
-- read as that of a fence, over steps that do not clash
abbrev pub graph_of : Conflicts → Graph
graph_of c = fence_graph (free_graph c.count) (words c.pairs.lower)

-- a lawful graph, where n is at most the limit
pub free_lawful : (n : ℕ) → n ≤ limit → Lawful (free_graph n)
free_lawful n few = record { few = few; irreflexive = λ i. refl; symmetric = λ i j. refl; inside = λ i j e. absurd (false≢true e) }

-- whatever is in the table, it means a lawful graph
pub conflicts_lawful : (c : Conflicts) → Lawful (graph_of c)
conflicts_lawful c = fence_lawful (free_graph c.count) (words c.pairs.lower) (free_lawful c.count c.few)
