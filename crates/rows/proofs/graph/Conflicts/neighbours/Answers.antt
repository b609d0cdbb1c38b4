-- A number that is no step clashes with nothing; the lower steps of a step's pairs are its neighbours.
use Rattle.std.proofs.Common.{◌∙◌, arith}
use Rattle.bits.specs.Tables.{words}
use Rattle.orientations.proofs.Neighbours.{neighbours_none}
use Rattle.rows.specs.Conflicts.{graph_of, conflicts_lawful}
use Rattle.rows.proofs.Copies.{pair_neighbours}
use Rattle.rows.proofs.graph.Conflicts.neighbours.Goals as goal

pub returns-then-step-self : goal.returns-then-step-self
returns-then-step-self c =
    let self = c.args.self.now in
    neighbours_none (graph_of self) (conflicts_lawful self) c.args.step c.if-step-self.true

pub returns : goal.returns
returns c =
    let self = c.args.self.now in
    let few = self.few in
    c.below.ensures ∙ pair_neighbours self.count (words self.pairs.lower) c.args.step (omega arith) (omega arith)
