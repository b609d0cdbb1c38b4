-- The arrows between the steps that were added.
use Rattle.std.proofs.Common.{◌≡◌}
use Rattle.orientations.specs.Rows.{arrow}
use Rattle.rows.specs.Conflicts.{graph_of}
use Rattle.rows.specs.Directions.{held_to}
use Rattle.rows.specs.Relations.{leads}
use Rattle.rows.proofs.directions.Directions.arrows.Given as goal

abbrev pub invariant-loop-step : goal.invariant-loop-step
invariant-loop-step l = leads l.relation ≡ arrow (graph_of l.self.conflicts) (held_to l.self l.step)
