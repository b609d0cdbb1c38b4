-- The levels that were looked at do not rise, nor do the places of this one.
use Rattle.std.proofs.Common.{◌≡◌, ◌-◌, length, get_or}
use Rattle.bits.specs.Tables.{words}
use Rattle.orientations.specs.Assignments.{W}
use Rattle.orientations.specs.Rows.{assignment}
use Rattle.rows.specs.Conflicts.{graph_of}
use Rattle.rows.specs.Directions.{held, held_to}
use Rattle.rows.specs.Moves.{rise_of}
use Rattle.rows.proofs.Scanning.{Scan}
use Rattle.rows.proofs.directions.Directions.highest_rise.Given as goal

abbrev pub invariant-loop-step : goal.invariant-loop-step
invariant-loop-step l = rise_of (graph_of l.self.conflicts) (held l.self) ≡ rise_of (graph_of l.self.conflicts) (held_to l.self l.step)

abbrev pub invariant-loop-place : goal.invariant-loop-place
invariant-loop-place l =
    let w = W (graph_of l.self.conflicts) (held_to l.self l.step) in
    Scan w (assignment (graph_of l.self.conflicts) l.step (get_or (words l.self.rows) l.step 0)) (length w - length l.yielded) l.ones.bits
