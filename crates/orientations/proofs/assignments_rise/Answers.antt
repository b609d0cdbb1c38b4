-- The theorems on the assignments of one step.
use Rattle.orientations.proofs.Levels.{w_lists, rows_ordered, rows_rise, rows_end}
use Rattle.orientations.proofs.assignments_rise.Goals as goal

pub returns : goal.returns
returns c = record { places = w_lists; total = rows_ordered; ends = rows_end; next = rows_rise }
