-- The worked orders, computed.
-- Assumes nothing.
use Rattle.std.proofs.Common.{refl}
use Rattle.bits.specs.Sets.{has, mask_of, any, first}
use Rattle.orientations.specs.Placing.{candidate, places, holds, behind}
use Rattle.orientations.specs.Rows.{grown, pointed, assignment, earlier, arrow, ancestor, lower_neighbours}
use Rattle.orientations.specs.Assignments.{last_zero, raised, closed, rise, W, next_row}
use Rattle.orientations.specs.Successors.{lowest, factorial, successor, changed, following, upcoming, all_orientations}
use Rattle.orientations.specs.Orders.{order}
use Rattle.orientations.specs.Worked.{paired, answers_from, WorkedOrders}

pub worked_orders : WorkedOrders
unfolding has mask_of any first lower_neighbours candidate places holds behind grown pointed assignment earlier arrow ancestor last_zero raised closed rise W next_row lowest factorial successor changed following upcoming all_orientations order paired answers_from
worked_orders = refl
