-- The worked table, from the definitions by computation.
use Rattle.orientations.proofs.Computed.{worked_orders}
use Rattle.orientations.proofs.worked_orders_hold.Goals as goal

pub returns : goal.returns
returns c = worked_orders
