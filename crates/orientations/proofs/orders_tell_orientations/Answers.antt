-- The theorems on orders.
use Rattle.orientations.proofs.Oriented.{orders_follow, orders_oriented}
use Rattle.orientations.proofs.orders_tell_orientations.Goals as goal

pub returns : goal.returns
returns c = record { follow = orders_follow; oriented = orders_oriented }
