-- The theorems on which orientation is lower.
use Rattle.orientations.proofs.Changes.{lower_reads}
use Rattle.orientations.proofs.Listing.{lower_orders, ends_stand, successors_stand}
use Rattle.orientations.proofs.successor_is_lowest_above.Goals as goal

pub returns : goal.returns
returns c = record { total = lower_orders; reads = lower_reads; ends = ends_stand; next = successors_stand }
