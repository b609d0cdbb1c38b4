-- The theorems on lists of orientations.
use Rattle.orientations.proofs.Counting.{lists_alike}
use Rattle.orientations.proofs.Listing.{all_listed, none_lost, upcoming_stand}
use Rattle.orientations.proofs.successors_lose_none.Goals as goal

pub returns : goal.returns
returns c = record { all = all_listed; lost = none_lost; upcoming = upcoming_stand; alike = lists_alike }
