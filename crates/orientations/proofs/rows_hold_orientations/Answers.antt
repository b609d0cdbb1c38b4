-- The theorems on rows and arrows.
use Rattle.orientations.proofs.Chains.{ancestors_tell}
use Rattle.orientations.proofs.Comparing.{legal_adds}
use Rattle.orientations.proofs.Corresponding.{rows_correspond}
use Rattle.orientations.proofs.Neighbours.{neighbours_same}
use Rattle.orientations.proofs.rows_hold_orientations.Goals as goal

pub returns : goal.returns
returns c = record { correspond = rows_correspond; neighbours = neighbours_same; ancestors = ancestors_tell; legal = legal_adds }
