-- An empty table has no pair.
use Rattle.sheets.proofs.FencePairs.{none_fenced}
use Rattle.sheets.proofs.pairs.Pairs.none.Goals as goal

pub returns : goal.returns
returns c = none_fenced
