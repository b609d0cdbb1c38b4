-- Each entry is the empty set.
use Rattle.sheets.specs.Limits.{limit}
use Rattle.rows.proofs.Gathering.{blank_none}
use Rattle.rows.proofs.relations.Relation.none.Goals as goal

pub returns : goal.returns
returns c = blank_none limit
