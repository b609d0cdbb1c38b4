-- Empty rows are those of the lowest orientation.
use Rattle.std.proofs.Common.{replicate, refl}
use Rattle.sheets.specs.Limits.{limit}
use Rattle.bits.proofs.Tables.{blank_at}
use Rattle.rows.proofs.Rising.{zero_rows}
use Rattle.rows.proofs.directions.Directions.lowest.Goals as goal

pub returns : goal.returns
returns c = record { conflicts = refl; rows = zero_rows (replicate limit 0) c.args.conflicts.count (λ k l. blank_at limit k); all = blank_at limit }
