-- The latest footprint is the one that changes.
use Rattle.std.proofs.Common.{arith}
use Rattle.sheets.specs.Footprints.{reading}
use Rattle.sheets.proofs.ColumnCalls.{noted_at}
use Rattle.sheets.proofs.columns.ColumnSheet.read.Goals as goal

pub returns-clause-after : goal.returns-clause-after
returns-clause-after c =
    let s = c.args.self.now in
    noted_at s.table s.count (omega arith) (omega arith) (reading c.args.column) c.args.column c.in_ok-latest.latest _ c.in_ok-latest.ensures c.read.ensures.after
