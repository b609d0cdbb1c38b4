-- The pairs are the sheet's clashes, so the copy means the same graph.
use Rattle.bits.specs.Tables.{words}
use Rattle.rows.proofs.Copies.{copy_means}
use Rattle.rows.proofs.graph.Conflicts.of.Goals as goal

pub returns : goal.returns
returns g c =
    let sheet = c.args.sheet.now in
    copy_means (g.S.Sheet.graph sheet) (g.S.Sheet.laws sheet) (words c.of.result.lower) (λ p q a b. c.of.ensures p q) c.count.result c.count.ensures
