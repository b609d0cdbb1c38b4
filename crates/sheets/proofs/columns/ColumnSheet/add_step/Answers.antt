-- The step is put at the end of the footprints.
use Rattle.std.proofs.Common.{◌+◌, take, set, refl, ap, ◌∙◌, arith}
use Rattle.sheets.proofs.ColumnCalls.{add_accepted, added}
use Rattle.sheets.proofs.columns.ColumnSheet.add_step.Goals as goal

pub returns : goal.returns
returns c =
    let s = c.args.self.now in
    record {
      answer = add_accepted s.table s.count (omega arith) (omega arith) (omega arith);
      after =
          ap (λ f. take (s.count + 1) (set s.table s.count f)) c.blank.ensures
          ∙ added s.table s.count (omega arith) (omega arith) (omega arith);
      same = λ refused. absurd (refused refl);
    }
