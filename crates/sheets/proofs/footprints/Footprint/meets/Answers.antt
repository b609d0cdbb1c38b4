-- They meet where that set is not empty.
use Rattle.std.proofs.Common.{not, eqb, ap, ◌∙◌}
use Rattle.std.proofs.lemmas.Bool.Decides.{Decides-at}
use Rattle.bits.proofs.Sets.{any_mask}
use Rattle.sheets.specs.Limits.{columns}
use Rattle.sheets.specs.Footprints.{meets_in}
use Rattle.sheets.proofs.Meetings.{meets_in_column}
use Rattle.sheets.proofs.footprints.Footprint.meets.Goals as goal

pub returns : goal.returns
returns c =
    let a = c.args.self.now in
    let b = c.args.other.now in
    let e = ap not c.is_empty.ensures.answer ∙ ap (λ m. not (eqb m 0)) c.meeting_columns.ensures ∙ any_mask columns (meets_in a b) in
    record { answer = e; column = Decides-at _ _ e (meets_in_column a b) }
