-- The set that the code makes is the set of the columns in which they meet.
use Rattle.std.proofs.Common.{◌∙◌}
use Rattle.bits.specs.Sets.{width}
use Rattle.bits.proofs.Sets.{mask_members}
use Rattle.sheets.proofs.Meetings.{writes_touched, meeting_mask}
use Rattle.sheets.proofs.footprints.Footprint.meeting_columns.Goals as goal

pub returns : goal.returns
returns c =
    let a = c.args.self.now in
    let b = c.args.other.now in
    c.union.ensures.answer
    ∙ meeting_mask a b _ _ (writes_touched a b _ _ (mask_members width _ _ c.touched.ensures) c.intersection-ours.ensures.members)
    (writes_touched b a _ _ (mask_members width _ _ c.touched-2.ensures) c.intersection-theirs.ensures.members)
