-- The set of a step may hold more than lower steps, which count for nothing.
use Rattle.std.proofs.Common.{◌∙◌}
use Rattle.bits.specs.Sets.{width}
use Rattle.bits.specs.Tables.{words}
use Rattle.bits.proofs.Sets.{mask_same}
use Rattle.sheets.proofs.FencePairs.{lower_fenced}
use Rattle.sheets.proofs.pairs.Pairs.below.Goals as goal

pub returns : goal.returns
returns c =
    let step = c.args.step in
    c.intersection.ensures.answer
    ∙ mask_same width _ _
    (λ q h. lower_fenced (words c.args.self.now.lower) step q _ _ c.lower_of.ensures (c.below.ensures.members q h))
