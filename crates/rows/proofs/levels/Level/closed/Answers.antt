-- The neighbours in the closure.
use Rattle.std.proofs.Common.{Bool, ◌&&◌, ap, ◌∙◌}
use Rattle.bits.specs.Sets.{width, has}
use Rattle.bits.proofs.Sets.{mask_same, mask_members}
use Rattle.rows.proofs.levels.Level.closed.Goals as goal

pub returns : goal.returns
returns c =
    c.intersection.ensures.answer
    ∙ mask_same width _ _
    (λ p l. ap (λ (b : Bool). has c.args.self.now.neighbours.bits p && b) (mask_members width _ _ c.closure.ensures p l))
