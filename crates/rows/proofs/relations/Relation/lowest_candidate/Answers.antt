-- The lowest member of the set of the candidates.
use Rattle.std.proofs.Common.{sym, ap, ◌∙◌, subst, arith}
use Rattle.bits.specs.Sets.{width, has, first, Lowest}
use Rattle.bits.proofs.Searches.{first_mask}
use Rattle.bits.proofs.Sets.{first_is}
use Rattle.orientations.specs.Placing.{candidate}
use Rattle.sheets.specs.Limits.{limit}
use Rattle.rows.specs.Relations.{leads}
use Rattle.rows.proofs.relations.Relation.lowest_candidate.Goals as goal

pub returns : goal.returns
returns c =
    let f = candidate (leads c.args.self.now) limit c.args.unplaced.bits in
    let is = c.lowest.ensures.answer ∙ ap (λ m. first width (has m)) c.candidates.ensures ∙ first_mask width limit f (omega arith) in
    record { answer = is; lowest = subst (Lowest limit f) (sym is) (first_is limit f) }
