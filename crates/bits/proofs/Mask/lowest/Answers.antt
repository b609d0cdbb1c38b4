-- The zeros at the low end lead to the lowest member.
use Rattle.std.proofs.Common.{None, sym, ◌∙◌, arith}
use Rattle.std.proofs.lemmas.Bool.{eqb-false}
use Rattle.bits.specs.Sets.{width, has, Lowest}
use Rattle.bits.proofs.Sets.{first_only}
use Rattle.bits.proofs.Words.{trailing, first_trailing}
use Rattle.bits.proofs.Mask.lowest.Goals as goal

pub returns-then-is_empty : goal.returns-then-is_empty
returns-then-is_empty c =
    let empty : Lowest width (has c.args.self.bits) None = λ q h. c.is_empty.ensures.members.0 c.if-is_empty.true q in
    record { answer = first_only width (has c.args.self.bits) None empty; lowest = empty }

pub returns : goal.returns
returns c =
    let m = c.args.self.bits in
    let some = eqb-false m 0 (sym c.is_empty.ensures.answer ∙ c.if-is_empty.false) in
    record { answer = first_trailing width m (omega arith) (omega arith); lowest = trailing width m (omega arith) (omega arith) }
