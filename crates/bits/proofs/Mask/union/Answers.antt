-- The word `a | b` is the union.
use Rattle.std.proofs.Common.{arith}
use Rattle.bits.specs.Sets.{width}
use Rattle.bits.proofs.Sets.{mask_members}
use Rattle.bits.proofs.Words.{or_word}
use Rattle.bits.proofs.Mask.union.Goals as goal

pub returns : goal.returns
returns c =
    let a = c.args.self.bits in
    let b = c.args.other.bits in
    let e = or_word width a b (omega arith) (omega arith) in
    record { answer = e; members = mask_members width _ _ e }
