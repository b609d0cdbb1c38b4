-- A number that fits loses its bit, and another was not there.
use Rattle.std.proofs.Common.{arith}
use Rattle.bits.specs.Sets.{width}
use Rattle.bits.proofs.Sets.{mask_members}
use Rattle.bits.proofs.Words.{without_word, without_past}
use Rattle.bits.proofs.Mask.without.Goals as goal

pub returns-then-p-ge-WIDTH : goal.returns-then-p-ge-WIDTH
returns-then-p-ge-WIDTH c =
    let e = without_past width c.args.self.bits c.args.p (omega arith) (omega arith) in
    record { answer = e; members = mask_members width _ _ e }

pub returns : goal.returns
returns c =
    let e = without_word width c.args.self.bits c.args.p (omega arith) (omega arith) in
    record { answer = e; members = mask_members width _ _ e }
