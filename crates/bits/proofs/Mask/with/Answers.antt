-- A number that fits adds its bit, and another adds nothing.
use Rattle.std.proofs.Common.{arith}
use Rattle.bits.specs.Sets.{width}
use Rattle.bits.proofs.Sets.{mask_members}
use Rattle.bits.proofs.Words.{with_word, with_past}
use Rattle.bits.proofs.Mask.with.Goals as goal

pub returns-then-p-ge-WIDTH : goal.returns-then-p-ge-WIDTH
returns-then-p-ge-WIDTH c =
    let e = with_past width c.args.self.bits c.args.p (omega arith) (omega arith) in
    record { answer = e; members = mask_members width _ _ e }

pub returns : goal.returns
returns c =
    let e = with_word width c.args.self.bits c.args.p (omega arith) (omega arith) in
    record { answer = e; members = mask_members width _ _ e }
