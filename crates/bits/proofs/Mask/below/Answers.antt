-- A word of ones at the low end is the set of the numbers below.
use Rattle.std.proofs.Common.{ℕ, ◌-◌, ap, ◌∙◌, arith}
use Rattle.std.proofs.lemmas.Nat.{one_shl}
use Rattle.bits.specs.Sets.{width}
use Rattle.bits.proofs.Sets.{mask_members}
use Rattle.bits.proofs.Words.{ones_word, below_past}
use Rattle.bits.proofs.Mask.below.Goals as goal

pub returns-then-i-ge-WIDTH : goal.returns-then-i-ge-WIDTH
returns-then-i-ge-WIDTH c =
    let e = ones_word width width (omega arith) ∙ below_past width c.args.i (omega arith) in
    record { answer = e; members = mask_members width _ _ e }

pub returns : goal.returns
returns c =
    let i = c.args.i in
    let e = ap (λ (m : ℕ). m - 1) (one_shl i width (omega arith)) ∙ ones_word width i (omega arith) in
    record { answer = e; members = mask_members width _ _ e }
