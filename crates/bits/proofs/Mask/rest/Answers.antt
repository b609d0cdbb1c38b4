-- Taking 1 away takes the lowest member out.
use Rattle.std.proofs.Common.{◌+◌, ◌%◌, arith}
use Rattle.std.proofs.lemmas.Nat.{and_le_l}
use Rattle.bits.proofs.Words.{rest_words}
use Rattle.bits.proofs.Mask.rest.Goals as goal

pub returns : goal.returns
returns c =
    let m = c.args.self.bits in
    record { lowest = λ p l. rest_words m p (omega arith) l; none = λ e. omega (arith, and_le_l m ((m + 4294967295) % 4294967296)) }
