-- The test of one bit.
use Rattle.std.proofs.Common.{sym, ◌∙◌, arith}
use Rattle.std.proofs.lemmas.Bool.{le-ltb}
use Rattle.bits.specs.Sets.{width}
use Rattle.bits.proofs.Sets.{has_above}
use Rattle.bits.proofs.Words.{has_test}
use Rattle.bits.proofs.Mask.contains.Goals as goal

pub returns-then-p-lt-WIDTH : goal.returns-then-p-lt-WIDTH
returns-then-p-lt-WIDTH c = has_test width c.args.self.bits c.args.p (omega arith)

pub returns-else-p-lt-WIDTH : goal.returns-else-p-lt-WIDTH
returns-else-p-lt-WIDTH c =
    le-ltb c.args.p width (omega arith) ∙ sym (has_above width c.args.self.bits c.args.p (omega arith) (omega arith))
