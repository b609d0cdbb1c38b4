-- Two different steps of the sheet make one pair more.
use Rattle.std.proofs.Common.{arith}
use Rattle.bits.specs.Tables.{words}
use Rattle.sheets.proofs.FencePairs.{pair_gained, pair_again, clash_more}
use Rattle.sheets.proofs.fences.Fence.fence.Goals as goal

pub returns-clause-pairs : goal.returns-clause-pairs
returns-clause-pairs g c =
    let s = c.args.self.now in
    pair_gained (words s.pairs.lower) (words c.add.new.self.lower) c.args.i c.args.j (g.S.Sheet.graph s.below).steps c.if-i-j.false
    (omega (arith, c.count-n.ensures)) (omega (arith, c.count-n.ensures)) (g.S.Sheet.laws s.below).few c.add.ensures

pub returns-clause-clashes : goal.returns-clause-clashes
returns-clause-clashes g c =
    let s = c.args.self.now in
    clash_more (g.S.Sheet.graph s.below) (words s.pairs.lower) (words c.add.new.self.lower) c.args.i c.args.j (omega (arith, c.count-n.ensures))
    (omega (arith, c.count-n.ensures)) (returns-clause-pairs g c)

pub returns-clause-again : goal.returns-clause-again
returns-clause-again g c =
    pair_again (words c.args.self.now.pairs.lower) (words c.add.new.self.lower) c.args.i c.args.j (returns-clause-pairs g c)
