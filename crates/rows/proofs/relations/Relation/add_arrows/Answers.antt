-- `lead` adds the arrows from the step, and `add` those to it.
use Rattle.std.proofs.Common.{sym, arith}
use mathlib.Core.Path.{fun_ext}
use Rattle.orientations.proofs.Bounds.{pointed_idle}
use Rattle.orientations.proofs.Neighbours.{later_none, earlier_none, neighbours_none}
use Rattle.rows.specs.Conflicts.{graph_of, conflicts_lawful}
use Rattle.rows.specs.Relations.{leads}
use Rattle.rows.proofs.Adding.{stepped, arrows_more}
use Rattle.rows.proofs.relations.Relation.add_arrows.Goals as goal

pub returns-then-step-ge-LIMIT : goal.returns-then-step-ge-LIMIT
returns-then-step-ge-LIMIT c =
    let conflicts = c.args.conflicts.now in
    let g = graph_of conflicts in
    let few = conflicts.few in
    let row = c.args.row.bits in
    let none = neighbours_none g (conflicts_lawful conflicts) c.args.step (omega arith) in
    sym
    (fun_ext
    (λ q. fun_ext (λ p. pointed_idle _ c.args.step _ _ (earlier_none g c.args.step row none) (later_none g c.args.step row none) q p)))

pub returns : goal.returns
returns c =
    let g = graph_of c.args.conflicts.now in
    let i = c.args.step in
    fun_ext
    (λ q. fun_ext
    (λ p.
    arrows_more g (leads c.args.self.now) (leads c.add.new.self) i c.args.row.bits c.neighbours-neighbours.result.bits c.intersection.result.bits
    c.difference.result.bits (omega arith) c.neighbours-neighbours.ensures c.intersection.ensures.answer c.difference.ensures.answer
    c.with.result.bits c.with.ensures.answer
    (stepped _ (leads c.lead.new.self) _ i _ _ _ (omega arith) c.lead.ensures c.add.ensures) q p))
