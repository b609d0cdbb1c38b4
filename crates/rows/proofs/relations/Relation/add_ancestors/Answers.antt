-- `lead` adds what runs before the step, and the step, to the ancestors of what runs after it; `add` adds the step's own ancestors.
use Rattle.std.proofs.Common.{◌≡◌, true, false, eqb, ◌⊎◌, sym, ap, ◌∙◌, inl, inr, arith}
use mathlib.Core.Path.{fun_ext}
use Rattle.bits.specs.declared.Mask.{Mask}
use Rattle.bits.specs.Sets.{inserted}
use Rattle.bits.specs.Tables.{words}
use Rattle.bits.proofs.Sets.{mask_narrow}
use Rattle.bits.proofs.Tables.{words_long}
use Rattle.orientations.proofs.Bounds.{grown_idle}
use Rattle.orientations.proofs.Neighbours.{later_none, earlier_none, neighbours_none}
use Rattle.rows.specs.Conflicts.{graph_of, conflicts_lawful}
use Rattle.rows.specs.Relations.{leads}
use Rattle.rows.proofs.Adding.{leads_past, stepped, ancestors_more}
use Rattle.rows.proofs.relations.Relation.add_ancestors.Goals as goal
use Rattle.rows.proofs.relations.Relation.add_ancestors.Goals.{then-is_empty, else-is_empty}

pub returns-then-step-ge-LIMIT : goal.returns-then-step-ge-LIMIT
returns-then-step-ge-LIMIT c =
    let conflicts = c.args.conflicts.now in
    let g = graph_of conflicts in
    let few = conflicts.few in
    let row = c.args.row.bits in
    let none = neighbours_none g (conflicts_lawful conflicts) c.args.step (omega arith) in
    sym
    (fun_ext
    (λ q. fun_ext (λ p. grown_idle _ c.args.step _ _ (earlier_none g c.args.step row none) (later_none g c.args.step row none) q p)))

pub returns : goal.returns
returns c =
    let g = graph_of c.args.conflicts.now in
    let i = c.args.step in
    let own = c.if-is_empty.own.bits in
    let I = c.union-into.result.bits in
    let K = c.intersection.result.bits in
    let is_own : ((eqb K 0 ≡ true) × (own ≡ I)) ⊎ ((eqb K 0 ≡ false) × (own ≡ inserted I i)) =
    elim c.if-is_empty.branch [
      | then-is_empty w ↦ inl (sym c.is_empty.ensures.answer ∙ w.if-is_empty.true, ap (λ (m : Mask). m.bits) w.own-is)
      | else-is_empty w ↦ inr (sym c.is_empty.ensures.answer ∙ w.if-is_empty.false, ap (λ (m : Mask). m.bits) w.own-is ∙ w.with-own.ensures.answer)
    ] in
    fun_ext
    (λ q. fun_ext
    (λ p.
    ancestors_more g (leads c.args.self.now) (leads c.add.new.self) i c.args.row.bits c.neighbours-neighbours.result.bits
    c.intersection-later.result.bits c.difference-earlier.result.bits (omega arith) c.neighbours-neighbours.ensures
    c.intersection-later.ensures.answer c.difference-earlier.ensures.answer
    (leads_past (words c.args.self.now.sources) (words_long c.args.self.now.sources _ (omega arith))) c.leading.result.bits I c.closure-out.result.bits (mask_narrow _ _ c.leading.ensures.answer)
    c.leading.ensures.members c.union-into.ensures.answer c.closure-out.ensures
    K own c.with.result.bits c.intersection.ensures.answer is_own c.with.ensures.answer
    (stepped _ (leads c.lead.new.self) _ i _ _ _ (omega arith) c.lead.ensures c.add.ensures) q p))
