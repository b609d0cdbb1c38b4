-- Each turn adds one step to the ancestors, and past the limit there are none.
use Rattle.std.proofs.Common.{ℕ, Bool, IsTrue, ◌↔◌, sym, refl, ap, ◌∙◌, subst, arith, length-take}
use mathlib.Core.Path.{fun_ext}
use Rattle.bits.specs.Tables.{words}
use Rattle.orientations.specs.Arrows.{Chain}
use Rattle.orientations.specs.Rows.{grown, arrow, ancestor, assignment, earlier}
use Rattle.orientations.proofs.Bounds.{grown_idle}
use Rattle.orientations.proofs.Chains.{ancestors_tell}
use Rattle.orientations.proofs.Neighbours.{neighbours_none}
use Rattle.bits.proofs.Tables.{word_in}
use Rattle.rows.specs.Conflicts.{graph_of, conflicts_lawful}
use Rattle.rows.specs.Directions.{held_to}
use Rattle.rows.specs.Relations.{leads, rows_of}
use Rattle.rows.proofs.Held.{step_more, held_past}
use Rattle.rows.proofs.directions.Directions.ancestors.Goals as goal

pub loop-step-init : goal.loop-step-init
unfolding ancestor rows_of
loop-step-init c = fun_ext (λ q. fun_ext (λ p. c.none-relation.ensures q p))

pub loop-step-preserved : goal.loop-step-preserved
unfolding ancestor
loop-step-preserved c =
    let d = c.args.self.now in
    let g = graph_of d.conflicts in
    let step = c.loop-step.step in
    step_more g grown (ancestor g) (λ a o q p. refl) grown_idle (words d.rows) (leads c.loop-step.relation) (leads c.add_ancestors.new.self)
    step c.loop-step.invariant
    (c.add_ancestors.ensures ∙ ap (λ (a : ℕ). grown (leads c.loop-step.relation) step (earlier g step a) (assignment g step a)) (word_in d.rows c.min.result step c.loop-step-test.true))

pub returns : goal.returns
unfolding ancestor
returns c =
    let d = c.args.self.now in
    let conflicts = d.conflicts in
    let g = graph_of conflicts in
    let few = conflicts.few in
    let long = length-take c.min.result d.rows in
    let o = held_to d c.args.level in
    let all =
    c.loop-step.invariant
    ∙ sym
    (held_past g grown (ancestor g) (λ a o q p. refl) grown_idle (words d.rows) c.loop-step.step c.args.level (omega (arith, long, c.min.ensures))
    (λ i l h. neighbours_none g (conflicts_lawful conflicts) i (omega (arith, long, c.min.ensures)))) in
    record {
      answer = all;
      chains = λ q p. subst (λ (R : ℕ → ℕ → Bool). IsTrue (R q p) ↔ Chain (arrow g o) q p) (sym all) (ancestors_tell g o q p);
    }
