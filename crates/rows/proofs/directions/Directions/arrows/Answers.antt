-- Each turn adds one step to the arrows, and past the limit there are none.
use Rattle.std.proofs.Common.{ℕ, sym, refl, ap, ◌∙◌, arith, length-take}
use mathlib.Core.Path.{fun_ext}
use Rattle.bits.specs.Tables.{words}
use Rattle.orientations.specs.Rows.{pointed, arrow, assignment, earlier}
use Rattle.orientations.proofs.Bounds.{pointed_idle}
use Rattle.orientations.proofs.Neighbours.{neighbours_none}
use Rattle.bits.proofs.Tables.{word_in}
use Rattle.rows.specs.Conflicts.{graph_of, conflicts_lawful}
use Rattle.rows.specs.Relations.{leads, rows_of}
use Rattle.rows.proofs.Held.{step_more, held_past}
use Rattle.rows.proofs.directions.Directions.arrows.Goals as goal

pub loop-step-init : goal.loop-step-init
unfolding arrow rows_of
loop-step-init c = fun_ext (λ q. fun_ext (λ p. c.none-relation.ensures q p))

pub loop-step-preserved : goal.loop-step-preserved
unfolding arrow
loop-step-preserved c =
    let d = c.args.self.now in
    let g = graph_of d.conflicts in
    let step = c.loop-step.step in
    step_more g pointed (arrow g) (λ a o q p. refl) pointed_idle (words d.rows) (leads c.loop-step.relation) (leads c.add_arrows.new.self)
    step c.loop-step.invariant
    (c.add_arrows.ensures ∙ ap (λ (a : ℕ). pointed (leads c.loop-step.relation) step (earlier g step a) (assignment g step a)) (word_in d.rows c.min.result step c.loop-step-test.true))

pub returns : goal.returns
unfolding arrow
returns c =
    let d = c.args.self.now in
    let conflicts = d.conflicts in
    let few = conflicts.few in
    let long = length-take c.min.result d.rows in
    let g = graph_of conflicts in
    c.loop-step.invariant
    ∙ sym
    (held_past g pointed (arrow g) (λ a o q p. refl) pointed_idle (words d.rows) c.loop-step.step c.args.level (omega (arith, long, c.min.ensures))
    (λ i l h. neighbours_none g (conflicts_lawful conflicts) i (omega (arith, long, c.min.ensures))))
