-- A lower step is put in exactly where it clashes.
use Rattle.std.proofs.Common.{◌<◌, ◌&&◌, ltb, sym, refl, ap, ◌∙◌, add-one, arith}
use Rattle.std.proofs.lemmas.Bool.{and_parts, and_from, lt-ltb, ltb-true}
use Rattle.bits.specs.declared.Mask.{Mask}
use Rattle.bits.specs.Sets.{width, mask_of, inserted}
use Rattle.bits.proofs.Sets.{mask_more, mask_skip, mask_alike}
use Rattle.sheets.proofs.interface.neighbours.Goals as goal
use Rattle.sheets.proofs.interface.neighbours.Goals.{then-clash, else-clash}

pub loop-other-init : goal.loop-other-init
unfolding mask_of
loop-other-init g c = refl

pub loop-other-preserved : goal.loop-other-preserved
loop-other-preserved g c =
    let sheet = g.S.Sheet.graph c.args.sheet.now in
    let step = c.args.step in
    let k = c.loop-other.other in
    let few = (g.S.Sheet.laws c.args.sheet.now).few in
    let room : k < width = omega (arith, few, c.count.ensures, c.min-other-end.ensures) in
    rw (add-one)
    (elim c.if-clash.branch [
      | then-clash w ↦
          ap (λ (m : Mask). m.bits) w.found-is ∙ w.with-found.ensures.answer ∙ ap (λ m. inserted m k) c.loop-other.invariant
          ∙ mask_more k (sheet.clashes step) room (sym c.clash.ensures ∙ w.if-clash.true)
      | else-clash w ↦ ap (λ (m : Mask). m.bits) w.found-is ∙ c.loop-other.invariant ∙ mask_skip k (sheet.clashes step) (sym c.clash.ensures ∙ w.if-clash.false)
    ])

pub returns : goal.returns
returns g c =
    let sheet = g.S.Sheet.graph c.args.sheet.now in
    let step = c.args.step in
    let laws = g.S.Sheet.laws c.args.sheet.now in
    let n = c.loop-other.other in
    c.loop-other.invariant
    ∙ mask_alike n width (sheet.clashes step) (λ j. ltb j step && sheet.clashes step j)
    (λ p l e. (omega (arith, laws.few, c.count.ensures, c.min-other-end.ensures), and_from _ _ (lt-ltb p step (omega (arith, c.min-other-end.ensures))) e))
    (λ p l e.
    let (below, clash) = and_parts (ltb p step) (sheet.clashes step p) e in
    (omega (arith, ltb-true p step below, (laws.inside step p clash).1, c.count.ensures, c.min-other-end.ensures), clash))
