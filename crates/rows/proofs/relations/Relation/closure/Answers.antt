-- A step is put in where a member of the set leads to it.
use Rattle.std.proofs.Common.{sym, ap, ◌∙◌, arith}
use Rattle.std.proofs.lemmas.Bool.{not-true, not-false}
use Rattle.sheets.specs.Limits.{limit}
use Rattle.bits.specs.declared.Mask.{Mask}
use Rattle.bits.specs.Sets.{inserted}
use Rattle.bits.specs.Tables.{words}
use Rattle.bits.proofs.Tables.{word_at, words_long}
use Rattle.rows.proofs.Gathering.{apart, closed_start, closed_more, closed_skip, closed_end}
use Rattle.rows.proofs.relations.Relation.closure.Goals as goal
use Rattle.rows.proofs.relations.Relation.closure.Goals.{then-not-is_empty, else-not-is_empty}

pub loop-p-init : goal.loop-p-init
loop-p-init c = closed_start (words c.args.self.now.sources) c.args.set.bits (omega arith)

pub loop-p-preserved : goal.loop-p-preserved
loop-p-preserved c =
    let t = words c.args.self.now.sources in
    let U = c.args.set.bits in
    let p = c.loop-p.p in
    let is = c.is_empty.ensures.answer ∙ apart t U p _ c.intersection.result.bits (word_at c.args.self.now.sources p) c.intersection.ensures.answer in
    elim c.if-not-is_empty.branch [
      | then-not-is_empty w ↦
          ap (λ (m : Mask). m.bits) w.all-is ∙ w.with-all.ensures.answer ∙ ap (λ m. inserted m p) c.loop-p.invariant
          ∙ closed_more t U p (not-false _ (sym is ∙ w.if-not-is_empty.true))
      | else-not-is_empty w ↦
          ap (λ (m : Mask). m.bits) w.all-is ∙ c.loop-p.invariant ∙ closed_skip t U p (not-true _ (sym is ∙ w.if-not-is_empty.false))
    ]

pub returns : goal.returns
returns c =
    let sources = c.args.self.now.sources in
    c.loop-p.invariant ∙ closed_end (words sources) c.args.set.bits c.loop-p.p (let long = words_long sources limit (omega arith) in omega (arith, long))
