-- The step that came is put in exactly where none of the steps leads to it.
use Rattle.std.proofs.Common.{ℕ, not, ◌&&◌, ◌||◌, sym, ap, ◌∙◌, arith}
use Rattle.bits.specs.declared.Mask.{Mask}
use Rattle.bits.specs.Sets.{has}
use Rattle.bits.specs.Tables.{words}
use Rattle.bits.proofs.Sets.{has_none}
use Rattle.bits.proofs.Members.{step_kept, step_passed, step_done}
use Rattle.rows.proofs.Gathering.{led_by, apart, candidates_are}
use Rattle.rows.proofs.relations.Relation.candidates.Goals as goal

pub loop-p-init : goal.loop-p-init
loop-p-init c =
    let free = λ (q : ℕ). not (led_by (words c.args.self.now.sources) c.intersection-steps.result.bits q) in
    let into = c.into_iter-p-iterator in (
      omega arith,
      λ q l.
          ap (λ x. x || (has into.result.left.bits q && free q)) (has_none q)
          ∙ ap (λ (m : Mask). has m.bits q && free q) into.ensures.into_iter_gives,
    )

pub loop-p-preserved-then-is_empty : goal.loop-p-preserved-then-is_empty
loop-p-preserved-then-is_empty c =
    let t = words c.args.self.now.sources in
    let steps = c.intersection-steps.result.bits in
    let free = λ (q : ℕ). not (led_by t steps q) in
    let left = c.next.new.self.left.bits in
    let is = apart t steps c.in-Some.p c.sources_of.result.bits c.intersection.result.bits c.sources_of.ensures c.intersection.ensures.answer in (
      omega arith,
      λ q l.
          ap (λ x. x || (has left q && free q)) (c.with-found.ensures.members q l)
          ∙ step_kept c.loop-p.p-iterator.left.bits c.in-Some.p left c.in-Some.ensures.steps (has c.loop-p.found.bits) free
          (sym (c.if-is_empty.ensures.answer ∙ is)) q l
          ∙ c.loop-p.invariant.1 q l,
    )

pub loop-p-preserved : goal.loop-p-preserved
loop-p-preserved c =
    let t = words c.args.self.now.sources in
    let steps = c.intersection-steps.result.bits in
    let is = apart t steps c.in-Some.p c.sources_of.result.bits c.intersection.result.bits c.sources_of.ensures c.intersection.ensures.answer in (
      c.loop-p.invariant.0,
      λ q l.
          step_passed c.loop-p.p-iterator.left.bits c.in-Some.p c.next.new.self.left.bits c.in-Some.ensures.steps (has c.loop-p.found.bits)
          (λ q. not (led_by t steps q)) (sym (c.if-is_empty.ensures.answer ∙ is)) q l
          ∙ c.loop-p.invariant.1 q l,
    )

pub returns : goal.returns
returns c =
    let t = words c.args.self.now.sources in
    let U = c.args.unplaced.bits in
    let steps = c.intersection-steps.result.bits in
    let found = c.loop-p.found.bits in
    let inv = c.loop-p.invariant in
    candidates_are t U steps found
    (λ q l. c.intersection-steps.ensures.members q l ∙ ap (λ x. has U q && x) (c.below.ensures.members q l)) inv.0
    (λ q l.
    step_done c.loop-p.p-iterator.left.bits c.in-None.ensures.steps.0 (has found) (λ q. not (led_by t steps q)) q l ∙ inv.1 q l)
