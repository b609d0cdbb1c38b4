-- Each turn puts in what leads to the step that came.
use Rattle.std.proofs.Common.{◌≡◌, ℕ, ◌||◌, ◌&&◌, Bool, ap, ◌∙◌, arith}
use Rattle.std.proofs.lemmas.Bool.{lt-ltb}
use Rattle.std.proofs.Math.Bool.{and-true}
use Rattle.sheets.specs.Limits.{limit}
use Rattle.bits.specs.declared.Mask.{Mask}
use Rattle.bits.specs.Sets.{width, has}
use Rattle.bits.specs.Tables.{words}
use Rattle.bits.proofs.Sets.{has_none, mask_is}
use Rattle.bits.proofs.Tables.{words_long}
use Rattle.rows.proofs.Gathering.{leads_to, leads_from_steps, leading_more, leading_all}
use Rattle.rows.proofs.relations.Relation.leading.Goals as goal

pub loop-p-init : goal.loop-p-init
loop-p-init c =
    let t = words c.args.self.now.sources in
    let into = c.into_iter-p-iterator in (
      omega arith,
      λ q.
          ap (λ x. x || leads_to t into.result.left.bits q) (has_none q) ∙ ap (λ (m : Mask). leads_to t m.bits q) into.ensures.into_iter_gives
          ∙ leads_from_steps t c.args.set.bits c.intersection-steps.result.bits
          (λ p l. c.intersection-steps.ensures.members p (omega arith) ∙ ap (λ (x : Bool). has c.args.set.bits p && x) (c.below.ensures.members p (omega arith) ∙ lt-ltb p limit l) ∙ and-true (has c.args.set.bits p)) q,
    )

pub loop-p-preserved : goal.loop-p-preserved
loop-p-preserved c =
    let sources = c.args.self.now.sources in
    let inv = c.loop-p.invariant in (
      omega arith,
      λ q.
          leading_more (words sources) (words_long sources _ (omega arith)) c.loop-p.p-iterator.left.bits c.next.new.self.left.bits c.in-Some.p
          c.sources_of.result.bits c.loop-p.all.bits c.union-all.result.bits c.in-Some.ensures.steps c.sources_of.ensures (omega arith) inv.0
          c.union-all.ensures.answer q
          ∙ inv.1 q,
    )

pub returns : goal.returns
returns c =
    let t = words c.args.self.now.sources in
    let all = c.loop-p.all.bits in
    let inv = c.loop-p.invariant in
    let members : (q : ℕ) → has all q ≡ leads_to t c.args.set.bits q =
    λ q. leading_all t c.loop-p.p-iterator.left.bits all c.in-None.ensures.steps.0 q ∙ inv.1 q in
    record { answer = mask_is width all _ inv.0 (λ q l. members q); members = members }
