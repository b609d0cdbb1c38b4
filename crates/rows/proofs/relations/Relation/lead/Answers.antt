-- Each turn lets the steps of `more` lead to the step that came.
use Rattle.std.proofs.Common.{ap, ◌∙◌}
use Rattle.bits.specs.declared.Mask.{Mask}
use Rattle.rows.specs.Relations.{leads}
use Rattle.rows.proofs.Gathering.{leads_yet, lead_more, lead_all}
use Rattle.rows.proofs.relations.Relation.lead.Goals as goal

pub loop-p-init : goal.loop-p-init
loop-p-init c q p = ap (λ (m : Mask). leads_yet (leads c.args.self.now) m.bits c.args.more.bits q p) c.into_iter-p-iterator.ensures.into_iter_gives

pub loop-p-preserved : goal.loop-p-preserved
loop-p-preserved c q p =
    lead_more (leads c.loop-p.self) (leads c.add.new.self) c.loop-p.p-iterator.left.bits c.next.new.self.left.bits c.args.more.bits c.in-Some.p
    c.in-Some.ensures.steps c.add.ensures q p
    ∙ c.loop-p.invariant q p

pub returns : goal.returns
returns c q p =
    lead_all (leads c.loop-p.self) c.loop-p.p-iterator.left.bits c.args.more.bits c.in-None.ensures.steps.0 q p ∙ c.loop-p.invariant q p
