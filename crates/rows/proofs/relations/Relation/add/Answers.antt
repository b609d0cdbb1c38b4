-- The entry of p gets the steps of `more`.
use Rattle.std.proofs.Common.{ap, ◌∙◌, arith}
use Rattle.std.proofs.lemmas.List.{map-set}
use Rattle.bits.specs.declared.Mask.{Mask}
use Rattle.bits.specs.Tables.{words}
use Rattle.bits.proofs.Tables.{words_long}
use Rattle.rows.specs.Relations.{leads_in}
use Rattle.rows.proofs.Gathering.{entry_gets}
use Rattle.rows.proofs.relations.Relation.add.Goals as goal

pub returns-then-p-lt-LIMIT : goal.returns-then-p-lt-LIMIT
returns-then-p-lt-LIMIT c q r =
    let sources = c.args.self.now.sources in
    let p = c.args.p in
    ap (λ t. leads_in t q r) (map-set (λ (m : Mask). m.bits) sources p c.union.result)
    ∙ entry_gets (words sources) p c.sources_of.result.bits c.args.more.bits c.union.result.bits (omega arith) (words_long sources _ (omega arith))
    c.sources_of.ensures (omega arith) (omega arith) c.union.ensures.answer q r
