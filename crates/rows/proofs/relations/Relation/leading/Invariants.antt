-- What was put in, with what leads to a step that is still to come, is what leads to a step of the set.
use Rattle.std.proofs.Common.{◌≡◌, ℕ, ◌<◌, ◌^◌, ◌||◌}
use Rattle.bits.specs.Sets.{width, has}
use Rattle.bits.specs.Tables.{words}
use Rattle.rows.proofs.Gathering.{leads_to}
use Rattle.rows.proofs.relations.Relation.leading.Given as goal

abbrev pub invariant-loop-p : goal.invariant-loop-p
invariant-loop-p l =
    let t = words l.self.sources in
    (l.all.bits < 2 ^ width) × ((q : ℕ) → (has l.all.bits q || leads_to t l.p-iterator.left.bits q) ≡ leads_to t l.fn.set.bits q)
