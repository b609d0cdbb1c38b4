-- What was put in, with the candidates among the steps that are still to come, are the candidates among the steps.
use Rattle.std.proofs.Common.{◌≡◌, ℕ, ◌<◌, ◌^◌, not, ◌&&◌, ◌||◌}
use Rattle.bits.specs.Sets.{width, has}
use Rattle.bits.specs.Tables.{words}
use Rattle.rows.proofs.Gathering.{led_by}
use Rattle.rows.proofs.relations.Relation.candidates.Given as goal

abbrev pub invariant-loop-p : goal.invariant-loop-p
invariant-loop-p l =
    let steps = l.steps.bits in
    let free = λ (q : ℕ). not (led_by (words l.self.sources) steps q) in
    (l.found.bits < 2 ^ width) × ((q : ℕ) → q < width → (has l.found.bits q || (has l.p-iterator.left.bits q && free q)) ≡ (has steps q && free q))
