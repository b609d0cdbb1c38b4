-- What leads to a step, or will when all steps of the set have come, stays the same.
use Rattle.std.proofs.Common.{◌≡◌, ℕ}
use Rattle.rows.specs.Relations.{leads}
use Rattle.rows.proofs.Gathering.{leads_yet}
use Rattle.rows.proofs.relations.Relation.lead.Given as goal

abbrev pub invariant-loop-p : goal.invariant-loop-p
invariant-loop-p l =
    let M = l.more.bits in
    (q p : ℕ) → leads_yet (leads l.self) l.p-iterator.left.bits M q p ≡ leads_yet (leads l.initial.self) l.fn.set.bits M q p
