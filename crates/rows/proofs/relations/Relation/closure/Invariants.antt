-- The closure so far as it looks at the steps below the one that is looked at next.
use Rattle.std.proofs.Common.{◌≡◌}
use Rattle.bits.specs.Tables.{words}
use Rattle.rows.proofs.Gathering.{closed_to}
use Rattle.rows.proofs.relations.Relation.closure.Given as goal

abbrev pub invariant-loop-p : goal.invariant-loop-p
invariant-loop-p l = l.all.bits ≡ closed_to (words l.self.sources) l.set.bits l.p
