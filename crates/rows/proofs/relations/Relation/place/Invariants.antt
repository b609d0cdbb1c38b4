-- The places so far are written, and what comes after them is placed from what is left.
use Rattle.std.proofs.Common.{◌≡◌, ◌-◌, length, drop}
use Rattle.orientations.specs.Placing.{places}
use Rattle.sheets.specs.Limits.{limit}
use Rattle.rows.specs.Relations.{leads}
use Rattle.rows.proofs.Placing.{Written}
use Rattle.rows.proofs.relations.Relation.place.Given as goal

abbrev pub invariant-loop-k : goal.invariant-loop-k
invariant-loop-k l =
    let R = leads l.self in
    let n = length l.initial.out in
    Written (places R limit n l.fn.set.bits) l.initial.out l.out l.k
    × (drop l.k (places R limit n l.fn.set.bits) ≡ places R limit (n - l.k) l.unplaced.bits)
