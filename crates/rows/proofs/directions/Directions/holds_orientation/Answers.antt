-- Each row holds neighbours alone, and the arrows decide the rest.
use Rattle.std.proofs.Common.{◌≡◌, ℕ, ◌<◌, Bool, true, false, ◌↔◌, get_or, IsTrue, refl, arith, rules}
use Rattle.std.proofs.lemmas.Bool.{both_ways}
use Rattle.bits.specs.Tables.{words}
use Rattle.orientations.specs.Arrows.{Acyclic}
use Rattle.orientations.specs.Rows.{arrow, Within, Orients}
use Rattle.rows.specs.declared.directions.Directions.{Directions}
use Rattle.rows.specs.Conflicts.{graph_of}
use Rattle.rows.specs.Directions.{held}
use Rattle.rows.proofs.Held.{length_rows, within_from, within_at}
use Rattle.rows.proofs.Ranging.{all_below}
use Rattle.rows.proofs.directions.Directions.holds_orientation.Goals as goal

-- the row of a step holds neighbours alone
abbrev Alone : Directions → ℕ → Type 0
Alone d k = Within (graph_of d.conflicts) k (get_or (words d.rows) k 0)

-- r tells whether each of the n rows does
module _ (d : Directions) (n : ℕ) (r : Bool) (is : n ≡ d.conflicts.count) (each : IsTrue r ↔ ((k : ℕ) → k < n → Alone d k)) where
  oriented : (a : Bool) → IsTrue a ↔ Acyclic (arrow (graph_of d.conflicts) (held d)) → r ≡ true → IsTrue a ↔ Orients (graph_of d.conflicts) (held d)
  oriented a tells on = (
    λ e. record {
      full = length_rows (words d.rows) d.conflicts.count;
      sound = (within_from (graph_of d.conflicts) (words d.rows) d.conflicts.count (λ k l. each.0 on k (omega arith)), tells.0 e);
    },
    λ holds. tells.1 holds.sound.1,
  )

  stray : r ≡ false → IsTrue r ↔ Orients (graph_of d.conflicts) (held d)
  stray off = (
    λ e. absurd (both_ways r off e),
    λ holds. each.1 (λ k l. within_at (graph_of d.conflicts) (words d.rows) d.conflicts.count holds.sound.0 k (omega arith)),
  )

pub returns-then-all : goal.returns-then-all
returns-then-all c =
    let d = c.args.self.now in
    let n = c.count.result in
    oriented d n c.all.result c.count.ensures
    (all_below (Alone d) n _ _ c.all.result c.all.ensures.ran refl (λ x q k. search rules) (λ x q k. search rules)) c.is_acyclic.result
    c.is_acyclic.ensures c.if-all.true

pub returns-else-all : goal.returns-else-all
returns-else-all c =
    let d = c.args.self.now in
    let n = c.count.result in
    stray d n c.all.result c.count.ensures
    (all_below (Alone d) n _ _ c.all.result c.all.ensures.ran refl (λ x q k. search rules) (λ x q k. search rules)) c.if-all.false
