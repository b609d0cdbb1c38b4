-- The places of the neighbours are W.
use Rattle.std.proofs.Common.{◌≡◌, ℕ, Bool, replicate, sym, ap, ◌∙◌, ap₂}
use Rattle.bits.specs.Tables.{words}
use Rattle.orientations.specs.Assignments.{W}
use Rattle.orientations.specs.Placing.{places}
use Rattle.orientations.specs.Rows.{lower_neighbours}
use Rattle.sheets.specs.Limits.{limit}
use Rattle.rows.specs.Conflicts.{graph_of, conflicts_lawful}
use Rattle.rows.specs.Directions.{held_to}
use Rattle.rows.specs.Relations.{leads}
use Rattle.rows.proofs.Held.{length_rows}
use Rattle.rows.proofs.Placing.{W_placed, placed_size, placed_buffer}
use Rattle.rows.proofs.levels.Level.of.Goals as goal

pub returns : goal.returns
returns c =
    let d = c.args.directions.now in
    let g = graph_of d.conflicts in
    let o = held_to d c.args.step in
    let N = c.neighbours-neighbours.result.bits in
    let P = places (leads c.ancestors.result) limit limit N in
    let whole : P ≡ W g o =
    ap₂ (λ (R : ℕ → ℕ → Bool) (n : ℕ). places R limit limit n) c.ancestors.ensures.answer
    (c.neighbours-neighbours.ensures ∙ ap (lower_neighbours g) (sym (length_rows (words d.rows) c.args.step)))
    ∙ W_placed g (conflicts_lawful d.conflicts) o in
    let level = c.over.ensures in
    record {
      neighbours = ap (λ m. m.bits) level.neighbours ∙ c.neighbours-neighbours.ensures;
      ancestors = ap leads level.ancestors ∙ c.ancestors.ensures.answer;
      places = placed_buffer P (W g o) (replicate limit 0) _ _ whole level.size level.places;
      size = placed_size P (W g o) (replicate limit 0) _ _ whole level.size level.places;
    }
