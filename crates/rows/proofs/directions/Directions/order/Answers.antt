-- All steps, placed by their arrows.
use Rattle.std.proofs.Common.{◌≡◌, ℕ, ◌<◌, Bool, ltb, length, take, sym, ap, ◌∙◌, arith}
use Rattle.bits.specs.Sets.{width, has}
use Rattle.bits.specs.Tables.{words}
use Rattle.orientations.specs.Orders.{order}
use Rattle.orientations.specs.Placing.{places}
use Rattle.orientations.specs.Rows.{arrow}
use Rattle.sheets.specs.Limits.{limit}
use Rattle.rows.specs.Conflicts.{graph_of}
use Rattle.rows.specs.Directions.{held, held_to}
use Rattle.rows.specs.Relations.{leads}
use Rattle.rows.proofs.Held.{length_rows}
use Rattle.rows.proofs.Placing.{order_placed, placed_size, placed_buffer, order_written}
use Rattle.rows.proofs.directions.Directions.order.Goals as goal

pub returns : goal.returns
returns c =
    let d = c.args.self.now in
    let g = graph_of d.conflicts in
    let out = c.args.out.now in
    let U = c.below.result.bits in
    let few = d.conflicts.few in
    let long = length_rows (words d.rows) d.conflicts.count in
    let members : (q : ℕ) → q < width → has U q ≡ ltb q (length (held d)) =
    λ q l. c.below.ensures.members q l ∙ ap (ltb q) (c.count-count.ensures ∙ sym long) in
    let P = places (leads c.arrows.result) limit (length out) U in
    let W = take (length out) (order g (held d)) in
    let whole : P ≡ W =
    ap (λ (R : ℕ → ℕ → Bool). places R limit (length out) U) (c.arrows.ensures ∙ ap (λ n. arrow g (held_to d n)) c.count-count.ensures)
    ∙ order_placed g (held d) (length out) U (omega arith) members in
    let placed = c.place.ensures in
    let k = c.place.result in
    let size = placed_size P W out _ k whole placed.answer placed.buffer in
    let buffer = placed_buffer P W out _ k whole placed.answer placed.buffer in
    record { answer = size; buffer = buffer; follows = λ holds room. order_written g (held d) out _ k size buffer holds room }
