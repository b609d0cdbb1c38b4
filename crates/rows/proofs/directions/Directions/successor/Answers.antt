-- The new row and the empty ones above it are the successor's rows.
use Rattle.std.proofs.Common.{◌≡◌, ℕ, ◌+◌, ◌<◌, cond, ◌&&◌, ltb, leb, List, length, get_or, set, Some, None, sym, ap, ◌∙◌, subst, ap₂, arith}
use Rattle.std.proofs.lemmas.List.{map-set, length-map}
use Rattle.bits.specs.declared.Mask.{Mask}
use Rattle.bits.specs.Tables.{words}
use Rattle.orientations.specs.Successors.{lowest}
use Rattle.rows.specs.declared.graph.Conflicts.{Conflicts}
use Rattle.rows.specs.Conflicts.{graph_of}
use Rattle.rows.specs.Directions.{held}
use Rattle.rows.specs.Moves.{rise_of, moved_to}
use Rattle.rows.specs.Relations.{rows_of}
use Rattle.rows.proofs.Held.{length_rows}
use Rattle.rows.proofs.Rising.{none_rises, one_rises, cleared, cleared_all, moved_as, told_some, led_some, told_none, led_none}
use Rattle.rows.proofs.directions.Directions.successor.Goals as goal

pub returns-in-Some : goal.returns-in-Some
returns-in-Some c =
    let d = c.args.self.now in
    let new = c.clear.new.self in
    let g = graph_of d.conflicts in
    let xs = words d.rows in
    let ys = words new.rows in
    let n = d.conflicts.count in
    let few = d.conflicts.few in
    let rise = c.in-Some.rise in
    let inside = c.in-Some.ensures.step in
    let room : rise.step < length xs = simp length-map (omega (arith, inside)) in
    let is : (k : ℕ) → get_or ys k 0 ≡ cond (leb (rise.step + 1) k && ltb k n) 0 (get_or (set xs rise.step rise.row.bits) k 0) =
    λ k. c.clear.ensures.rows k
    ∙ ap₂ (λ (m : ℕ) (rows : List ℕ). cond (leb (rise.step + 1) k && ltb k m) 0 (get_or rows k 0)) c.count-count.ensures
    (map-set (λ (m : Mask). m.bits) d.rows rise.step rise.row) in
    let after = cleared xs ys n rise inside room is in
    let found : rise_of g (held d) ≡ Some rise = sym {b = rise_of g (held d)} c.in-Some.ensures.answer in
    let (next, first, low) = one_rises g xs ys n rise found after.0 in
    let told = told_some g (held d) (rows_of ys n) rise.step next first in
    let led : held new ≡ moved_to g (held d) =
    ap (λ (conflicts : Conflicts). rows_of ys conflicts.count) c.clear.ensures.conflicts ∙ led_some g (held d) (rows_of ys n) next in
    record {
      answer = told;
      conflicts = c.clear.ensures.conflicts;
      after = led;
      below = after.0.kept;
      rest = after.1;
      next = moved_as g (held d) (Some rise.step) (held new) told led;
    }

pub returns-in-None : goal.returns-in-None
returns-in-None c =
    let d = c.args.self.now in
    let new = c.clear-in-None.new.self in
    let g = graph_of d.conflicts in
    let xs = words d.rows in
    let ys = words new.rows in
    let n = d.conflicts.count in
    let found : rise_of g (held d) ≡ None = sym {b = rise_of g (held d)} c.in-None.ensures.answer in
    let none = none_rises g (held d) found in
    let told = told_none g (held d) none in
    let after =
    cleared_all xs ys n
    (subst (λ m. (k : ℕ) → get_or ys k 0 ≡ cond (leb 0 k && ltb k m) 0 (get_or xs k 0)) c.count-count.ensures c.clear-in-None.ensures.rows) in
    let led : held new ≡ moved_to g (held d) =
    ap (λ (conflicts : Conflicts). rows_of ys conflicts.count) c.clear-in-None.ensures.conflicts
    ∙ after.0 ∙ ap lowest (sym (length_rows xs n)) ∙ led_none g (held d) none in
    record {
      answer = told;
      conflicts = c.clear-in-None.ensures.conflicts;
      after = led;
      below = tt;
      rest = after.1;
      next = moved_as g (held d) None (held new) told led;
    }
