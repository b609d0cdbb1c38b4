-- A row holds neighbours alone exactly where nothing is left of it without them.
use Rattle.std.proofs.Common.{◌≡◌, ℕ, ◌<◌, ◌^◌, false, not, ◌&&◌, ◌↔◌, IsTrue, ap, sym, ◌∙◌, subst, inl, inr, arith}
use Rattle.std.proofs.lemmas.Bool.{both_ways, cases_Bool, not-true, not_from_false, and_from, and_parts}
use Rattle.std.proofs.lemmas.Bool.{false_from_ne_true}
use Rattle.bits.specs.Sets.{width, has, mask_of}
use Rattle.bits.proofs.Sets.{Narrow, narrow, has_mask, has_in}
use Rattle.orientations.specs.Rows.{Within, lower_neighbours}
use Rattle.sheets.specs.Graphs.{Graph}
use Rattle.rows.specs.Conflicts.{graph_of}
use Rattle.rows.proofs.directions.Directions.holds_neighbours.Goals as goal

-- D is what the row a of step i holds beside its neighbours N
module _ (g : Graph) (i a N D : ℕ) (is_N : N ≡ lower_neighbours g i) (is_D : D ≡ mask_of width (λ q. has a q && not (has N q))) where
  none_beside : Narrow a → ((q : ℕ) → has D q ≡ false) → Within g i a
  none_beside low none p e =
      ap (λ (m : ℕ). has m p) (sym is_N)
      ∙ elim (cases_Bool (has N p)) [
        | inl h ↦ h
        | inr h ↦
            absurd
            (both_ways (has D p) (none p)
            (ap (λ (m : ℕ). has m p) is_D ∙ has_mask width _ p (low p e) ∙ and_from (has a p) (not (has N p)) e (not_from_false _ h)))
      ]

  nothing_left : Within g i a → (q : ℕ) → has D q ≡ false
  nothing_left w q =
      false_from_ne_true (has D q)
      (λ e.
      let h = (has_in width _ q (ap (λ (m : ℕ). has m q) (sym is_D) ∙ e)).1 in
      let (x, y) = and_parts (has a q) (not (has N q)) h in
      both_ways (has N q) (not-true _ y) (ap (λ (m : ℕ). has m q) is_N ∙ w q x))

pub returns : goal.returns
returns c =
    let g = graph_of c.args.self.now.conflicts in
    let step = c.args.step in
    let a = c.row.result.bits in
    let N = c.neighbours.result.bits in
    let D = c.difference.result.bits in
    let low : a < 2 ^ width = omega arith in
    let empty = c.is_empty.ensures.members in
    subst (λ m. IsTrue c.is_empty.result ↔ Within g step m) c.row.ensures (
      λ e. none_beside g step a N D c.neighbours.ensures c.difference.ensures.answer (narrow a low) (empty.0 e),
      λ w. empty.1 (nothing_left g step a N D c.neighbours.ensures c.difference.ensures.answer w),
    )
