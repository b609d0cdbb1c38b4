-- One step over an acyclic orientation: its list W, and its legal assignments from the lowest to the highest.
-- Assumes nothing.
use Rattle.std.proofs.Common.{◌≡◌, ℕ, Bool, true, false, ◌⊎◌, List, length, Some, None, Option, sym, ◌∙◌, inl, inr}
use mathlib.Core.Path.{fun_ext}
use Rattle.std.proofs.lemmas.Bool.{both_ways, cases_Bool}
use Rattle.bits.specs.Sets.{has, mask_of}
use Rattle.bits.proofs.Sets.{has_none, has_all, mask_ext}
use Rattle.bits.proofs.Tests.{same_tests}
use Rattle.sheets.specs.Graphs.{Graph}
use Rattle.orientations.specs.Rows.{assignment, ancestor, Sound, Legal, lower_neighbours}
use Rattle.orientations.specs.Assignments.{W, last_zero, rise, LowerRow, next_row}
use Rattle.orientations.specs.Theorems.{W_lists, RowsOrdered, NextRow, RowsRise, RowsEnd}
use Rattle.orientations.proofs.Neighbours.{neighbour_below, later_parts, later_from, within_is}
use Rattle.orientations.proofs.Chains.{join, ancestor_is}
use Rattle.orientations.proofs.Standing.{In}
use Rattle.orientations.proofs.Counts.{count_le}
use Rattle.orientations.proofs.Placed.{rooted, places_placed, Placed}
use Rattle.orientations.proofs.Raising.{LastZero, last_zero_is, lower_is, lower_asym, lower_tra, lower_tri, Ordered, Closed, w_once, in_w, w_in, next, next_closed, next_above, next_least}

module _ (g : Graph) (o : List ℕ) (s : Sound g o) where
  -- no step is its own ancestor
  pub irr : (p : ℕ) → ancestor g o p p ≡ false
  irr p = elim (cases_Bool (ancestor g o p p)) [ inl e ↦ absurd (s.1 p ((ancestor_is g o p p).0 e)) | inr e ↦ e ]

  -- an ancestor of an ancestor is one
  pub tra : (q r p : ℕ) → ancestor g o q r ≡ true → ancestor g o r p ≡ true → ancestor g o q p ≡ true
  tra q r p d e = (ancestor_is g o q p).1 (join ((ancestor_is g o q r).0 d) ((ancestor_is g o r p).0 e))

  placed : Placed (ancestor g o) (lower_neighbours g (length o)) (W g o)
  unfolding W
  placed =
      places_placed (ancestor g o) (length o) (rooted (ancestor g o) (length o) irr tra) (length o) (lower_neighbours g (length o))
      (neighbour_below g (length o)) (count_le (length o) (has (lower_neighbours g (length o))))

  pub ordered : Ordered (ancestor g o) (length o) (lower_neighbours g (length o)) (W g o)
  ordered = record { below = neighbour_below g (length o); tra = tra; once = placed.once; after = placed.after }

pub w_lists : W_lists
w_lists g o s = ((placed g o s).once, λ q p x y c. (placed g o s).after q p x y ((ancestor_is g o q p).1 c))

module _ (g : Graph) (o : List ℕ) where
  -- a legal row's assignment is closed
  legal_closed : (a : ℕ) → Legal g o a → Closed (ancestor g o) (lower_neighbours g (length o)) (assignment g (length o) a)
  legal_closed a l = (
    λ p e. (later_parts g (length o) a p e).0,
    λ q p nq np r e. later_from g (length o) a p np (l.1 q p nq np ((ancestor_is g o q p).0 r) (later_parts g (length o) a q e).1),
  )

  -- and a closed assignment, as a row, is legal
  closed_legal : (f : ℕ → Bool) → Closed (ancestor g o) (lower_neighbours g (length o)) f → Legal g o (mask_of (length o) f)
  closed_legal f l =
      let is = has_all (length o) f (λ p e. neighbour_below g (length o) p (l.0 p e)) in
      (λ p e. l.0 p (sym (is p) ∙ e), λ q p nq np c e. is p ∙ l.1 q p nq np ((ancestor_is g o q p).1 c) (sym (is q) ∙ e))

  -- the row of an assignment to neighbours gives it back
  assigned_back : (f : ℕ → Bool) → ((p : ℕ) → f p ≡ true → has (lower_neighbours g (length o)) p ≡ true)
      → assignment g (length o) (mask_of (length o) f) ≡ f
  assigned_back f w =
      let is = has_all (length o) f (λ p e. neighbour_below g (length o) p (w p e)) in
      within_is g (length o) (mask_of (length o) f) (λ p e. w p (sym (is p) ∙ e)) ∙ fun_ext is

  module _ (s : Sound g o) (a : ℕ) (l : Legal g o a) where
    -- the next row after a, which rises at j
    risen : (j : ℕ) → LastZero (W g o) (assignment g (length o) a) (Some j)
        → NextRow g o a
        (Some (mask_of (length o) (next (ancestor g o) (length o) (lower_neighbours g (length o)) (W g o) (assignment g (length o) a) j)))
    risen j (jw, fj, ones) =
        let L = ordered g o s in
        let c = legal_closed a l in
        let f = assignment g (length o) a in
        let n : ℕ → Bool = next (ancestor g o) (length o) (lower_neighbours g (length o)) (W g o) f j in
        let nc : Closed (ancestor g o) (lower_neighbours g (length o)) n = next_closed L f c j jw fj ones in
        let back : assignment g (length o) (mask_of (length o) n) ≡ n = assigned_back n nc.0 in (
          closed_legal n nc,
          rw back (next_above L f c j jw fj ones),
          λ k. both_ways (f j) fj (later_from g (length o) a j (w_in L j jw) (rw k (w_in L j jw))),
          λ d k x y. next_least L f c j jw fj ones (assignment g (length o) d) (legal_closed d k) x (rw back at y),
        )

    unrisen : LastZero (W g o) (assignment g (length o) a) None → NextRow g o a None
    unrisen h = (
      mask_ext a (lower_neighbours g (length o))
          (λ p. same_tests _ _ (l.0 p) (λ e. (later_parts g (length o) a p (h p (in_w (ordered g o s) p e))).1)),
      λ c k e.
          let (t, (tw, ft, gt, eq)) = lower_is (W g o) (assignment g (length o) a) (assignment g (length o) c) e in
          both_ways _ ft (h t tw),
    )

    row_rises : NextRow g o a (next_row g o a)
    unfolding next_row rise
    row_rises = go (last_zero (W g o) (assignment g (length o) a)) (last_zero_is (W g o) (assignment g (length o) a) (w_once (ordered g o s)))
      where
        go : (z : Option ℕ) → LastZero (W g o) (assignment g (length o) a) z
            → NextRow g o a
            (elim z [
              | None ↦ None
              | Some j ↦ Some (mask_of (length o) (next (ancestor g o) (length o) (lower_neighbours g (length o)) (W g o) (assignment g (length o) a) j))
            ])
        go None h = unrisen h
        go (Some j) h = risen j h

  pub zero_legal : Legal g o 0
  zero_legal = (λ p e. absurd (both_ways _ (has_none p) e), λ q p nq np c e. absurd (both_ways _ (has_none q) e))

  pub ones_legal : Legal g o (lower_neighbours g (length o))
  ones_legal = (λ p e. e, λ q p nq np c e. np)

-- of two legal rows one is the lower, unless they are equal
pub row_total : (g : Graph) (o : List ℕ) → Sound g o → (a b : ℕ) → Legal g o a → Legal g o b
    → (a ≡ b) ⊎ (LowerRow g o a b ⊎ LowerRow g o b a)
row_total g o s a b la lb =
    elim (lower_tri (W g o) (assignment g (length o) a) (assignment g (length o) b)) [
      | inl h ↦ inr (inl h)
      | inr (inl h) ↦ inr (inr h)
      | inr (inr h) ↦ inl (mask_ext a b (λ p. same_tests _ _ (moves a b la h p) (moves b a lb (λ q i. sym (h q i)) p)))
    ]
  where
    -- where they agree along W, what is in one is in the other
    moves : (a b : ℕ) → Legal g o a → ((p : ℕ) → In (W g o) p → assignment g (length o) a p ≡ assignment g (length o) b p)
        → (p : ℕ) → has a p ≡ true → has b p ≡ true
    moves a b l h p e =
        let n = l.0 p e in
        (later_parts g (length o) b p (sym (h p (in_w (ordered g o s) p n)) ∙ later_from g (length o) a p n e)).1

pub rows_ordered : RowsOrdered
rows_ordered g o s = (
  λ a h. lower_asym (W g o) (assignment g (length o) a) (assignment g (length o) a) h h,
  λ a b c h k. lower_tra (W g o) (assignment g (length o) a) (assignment g (length o) b) (assignment g (length o) c) h k,
  row_total g o s,
)

pub rows_rise : RowsRise
rows_rise g o s a l = row_rises g o s a l

pub rows_end : RowsEnd
rows_end g o s = (
  (
    zero_legal g o,
    λ c e.
        let (t, (tw, ft, gt, eq)) = lower_is (W g o) (assignment g (length o) c) (assignment g (length o) 0) e in
        both_ways _ (has_none t) (later_parts g (length o) 0 t gt).1,
  ),
  (
    ones_legal g o,
    λ c e.
        let N = lower_neighbours g (length o) in
        let (t, (tw, ft, gt, eq)) = lower_is (W g o) (assignment g (length o) N) (assignment g (length o) c) e in
        let n = w_in (ordered g o s) t tw in
        both_ways _ ft (later_from g (length o) N t n n),
  ),
)
