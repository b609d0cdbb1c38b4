-- The lowest step where two orientations differ, and the one that the successor changes.
-- Assumes nothing.
use Rattle.std.proofs.Common.{◌≡◌, ℕ, suc, ◌<◌, ◌≤◌, List, [], ◌∷◌, length, Some, None, Option, sym, refl, ap, ◌∙◌, subst, inl, inr, arith}
use Rattle.std.proofs.lemmas.Bool.{eq-eqb, ne_eqb, lt-ltb, le-ltb, cases_eq}
use Rattle.sheets.specs.Graphs.{Graph}
use Rattle.orientations.specs.Rows.{row, under, assignment, Sound}
use Rattle.orientations.specs.Assignments.{W, LowerRow, next_row}
use Rattle.orientations.specs.Successors.{Changed, Lower, successor, changed}
use Rattle.orientations.specs.Theorems.{NextRow, LowerReads}
use Rattle.orientations.proofs.Raising.{lower_asym}
use Rattle.orientations.proofs.Levels.{rows_rise}
use Rattle.orientations.proofs.Comparing.{parts, Then, then_of}

pub row_top : (a : ℕ) (o : List ℕ) → row (a ∷ o) (length o) ≡ a
unfolding row
row_top a o = rw (eq-eqb (length o) (length o) refl)

pub row_under : (a : ℕ) (o : List ℕ) (k : ℕ) → k < length o → row (a ∷ o) k ≡ row o k
unfolding row
row_under a o k h = rw (ne_eqb k (length o) (omega arith))

-- from o to the answer of `successor`, c is the lowest step that changes
abbrev Moves : List ℕ → ℕ → Option (List ℕ) → Type 0
Moves o c (Some p) = Changed o p c
Moves o c None = Unit {0}

module _ (g : Graph) where
  moves : (o : List ℕ) → Sound g o → Moves o (changed g o) (successor g o)
  unfolding changed successor
  moves [] s = tt
  moves (a ∷ o) s =
      go (next_row g o a) (rows_rise g o (parts g a o s).0 a (parts g a o s).1) (successor g o) (then_of g o (parts g a o s).0)
      (moves o (parts g a o s).0)
    where
      go : (r : Option ℕ) → NextRow g o a r → (n : Option (List ℕ)) → Then g o n → Moves o (changed g o) n
          → Moves (a ∷ o) (elim r [ Some b ↦ length o | None ↦ changed g o ])
          (elim r [ Some b ↦ Some (b ∷ o) | None ↦ elim n [ Some p ↦ Some (0 ∷ p) | None ↦ None ] ])
      go (Some b) h n k m = (
        omega arith,
        λ e.
            let d : a ≡ b = sym (row_top a o) ∙ e ∙ row_top b o in
            let z = rw d at h.1 in
            lower_asym (W g o) (assignment g (length o) b) (assignment g (length o) b) z z,
        λ k lt. row_under a o k lt ∙ sym (row_under b o k lt),
      )
      go None h None k m = tt
      go None h (Some p) (sp, len, op, least) (lt, ne, eq) = (
        omega arith,
        λ e. ne (sym (row_under a o _ lt) ∙ e ∙ row_under 0 p _ (omega arith)),
        λ k l. row_under a o k (omega arith) ∙ eq k l ∙ sym (row_under 0 p k (omega arith)),
      )

  pub changed_lowest : (o p : List ℕ) → Sound g o → successor g o ≡ Some p → Changed o p (changed g o)
  changed_lowest o p s e = subst (Moves o (changed g o)) e (moves o s)

-- ---- o is lower than p, read step by step

under_all : (o : List ℕ) (k : ℕ) → length o ≤ k → under o k ≡ o
unfolding under
under_all [] k h = refl
under_all (a ∷ o) k h = rw (le-ltb k (length (a ∷ o)) h)

under_one : (a : ℕ) (o : List ℕ) (k : ℕ) → k ≤ length o → under (a ∷ o) k ≡ under o k
unfolding under
under_one a o k h = rw (lt-ltb k (length (a ∷ o)) (omega arith))

under_top : (a : ℕ) (o : List ℕ) → under (a ∷ o) (length o) ≡ o
under_top a o = under_one a o (length o) (omega arith) ∙ under_all o (length o) (omega arith)

module _ (g : Graph) where
  abbrev Differ : List ℕ → List ℕ → Type 0
  Differ o p =
      (length o ≡ length p) × ((k : ℕ) × (k < length o) × (under o k ≡ under p k) × LowerRow g (under o k) (row o k) (row p k))

  differ : (o p : List ℕ) → Lower g o p → Differ o p
  unfolding Lower
  differ [] p h = absurd h
  differ (a ∷ o) [] h = absurd h
  differ (a ∷ o) (b ∷ p) (inl h) =
      let (e, (k, lt, u, l)) = differ o p h in (
        ap suc e,
        (
          k,
          omega arith,
          under_one a o k (omega arith) ∙ u ∙ sym (under_one b p k (omega arith)),
          rw (under_one a o k (omega arith), row_under a o k lt, row_under b p k (omega arith)) l,
        ),
      )
  differ (a ∷ o) (b ∷ p) (inr (e, l)) =
      let n : length o ≡ length p = ap length e in (
        ap suc n,
        (
          length o,
          omega arith,
          under_top a o ∙ e ∙ sym (rw n (under_top b p)),
          rw (under_top a o, row_top a o) (rw (ap (row (b ∷ p)) n ∙ row_top b p) l),
        ),
      )

  differ_back : (o p : List ℕ) → Differ o p → Lower g o p
  unfolding Lower
  differ_back [] p h = absurd (let z = h.1.1 in omega arith)
  differ_back (a ∷ o) [] h = absurd (let z = h.0 in omega arith)
  differ_back (a ∷ o) (b ∷ p) (e, (k, lt, u, l)) =
      let n : length o ≡ length p = omega arith in
      elim (cases_eq k (length o)) [
        | inl s ↦
            let tb : under (b ∷ p) (length o) ≡ p = rw n (under_top b p) in
            let rb : row (b ∷ p) (length o) ≡ b = ap (row (b ∷ p)) n ∙ row_top b p in
            inr (sym (under_top a o) ∙ (rw s at u) ∙ tb, rw (s, under_top a o, row_top a o, rb) at l)
        | inr s ↦
            inl
            (differ_back o p (
              n,
              (
                k,
                omega arith,
                sym (under_one a o k (omega arith)) ∙ u ∙ under_one b p k (omega arith),
                rw (under_one a o k (omega arith), row_under a o k (omega arith), row_under b p k (omega arith)) at l,
              ),
            ))
      ]

pub lower_reads : LowerReads
lower_reads g o p = (differ g o p, differ_back g o p)
