-- Rows held in an array, and the relations of the steps below a number, step by step.
-- Assumes nothing.
use Rattle.std.proofs.Common.{◌≡◌, ℕ, zero, suc, ◌+◌, ◌<◌, ◌≤◌, Bool, false, List, ◌∷◌, length, get_or, sym, refl, ap, ◌∙◌, subst, ap₂, inl, inr, not-suc-le-zero, add-one, arith}
use mathlib.Core.Path.{fun_ext}
use Rattle.std.proofs.lemmas.Bool.{cases_eq}
use Rattle.orientations.specs.Rows.{assignment, earlier, Within, AllWithin, lower_neighbours}
use Rattle.orientations.proofs.Neighbours.{later_none, earlier_none}
use Rattle.sheets.specs.Graphs.{Graph}
use Rattle.rows.specs.Relations.{rows_of}

-- ---- rows

pub length_rows : (xs : List ℕ) (n : ℕ) → length (rows_of xs n) ≡ n
unfolding rows_of
length_rows xs zero = refl
length_rows xs (suc n) = ap suc (length_rows xs n)

pub rows_more : (xs : List ℕ) (n : ℕ) → rows_of xs (n + 1) ≡ get_or xs n 0 ∷ rows_of xs n
unfolding rows_of
rows_more xs n = ap (rows_of xs) (add-one n)

-- rows that agree below n
pub rows_same : (xs ys : List ℕ) (n : ℕ) → ((k : ℕ) → k < n → get_or xs k 0 ≡ get_or ys k 0) → rows_of xs n ≡ rows_of ys n
unfolding rows_of
rows_same xs ys zero h = refl
rows_same xs ys (suc n) h = ap₂ (λ (x : ℕ) (o : List ℕ). x ∷ o) (h n (omega arith)) (rows_same xs ys n (λ k l. h k (omega arith)))

-- the rows hold neighbours alone exactly where each does
pub within_from : (g : Graph) (xs : List ℕ) (n : ℕ) → ((k : ℕ) → k < n → Within g k (get_or xs k 0)) → AllWithin g (rows_of xs n)
unfolding rows_of AllWithin
within_from g xs zero h = tt
within_from g xs (suc n) h = (
  within_from g xs n (λ k l. h k (omega arith)),
  subst (λ (k : ℕ). Within g k (get_or xs n 0)) (sym (length_rows xs n)) (h n (omega arith)),
)

pub within_at : (g : Graph) (xs : List ℕ) (n : ℕ) → AllWithin g (rows_of xs n) → (k : ℕ) → k < n → Within g k (get_or xs k 0)
unfolding rows_of AllWithin
within_at g xs zero h k l = absurd (not-suc-le-zero l)
within_at g xs (suc n) h k l =
    elim (cases_eq k n) [
      | inl e ↦ subst (λ (j : ℕ). Within g j (get_or xs j 0)) (sym e) (subst (λ (j : ℕ). Within g j (get_or xs n 0)) (length_rows xs n) h.1)
      | inr e ↦ within_at g xs n h.0 k (omega arith)
    ]

-- ---- relations

-- H is a relation on the steps that have rows, to which F adds one step, and a step without neighbours nothing
module _ (g : Graph) (F : (ℕ → ℕ → Bool) → ℕ → (ℕ → Bool) → (ℕ → Bool) → ℕ → ℕ → Bool) (H : List ℕ → ℕ → ℕ → Bool)
    (adds : (a : ℕ) (o : List ℕ) (q p : ℕ) → H (a ∷ o) q p ≡ F (H o) (length o) (earlier g (length o) a) (assignment g (length o) a) q p)
    (idle : (R : ℕ → ℕ → Bool) (i : ℕ) (E L : ℕ → Bool) → ((r : ℕ) → E r ≡ false) → ((r : ℕ) → L r ≡ false) → (q p : ℕ) → F R i E L q p ≡ R q p) where
  -- one step more: R' is R with step i added
  pub step_more : (rows : List ℕ) (R R' : ℕ → ℕ → Bool) (i : ℕ) → R ≡ H (rows_of rows i)
      → R' ≡ F R i (earlier g i (get_or rows i 0)) (assignment g i (get_or rows i 0)) → R' ≡ H (rows_of rows (i + 1))
  step_more rows R R' i known more =
      more ∙ fun_ext (λ q. fun_ext (λ p. at q p)) ∙ ap H (sym (rows_more rows i))
    where
      a : ℕ
      a = get_or rows i 0

      at : (q p : ℕ) → F R i (earlier g i a) (assignment g i a) q p ≡ H (a ∷ rows_of rows i) q p
      at q p =
          ap (λ (R : ℕ → ℕ → Bool). F R i (earlier g i a) (assignment g i a) q p) known
          ∙ ap (λ (k : ℕ). F (H (rows_of rows i)) k (earlier g k a) (assignment g k a) q p) (sym (length_rows rows i))
          ∙ sym (adds a (rows_of rows i) q p)

  -- steps without neighbours can be left out at the top
  pub held_past : (rows : List ℕ) (m n : ℕ) → m ≤ n → ((i : ℕ) → m ≤ i → i < n → 0 ≡ lower_neighbours g i) → H (rows_of rows n) ≡ H (rows_of rows m)
  unfolding rows_of
  held_past rows m zero h none = ap (λ (k : ℕ). H (rows_of rows k)) (let z : 0 ≡ m = omega arith in z)
  held_past rows m (suc n) h none =
      elim (cases_eq m (suc n)) [
        | inl e ↦ ap (λ (k : ℕ). H (rows_of rows k)) (sym e)
        | inr e ↦
            let o = rows_of rows n in
            let empty : 0 ≡ lower_neighbours g (length o) = let z = length_rows rows n in none (length o) (omega arith) (omega arith) in
            fun_ext
            (λ q. fun_ext
            (λ p.
            adds (get_or rows n 0) o q p
            ∙ idle (H o) (length o) _ _ (earlier_none g (length o) (get_or rows n 0) empty) (later_none g (length o) (get_or rows n 0) empty) q p))
            ∙ held_past rows m n (omega arith) (λ i l k. none i l (omega arith))
      ]
