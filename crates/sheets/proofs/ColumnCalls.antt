-- What the column sheet's calls do to its list of footprints, over the table xs and the count n.
-- Assumes nothing.
use Rattle.std.proofs.Common.{◌≡◌, ℕ, ◌+◌, ◌-◌, ◌<◌, ◌≤◌, Bool, true, cond, not, ◌&&◌, eqb, ltb, List, [], ◌∷◌, ◌++◌, length, get_or, take, set, Decides, sym, ap, ◌∙◌, inl, inr, arith, length-take-le, get_or-take}
use lib.Seq.{take-set-lt, set-get_or}
use Rattle.std.proofs.lemmas.List.{take_more_set}
use Rattle.std.proofs.lemmas.Bool.{lt-ltb, ltb-true, eqb-false, ne_eqb, and_parts, and_from, cases_Bool, cond-true, cond-false, not-true, not_from_false}
use Rattle.sheets.specs.declared.footprints.Footprint.{Footprint}
use Rattle.sheets.specs.Limits.{limit}
use Rattle.sheets.specs.Refusals.{settled}
use Rattle.sheets.specs.Footprints.{blank, column_refusal, meeting}
use Rattle.sheets.specs.Columns.{column_clash, ClashInColumn, add_refusal, after_add, note_refusal, change_latest, after_note}
use Rattle.sheets.proofs.Meetings.{meets_in_column}

-- the calls, over the table xs and the count n
module _ (xs : List Footprint) (n : ℕ) (whole : length xs ≡ limit) (few : n ≤ limit) where
  counted : length (take n xs) ≡ n
  counted = length-take-le n xs (omega arith)

  pub add_accepted : n < limit → 0 ≡ add_refusal (take n xs)
  add_accepted h = sym (cond-true _ 0 7 (lt-ltb (length (take n xs)) limit (omega (arith, counted))))

  pub added : n < limit → take (n + 1) (set xs n blank) ≡ after_add (take n xs)
  added h =
      take_more_set xs n blank (omega arith)
      ∙ ap (λ (k : ℕ). settled k (take n xs) (take n xs ++ (blank ∷ []))) (add_accepted h)

  -- after the first step the column decides
  pub note_column : (c : ℕ) → 0 < n → column_refusal c ≡ note_refusal (take n xs) c
  note_column c p = sym (cond-false _ 5 (column_refusal c) (ne_eqb (length (take n xs)) 0 (λ z. omega (arith, counted))))

  -- the latest footprint in the table became y: f of it where the column was accepted, else itself
  pub noted : (f : Footprint → Footprint) (c : ℕ) (y : Footprint) → 0 < n
      → y ≡ settled (column_refusal c) (get_or xs (n - 1) blank) (f (get_or xs (n - 1) blank))
      → take n (set xs (n - 1) y) ≡ after_note f c (take n xs)
  noted f c y p e =
      let x : Footprint = get_or xs (n - 1) blank in
      let l : n - 1 < n = omega arith in
      let changed : take n (set xs (n - 1) (f x)) ≡ change_latest f (take n xs) =
      simp (counted, get_or-take n xs (n - 1) blank l) (take-set-lt n xs (n - 1) (f x) l) in
      ap (λ (v : Footprint). take n (set xs (n - 1) v)) e
      ∙ elim (cases_Bool (eqb (column_refusal c) 0)) [
        | inl t ↦
            ap (λ (b : Bool). take n (set xs (n - 1) (cond b (f x) x))) t ∙ changed
            ∙ ap (λ (b : Bool). cond b (change_latest f (take n xs)) (take n xs)) (sym t)
        | inr t ↦
            ap (λ (b : Bool). take n (set xs (n - 1) (cond b (f x) x))) t ∙ ap (take n) (set-get_or xs (n - 1) blank)
            ∙ ap (λ (b : Bool). cond b (change_latest f (take n xs)) (take n xs)) (sym t)
      ]
      ∙ ap (λ (k : ℕ). settled k (take n xs) (change_latest f (take n xs))) (note_column c p)

  -- the same, where the latest step k is known by the count
  pub noted_at : (f : Footprint → Footprint) (c k : ℕ) (y : Footprint) → k + 1 ≡ n
      → y ≡ settled (column_refusal c) (get_or xs k blank) (f (get_or xs k blank)) → take n (set xs k y) ≡ after_note f c (take n xs)
  noted_at f c k y e changed =
      let last : k ≡ n - 1 = omega (arith, e) in
      ap (λ (i : ℕ). take n (set xs i y)) last
      ∙ noted f c y (omega (arith, e)) (changed ∙ ap (λ (i : ℕ). settled (column_refusal c) (get_or xs i blank) (f (get_or xs i blank))) last)

-- two steps clash exactly where they are different and meet in some column
pub clash_in_column : (fs : List Footprint) (i j : ℕ) → Decides (column_clash fs i j) (ClashInColumn fs i j)
clash_in_column fs i j = (to_column, from_column)
  where
    a : Footprint
    a = get_or fs i blank

    b : Footprint
    b = get_or fs j blank

    to_column : column_clash fs i j ≡ true → ClashInColumn fs i j
    to_column e =
        let (both, meet) = and_parts (ltb i (length fs) && ltb j (length fs)) (not (eqb i j) && meeting a b) e in
        let (li, lj) = and_parts (ltb i (length fs)) (ltb j (length fs)) both in
        let (ne, m) = and_parts (not (eqb i j)) (meeting a b) meet in
        (ltb-true i (length fs) li, ltb-true j (length fs) lj, eqb-false i j (not-true (eqb i j) ne), (meets_in_column a b).0 m)

    from_column : ClashInColumn fs i j → column_clash fs i j ≡ true
    from_column (li, lj, ne, m) =
        and_from _ _ (and_from _ _ (lt-ltb i (length fs) li) (lt-ltb j (length fs) lj))
        (and_from _ _ (not_from_false (eqb i j) (ne_eqb i j ne)) ((meets_in_column a b).1 m))
