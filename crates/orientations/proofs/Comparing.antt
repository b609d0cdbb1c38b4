-- The order of orientations: strict and total; the successor is the next in it.
-- Assumes nothing.
use Rattle.std.proofs.Common.{◌≡◌, ℕ, zero, suc, ◌⊎◌, List, [], ◌∷◌, length, Some, None, Option, refl, ap, ◌∙◌, subst, ap₂, inl, inr, arith}
use Rattle.sheets.specs.Graphs.{Graph}
use Rattle.orientations.specs.Rows.{assignment, AllWithin, Sound, Legal, lower_neighbours}
use Rattle.orientations.specs.Assignments.{W, LowerRow, next_row}
use Rattle.orientations.specs.Successors.{lowest, highest, Lower, successor}
use Rattle.orientations.specs.Theorems.{LegalAdds, NextRow}
use Rattle.orientations.proofs.Chains.{acyclic_more, no_chain}
use Rattle.orientations.proofs.Raising.{lower_asym, lower_tra}
use Rattle.orientations.proofs.Levels.{zero_legal, ones_legal, row_total, rows_rise, rows_end}

module _ (g : Graph) where
  pub irreflexive : (o : List ℕ) → Lower g o o → ⊥
  unfolding Lower
  irreflexive [] h = h
  irreflexive (a ∷ o) (inl h) = irreflexive o h
  irreflexive (a ∷ o) (inr h) = lower_asym _ _ _ h.1 h.1

  pub transitive : (o p q : List ℕ) → Lower g o p → Lower g p q → Lower g o q
  unfolding Lower
  transitive [] p q h k = absurd h
  transitive (a ∷ o) [] q h k = absurd h
  transitive (a ∷ o) (b ∷ p) [] h k = absurd k
  transitive (a ∷ o) (b ∷ p) (c ∷ q) (inl h) (inl k) = inl (transitive o p q h k)
  transitive (a ∷ o) (b ∷ p) (c ∷ q) (inl h) (inr k) = inl (rw k.0 at h)
  transitive (a ∷ o) (b ∷ p) (c ∷ q) (inr h) (inl k) = inl (rw h.0 k)
  transitive (a ∷ o) (b ∷ p) (c ∷ q) (inr h) (inr k) =
      inr (h.0 ∙ k.0, lower_tra (W g o) (assignment g (length o) a) (assignment g (length o) b) (assignment g (length o) c) h.1 (rw (← h.0) at k.1))

  -- an orientation with a row more is one below it with a legal row
  pub parts : (a : ℕ) (o : List ℕ) → Sound g (a ∷ o) → Sound g o × Legal g o a
  unfolding AllWithin
  parts a o s =
      let h = (acyclic_more g a o s.0.1).0 s.1 in
      ((s.0.0, h.0), h.1)

  pub whole : (a : ℕ) (o : List ℕ) → Sound g o → Legal g o a → Sound g (a ∷ o)
  unfolding AllWithin
  whole a o s l = ((s.0, l.0), (acyclic_more g a o l.0).1 (s.1, l))

  same_tail : (a b : ℕ) (o : List ℕ) → Sound g (a ∷ o) → Sound g (b ∷ o)
      → (◌≡◌ {A = List ℕ} (a ∷ o) (b ∷ o)) ⊎ (Lower g (a ∷ o) (b ∷ o) ⊎ Lower g (b ∷ o) (a ∷ o))
  unfolding Lower
  same_tail a b o s t =
      elim (row_total g o (parts a o s).0 a b (parts a o s).1 (parts b o t).1) [
        | inl e ↦ inl (ap (λ (x : ℕ). x ∷ o) e)
        | inr (inl h) ↦ inr (inl (inr (refl, h)))
        | inr (inr h) ↦ inr (inr (inr (refl, h)))
      ]

  pub total : (o p : List ℕ) → Sound g o → Sound g p → length o ≡ length p → (o ≡ p) ⊎ (Lower g o p ⊎ Lower g p o)
  unfolding Lower
  total [] [] s t e = inl refl
  total [] (b ∷ p) s t e = absurd (omega arith)
  total (a ∷ o) [] s t e = absurd (omega arith)
  total (a ∷ o) (b ∷ p) s t e =
      elim (total o p (parts a o s).0 (parts b p t).0 (omega arith)) [
        | inl d ↦ tails d
        | inr (inl h) ↦ inr (inl (inl h))
        | inr (inr h) ↦ inr (inr (inl h))
      ]
    where
      tails : o ≡ p → (◌≡◌ {A = List ℕ} (a ∷ o) (b ∷ p)) ⊎ (Lower g (a ∷ o) (b ∷ p) ⊎ Lower g (b ∷ p) (a ∷ o))
      tails d = rw (← d) (same_tail a b o s (rw (← d) at t))

  -- what comes after o among the orientations of as many steps: one above it with none in between, or none above it
  abbrev pub Then : List ℕ → Option (List ℕ) → Type 0
  Then o (Some p) = Sound g p × (length p ≡ length o) × Lower g o p × ((c : List ℕ) → Sound g c → Lower g o c → Lower g c p → ⊥)
  Then o None = (c : List ℕ) → Sound g c → Lower g o c → ⊥

  -- none lies between two rows over o with no legal row in between
  between_rows : (a b : ℕ) (o : List ℕ) → ((c : ℕ) → Legal g o c → LowerRow g o a c → LowerRow g o c b → ⊥)
      → (c : List ℕ) → Sound g c → Lower g (a ∷ o) c → Lower g c (b ∷ o) → ⊥
  unfolding Lower
  between_rows a b o least [] s h k = h
  between_rows a b o least (x ∷ c) s (inl h) (inl k) = irreflexive o (transitive o c o h k)
  between_rows a b o least (x ∷ c) s (inl h) (inr k) = irreflexive o (rw k.0 at h)
  between_rows a b o least (x ∷ c) s (inr h) (inl k) = irreflexive o (rw (← h.0) at k)
  between_rows a b o least (x ∷ c) s (inr h) (inr k) = least x (rw h.0 (parts x c s).1) h.1 (rw h.0 k.1)

  -- none lies above the highest row over o and below the zeros over p, where none lies between o and p
  between_tails : (a : ℕ) (o p : List ℕ) → Sound g p → ((c : ℕ) → Legal g o c → LowerRow g o a c → ⊥)
      → ((c : List ℕ) → Sound g c → Lower g o c → Lower g c p → ⊥)
      → (c : List ℕ) → Sound g c → Lower g (a ∷ o) c → Lower g c (0 ∷ p) → ⊥
  unfolding Lower
  between_tails a o p sp high least [] s h k = h
  between_tails a o p sp high least (x ∷ c) s (inl h) (inl k) = least c (parts x c s).0 h k
  between_tails a o p sp high least (x ∷ c) s (inl h) (inr k) = (rows_end g c (parts x c s).0).0.1 x k.1
  between_tails a o p sp high least (x ∷ c) s (inr h) k = high x (rw h.0 (parts x c s).1) h.1

  above_all : (a : ℕ) (o : List ℕ) → ((c : ℕ) → Legal g o c → LowerRow g o a c → ⊥)
      → ((c : List ℕ) → Sound g c → Lower g o c → ⊥) → (c : List ℕ) → Sound g c → Lower g (a ∷ o) c → ⊥
  unfolding Lower
  above_all a o high none [] s h = h
  above_all a o high none (x ∷ c) s (inl h) = none c (parts x c s).0 h
  above_all a o high none (x ∷ c) s (inr h) = high x (rw h.0 (parts x c s).1) h.1

  pub then_of : (o : List ℕ) → Sound g o → Then o (successor g o)
  unfolding Lower successor
  then_of [] s = λ c k h. h
  then_of (a ∷ o) s = go (next_row g o a) (rows_rise g o so a la) (successor g o) (then_of o so)
    where
      so : Sound g o
      so = (parts a o s).0

      la : Legal g o a
      la = (parts a o s).1

      go : (r : Option ℕ) → NextRow g o a r → (n : Option (List ℕ)) → Then o n
          → Then (a ∷ o) (elim r [ Some b ↦ Some (b ∷ o) | None ↦ elim n [ Some p ↦ Some (0 ∷ p) | None ↦ None ] ])
      go (Some b) (lb, ab, ne, least) n h = (whole b o so lb, refl, inr (refl, ab), between_rows a b o least)
      go None (top, high) (Some p) (sp, len, op, least) = (whole 0 p sp (zero_legal g p), ap suc len, inl op, between_tails a o p sp high least)
      go None (top, high) None h = above_all a o high h

  -- ---- the lowest and the highest

  pub lowest_sound : (n : ℕ) → Sound g (lowest n)
  unfolding lowest AllWithin
  lowest_sound zero = (tt, λ p c. no_chain g c)
  lowest_sound (suc n) = whole 0 (lowest n) (lowest_sound n) (zero_legal g (lowest n))

  pub lowest_length : (n : ℕ) → length (lowest n) ≡ n
  unfolding lowest
  lowest_length zero = refl
  lowest_length (suc n) = ap suc (lowest_length n)

  pub lowest_least : (n : ℕ) (c : List ℕ) → Sound g c → Lower g c (lowest n) → ⊥
  unfolding lowest Lower
  lowest_least zero [] s h = h
  lowest_least zero (x ∷ c) s h = h
  lowest_least (suc n) [] s h = h
  lowest_least (suc n) (x ∷ c) s (inl h) = lowest_least n c (parts x c s).0 h
  lowest_least (suc n) (x ∷ c) s (inr h) = (rows_end g c (parts x c s).0).0.1 x h.1

  pub highest_length : (n : ℕ) → length (highest g n) ≡ n
  unfolding highest
  highest_length zero = refl
  highest_length (suc n) = ap suc (highest_length n)

  pub highest_sound : (n : ℕ) → Sound g (highest g n)
  unfolding highest AllWithin
  highest_sound zero = (tt, λ p c. no_chain g c)
  highest_sound (suc n) =
      whole (lower_neighbours g n) (highest g n) (highest_sound n)
      (subst (λ (k : ℕ). Legal g (highest g n) (lower_neighbours g k)) (highest_length n) (ones_legal g (highest g n)))

  -- all ones has no next row
  ones_none : (o : List ℕ) → Sound g o → next_row g o (lower_neighbours g (length o)) ≡ None
  ones_none o s = go (next_row g o (lower_neighbours g (length o))) (rows_rise g o s (lower_neighbours g (length o)) (ones_legal g o))
    where
      go : (r : Option ℕ) → NextRow g o (lower_neighbours g (length o)) r → r ≡ None
      go None h = refl
      go (Some b) h = absurd (h.2 refl)

  -- the highest has no successor
  pub highest_none : (n : ℕ) → successor g (highest g n) ≡ None
  unfolding highest successor
  highest_none zero = refl
  highest_none (suc n) =
      let e =
      subst (λ (k : ℕ). next_row g (highest g n) (lower_neighbours g k) ≡ None) (highest_length n) (ones_none (highest g n) (highest_sound n)) in
      ap₂
      (λ (r : Option ℕ) (m : Option (List ℕ)).
      elim r as (λ _. Option (List ℕ)) [
        | Some b ↦ Some (b ∷ highest g n)
        | None ↦ elim m as (λ _. Option (List ℕ)) [ Some p ↦ Some (0 ∷ p) | None ↦ None ]
      ])
      e (highest_none n)

  -- and nothing else has none
  pub none_highest : (o : List ℕ) → Sound g o → successor g o ≡ None → o ≡ highest g (length o)
  unfolding highest successor
  none_highest [] s e = refl
  none_highest (a ∷ o) s e =
      go (next_row g o a) (rows_rise g o (parts a o s).0 a (parts a o s).1) (successor g o) (none_highest o (parts a o s).0) e
    where
      go : (r : Option ℕ) → NextRow g o a r → (n : Option (List ℕ)) → (n ≡ None → o ≡ highest g (length o))
          → ◌≡◌ {A = Option (List ℕ)} (elim r [ Some b ↦ Some (b ∷ o) | None ↦ elim n [ Some p ↦ Some (0 ∷ p) | None ↦ None ] ]) None
          → a ∷ o ≡ lower_neighbours g (length o) ∷ highest g (length o)
      go (Some b) h n k e = absurd (let z : ◌≡◌ {A = ℕ} 0 1 = cc in omega arith)
      go None h (Some p) k e = absurd (let z : ◌≡◌ {A = ℕ} 0 1 = cc in omega arith)
      go None h None k e = ap₂ (λ (x : ℕ) (y : List ℕ). x ∷ y) h.0 (k refl)

pub legal_adds : LegalAdds
legal_adds g a o = (parts g a o, λ h. whole g a o h.0 h.1)
