-- A table in which each step has its neighbours.
-- Assumes nothing.
use Rattle.std.proofs.Common.{◌≡◌, ℕ, ◌<◌, ◌≤◌, min, max, ◌&&◌, ltb, List, length, get_or, sym, refl, ◌∙◌, inl, inr, arith}
use Rattle.std.proofs.lemmas.Bool.{and_right, lt-ltb, eq-eqb, ne_eqb, cases_Bool, cases_lt, cases_order}
use Rattle.std.proofs.lemmas.List.{get_or_past}
use Rattle.bits.specs.Sets.{width, has}
use Rattle.bits.proofs.Sets.{has_none, has_mask, mask_is}
use Rattle.sheets.specs.Limits.{limit}
use Rattle.sheets.specs.Graphs.{Graph, Lawful, neighbours_of}
use Rattle.sheets.specs.Fences.{fenced}
use Rattle.sheets.specs.FenceLaws.{fenced_swap}

-- a number that is no step has no neighbours
pub neighbours_past : (g : Graph) → Lawful g → (i : ℕ) → g.steps ≤ i → neighbours_of g i ≡ 0
neighbours_past g laws i h =
    sym
    (mask_is width 0 _ (omega arith)
    (λ q l.
    has_none q
    ∙ elim (cases_Bool (g.clashes i q)) [
      | inl t ↦ absurd (let steps = laws.inside i q t in omega arith)
      | inr f ↦ sym (and_right (ltb q i) (g.clashes i q) f)
    ]))

module _ (g : Graph) (laws : Lawful g) (table : List ℕ) (whole : length table ≡ limit)
    (holds : (i : ℕ) → i < limit → get_or table i 0 ≡ neighbours_of g i) where
  within : (i j : ℕ) → j < i → i < limit → has (get_or table i 0) j ≡ g.clashes i j
  within i j h l = simp (holds i l, has_mask width (λ r. ltb r i && g.clashes i r) j (omega arith), lt-ltb j i h)

  -- past the limit there is neither an entry nor a step
  past : (i j : ℕ) → limit ≤ i → has (get_or table i 0) j ≡ g.clashes i j
  past i j h =
      simp (get_or_past table i 0 (omega arith), has_none j)
      (elim (cases_Bool (g.clashes i j)) [
        | inl t ↦ absurd (let steps = laws.inside i j t in omega (arith, laws.few))
        | inr f ↦ sym f
      ])

  -- the higher step has the lower one exactly where they clash
  lower : (i j : ℕ) → j < i → fenced table i j ≡ g.clashes i j
  lower i j h =
      let hi : max i j ≡ i = omega arith in
      let lo : min i j ≡ j = omega arith in
      simp (hi, lo, ne_eqb i j (omega arith)) (elim (cases_lt i limit) [ inl l ↦ within i j h l | inr l ↦ past i j l ])

  -- so the pairs of the table are the clashes of the sheet
  pub table_clashes : (p q : ℕ) → fenced table p q ≡ g.clashes p q
  table_clashes p q =
      elim (cases_order p q) [
        | inl e ↦ rw e (simp (eq-eqb q q refl) (sym (laws.irreflexive q)))
        | inr (inl l) ↦ fenced_swap table p q ∙ lower q p l ∙ laws.symmetric q p
        | inr (inr l) ↦ lower p q l
      ]
