-- What adding a step to the arrows and to the ancestors computes.
-- Assumes nothing.
use Rattle.std.proofs.Common.{◌≡◌, ℕ, ◌<◌, ◌≤◌, Bool, true, false, not, ◌&&◌, ◌||◌, eqb, ltb, ◌⊎◌, List, length, sym, refl, ap, ◌∙◌, ap₂, inl, inr, arith}
use Rattle.std.proofs.lemmas.List.{get_or_past}
use Rattle.std.proofs.lemmas.Bool.{both_ways, cases_Bool, cases_lt, lt-ltb, le-ltb, eq-eqb, eqb-true, not_from_true, not_from_false, and_left, and_right, and_from, and_parts, or_cases}
use Rattle.std.proofs.Math.Bool.{or-false, or_comm, and_comm, and-true}
use Rattle.std.proofs.lemmas.Bool.{false_from_ne_true}
use Rattle.bits.specs.Sets.{width, has, mask_of, inserted, any}
use Rattle.bits.proofs.Sets.{Narrow, mask_narrow, has_with, has_none, has_all, mask_members, any_some, any_same, any_mask}
use Rattle.bits.proofs.Searches.{any_alike, any_or_here}
use Rattle.orientations.specs.Assignments.{closed}
use Rattle.orientations.specs.Rows.{grown, pointed, assignment, earlier, lower_neighbours}
use Rattle.orientations.proofs.Neighbours.{neighbour_below, later_below, earlier_below}
use Rattle.sheets.specs.Graphs.{Graph}
use Rattle.sheets.specs.Limits.{limit}
use Rattle.rows.specs.Relations.{leads_in}

-- a table has entries below the limit alone
pub leads_past : (t : List ℕ) → length t ≡ limit → (q p : ℕ) → limit ≤ p → leads_in t q p ≡ false
leads_past t long q p h = ap (λ (m : ℕ). has m q) (get_or_past t p 0 (omega arith)) ∙ has_none q

-- a set of numbers below the limit
cut : (U p : ℕ) → ((r : ℕ) → has U r ≡ true → r < limit) → (ltb p limit && has U p) ≡ has U p
cut U p low =
    elim (cases_Bool (has U p)) [
      | inl e ↦ and_from _ _ (lt-ltb p limit (low p e)) e ∙ sym e
      | inr e ↦ and_right (ltb p limit) (has U p) e ∙ sym e
    ]

-- the steps of M were let lead to those of U, and then those of E to i
abbrev pub Stepped : (ℕ → ℕ → Bool) → (ℕ → ℕ → Bool) → ℕ → ℕ → ℕ → ℕ → Type 0
Stepped R R' i U M E =
    (q p : ℕ) → R' q p ≡ ((R q p || (has M q && (ltb p limit && has U p))) || (eqb p i && has E q))

pub stepped : (R R₁ R' : ℕ → ℕ → Bool) (i U M E : ℕ) → i < limit
    → ((q p : ℕ) → R₁ q p ≡ (R q p || ((ltb p limit && has U p) && has M q)))
    → ((q p : ℕ) → R' q p ≡ (R₁ q p || ((eqb p i && ltb i limit) && has E q))) → Stepped R R' i U M E
stepped R R₁ R' i U M E few led added q p =
    added q p
    ∙ ap₂ (λ (x y : Bool). x || (y && has E q)) (led q p ∙ ap (λ (x : Bool). R q p || x) (and_comm (ltb p limit && has U p) (has M q)))
    (ap (λ (x : Bool). eqb p i && x) (lt-ltb i limit few) ∙ and-true (eqb p i))

-- step i with the row a is added to R: L are the neighbours N that it runs before, and E those that run before it
module _ (g : Graph) (R R' : ℕ → ℕ → Bool) (i a N L E : ℕ) (few : i < limit)
    (is_N : N ≡ lower_neighbours g i) (is_L : L ≡ mask_of width (λ q. has N q && has a q)) (is_E : E ≡ mask_of width (λ q. has N q && not (has a q))) where
  low : (r : ℕ) → has N r ≡ true → r < i
  low r e = neighbour_below g i r (ap (λ (m : ℕ). has m r) (sym is_N) ∙ e)

  has_L : (q : ℕ) → has L q ≡ assignment g i a q
  unfolding assignment
  has_L q =
      ap (λ (m : ℕ). has m q) is_L ∙ has_all width _ (λ r e. let l = low r (and_parts (has N r) (has a r) e).0 in omega arith) q
      ∙ ap (λ (m : ℕ). has m q && has a q) is_N

  has_E : (q : ℕ) → has E q ≡ earlier g i a q
  unfolding earlier
  has_E q =
      ap (λ (m : ℕ). has m q) is_E ∙ has_all width _ (λ r e. let l = low r (and_parts (has N r) (not (has a r)) e).0 in omega arith) q
      ∙ ap (λ (m : ℕ). has m q && not (has a q)) is_N

  low_L : (r : ℕ) → has L r ≡ true → r < i
  low_L r e = later_below g i a r (sym (has_L r) ∙ e)

  low_E : (r : ℕ) → has E r ≡ true → r < i
  low_E r e = earlier_below g i a r (sym (has_E r) ∙ e)

  -- ---- the arrows: M is the step alone
  pub arrows_more : (M : ℕ) → M ≡ inserted 0 i → Stepped R R' i L M E → (q p : ℕ) → R' q p ≡ pointed R i (earlier g i a) (assignment g i a) q p
  unfolding pointed
  arrows_more M is_M steps q p =
      steps q p
      ∙ ap₂ (λ (x y : Bool). (R q p || x) || (eqb p i && y))
      (ap₂ (λ (x y : Bool). x && y) has_M (cut L p (λ r e. let l = low_L r e in omega arith) ∙ has_L p))
      (has_E q)
    where
      has_M : has M q ≡ eqb q i
      has_M =
          ap (λ (m : ℕ). has m q) is_M ∙ has_with 0 i q (λ r e. absurd (both_ways _ (has_none r) e)) (omega arith)
          ∙ ap (λ (x : Bool). x || eqb q i) (has_none q)

  -- ---- the ancestors: nothing leads past the limit; J leads to E, I is E with J, O the closure of L
  module _ (past : (q p : ℕ) → limit ≤ p → R q p ≡ false) (J I O : ℕ) (narrow_J : Narrow J)
      (is_J : (q : ℕ) → has J q ≡ any limit (λ p. has E p && R q p))
      (is_I : I ≡ mask_of width (λ q. has E q || has J q)) (is_O : O ≡ mask_of width (closed R width (has L))) where
    -- what runs before the step, and what runs after it
    abbrev into : ℕ → Bool
    into q = any i (λ r. earlier g i a r && (eqb q r || R q r))

    abbrev out : ℕ → Bool
    out p = any i (λ r. assignment g i a r && (eqb r p || R r p))

    has_I : (q : ℕ) → has I q ≡ into q
    has_I q =
        ap (λ (m : ℕ). has m q) is_I ∙ has_all width _ members q ∙ ap (λ (x : Bool). has E q || x) (is_J q)
        ∙ sym
        (any_same i _ _ (λ r l. ap (λ (x : Bool). x && (eqb q r || R q r)) (sym (has_E r)))
        ∙ any_or_here i limit q (has E) (eqb q) (R q) (omega arith) low_E (eq-eqb q q refl) (λ r e. sym (eqb-true q r e)))
      where
        members : (q : ℕ) → (has E q || has J q) ≡ true → q < width
        members q e = elim (or_cases (has E q) (has J q) e) [ inl h ↦ let l = low_E q h in omega arith | inr h ↦ narrow_J q h ]

    has_O : (p : ℕ) → p < limit → has O p ≡ out p
    unfolding closed
    has_O p l =
        mask_members width O _ is_O p (omega arith)
        ∙ sym
        (any_same i _ _ (λ r l. ap (λ (x : Bool). x && (eqb r p || R r p)) (sym (has_L r)))
        ∙ any_or_here i width p (has L) (λ r. eqb r p) (λ r. R r p) (omega arith) low_L (eq-eqb p p refl) (λ r e. eqb-true r p e))

    -- past the limit nothing comes
    out_cut : (p : ℕ) → (ltb p limit && has O p) ≡ out p
    out_cut p =
        elim (cases_lt p limit) [
          | inl l ↦ ap (λ (x : Bool). x && has O p) (lt-ltb p limit l) ∙ has_O p l
          | inr l ↦
              and_left (ltb p limit) (has O p) (le-ltb p limit l)
              ∙ sym
              (false_from_ne_true (out p)
              (λ (e : out p ≡ true).
              let (r, low, h) = any_some i (λ r. assignment g i a r && (eqb r p || R r p)) e in
              elim (or_cases (eqb r p) (R r p) (and_parts (assignment g i a r) (eqb r p || R r p) h).1) [
                | inl s ↦ let z : r ≡ p = eqb-true r p s in omega arith
                | inr s ↦ both_ways (R r p) (past r p l) s
              ]))
        ]

    -- something runs both before and after the step
    abbrev circle : Bool
    circle = any i (λ r. assignment g i a r && into r)

    met : (K : ℕ) → K ≡ mask_of width (λ q. has L q && has I q) → not (eqb K 0) ≡ circle
    met K is_K =
        ap (λ (m : ℕ). not (eqb m 0)) is_K ∙ any_mask width _
        ∙ any_alike width i _ _
        (λ r l e.
        let (x, y) = and_parts (has L r) (has I r) e in
        (low_L r x, and_from _ _ (sym (has_L r) ∙ x) (sym (has_I r) ∙ y)))
        (λ r l e.
        let (x, y) = and_parts (assignment g i a r) (into r) e in
        (omega arith, and_from _ _ (has_L r ∙ x) (has_I r ∙ y)))

    -- what is put into the entry of the step: K is what runs both before and after it
    has_own : (K own : ℕ) → K ≡ mask_of width (λ q. has L q && has I q)
        → ((eqb K 0 ≡ true) × (own ≡ I)) ⊎ ((eqb K 0 ≡ false) × (own ≡ inserted I i))
        → (q : ℕ) → has own q ≡ (into q || (eqb q i && circle))
    has_own K own is_K (inl (none, is)) q =
        let off : circle ≡ false = sym (met K is_K) ∙ not_from_true _ none in
        ap (λ (m : ℕ). has m q) is ∙ has_I q ∙ sym (or-false (into q)) ∙ ap (λ (x : Bool). into q || x) (sym (and_right (eqb q i) circle off))
    has_own K own is_K (inr (some, is)) q =
        let on : circle ≡ true = sym (met K is_K) ∙ not_from_false _ some in
        ap (λ (m : ℕ). has m q) is ∙ has_with I i q (mask_narrow I _ is_I) (omega arith)
        ∙ ap₂ (λ (x y : Bool). x || y) (has_I q) (sym (ap (λ (x : Bool). eqb q i && x) on ∙ and-true (eqb q i)))

    pub ancestors_more : (K own M : ℕ) → K ≡ mask_of width (λ q. has L q && has I q)
        → ((eqb K 0 ≡ true) × (own ≡ I)) ⊎ ((eqb K 0 ≡ false) × (own ≡ inserted I i)) → M ≡ inserted I i → Stepped R R' i O M own → (q p : ℕ)
        → R' q p ≡ grown R i (earlier g i a) (assignment g i a) q p
    unfolding grown
    ancestors_more K own M is_K is_own is_M steps q p =
        steps q p
        ∙ ap₂ (λ (x y : Bool). (R q p || x) || (eqb p i && y)) (ap₂ (λ (x y : Bool). x && y) has_M (out_cut p))
        (has_own K own is_K is_own q)
      where
        has_M : has M q ≡ (eqb q i || into q)
        has_M =
            ap (λ (m : ℕ). has m q) is_M ∙ has_with I i q (mask_narrow I _ is_I) (omega arith) ∙ or_comm (has I q) (eqb q i)
            ∙ ap (λ (x : Bool). eqb q i || x) (has_I q)
