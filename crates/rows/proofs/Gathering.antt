-- What the methods of a relation compute, turn by turn, where t is its table.
-- Assumes nothing.
use Rattle.std.proofs.Common.{◌≡◌, ℕ, ◌+◌, ◌^◌, ◌<◌, ◌≤◌, Bool, true, false, not, ◌&&◌, ◌||◌, eqb, ltb, List, [], ◌∷◌, length, get_or, set, replicate, sym, refl, ap, ◌∙◌, ap₂, inl, inr, arith, get_or-set_other, get_or-set_same}
use Rattle.std.proofs.lemmas.List.{get_or_past}
use Rattle.std.proofs.lemmas.Bool.{both_ways, cases_eq, cases_lt, lt-ltb, le-ltb, ltb-true, eq-eqb, ne_eqb, and_left, and_right, and_from, and_parts, or_right}
use Rattle.std.proofs.lemmas.Bool.Decides.{nat_tests}
use Rattle.std.proofs.Math.Bool.{not-not, or-false, and_comm}
use Rattle.std.proofs.lemmas.Bool.{false_from_ne_true}
use Rattle.bits.specs.Sets.{width, has, mask_of, inserted, any, members_of}
use Rattle.bits.proofs.Tables.{blank_at}
use Rattle.bits.proofs.Tests.{ltb_beside}
use Rattle.bits.proofs.Sets.{has_mask, has_none, has_of, has_union, has_above, has_past, mask_ext, mask_same, mask_is, any_some, any_same, any_mask}
use Rattle.bits.proofs.Searches.{any_alike}
use Rattle.bits.proofs.Members.{members_none, step_has, step_any}
use Rattle.orientations.specs.Assignments.{closed}
use Rattle.orientations.specs.Placing.{candidate}
use Rattle.rows.specs.Relations.{leads_in}
use Rattle.sheets.specs.Limits.{limit}

-- ---- the table

-- where each entry is empty, nothing leads anywhere
pub blank_none : (n q p : ℕ) → leads_in (replicate n 0) q p ≡ false
blank_none n q p = ap (λ (m : ℕ). has m q) (blank_at n p) ∙ has_none q

-- nothing leads to a number past the table
led_low : (t : List ℕ) (q p : ℕ) → leads_in t q p ≡ true → p < length t
led_low t q p e =
    elim (cases_lt p (length t)) [
      | inl l ↦ l
      | inr g ↦ absurd (both_ways _ (ap (λ (m : ℕ). has m q) (get_or_past t p 0 (omega arith)) ∙ has_none q) e)
    ]

-- the entry e of i gets the members of M too
pub entry_gets : (t : List ℕ) (i e M m : ℕ) → i < limit → length t ≡ limit → e ≡ get_or t i 0 → e < 2 ^ width → M < 2 ^ width
    → m ≡ mask_of width (λ q. has e q || has M q) → (q p : ℕ)
    → leads_in (set t i m) q p ≡ (leads_in t q p || ((eqb p i && ltb i limit) && has M q))
entry_gets t i e M m low long is fits_e fits_M union q p =
    elim (cases_eq p i) [
      | inl s ↦
          rw s
          (ap (λ (n : ℕ). has n q) (get_or-set_same t i m 0 (omega arith)) ∙ has_union e M m fits_e fits_M union q
          ∙ ap₂ (λ (n : ℕ) (x : Bool). has n q || (x && has M q)) is (sym (and_from _ _ (eq-eqb i i refl) (lt-ltb i limit low))))
      | inr s ↦
          ap (λ (n : ℕ). has n q) (get_or-set_other t i p m 0 s) ∙ sym (or-false (leads_in t q p))
          ∙ ap (λ (x : Bool). leads_in t q p || ((x && ltb i limit) && has M q)) (sym (ne_eqb p i s))
    ]

-- ---- M is led to each step of a set: `left` holds those that are still to come

-- q leads to p, or will when all have come
abbrev pub leads_yet : (ℕ → ℕ → Bool) → ℕ → ℕ → ℕ → ℕ → Bool
leads_yet R left M q p = R q p || ((ltb p limit && has left p) && has M q)

-- i came, and R became R'
pub lead_more : (R R' : ℕ → ℕ → Bool) (left left' M i : ℕ) → members_of left ≡ i ∷ members_of left'
    → ((q p : ℕ) → R' q p ≡ (R q p || ((eqb p i && ltb i limit) && has M q))) → (q p : ℕ)
    → leads_yet R' left' M q p ≡ leads_yet R left M q p
lead_more R R' left left' M i step gets q p =
    ap (λ (x : Bool). x || ((ltb p limit && has left' p) && has M q)) (gets q p)
    ∙ joined (R q p) (has M q) (has left p) (has left' p) (λ l. step_has left i left' step p (omega arith))
  where
    joined : (a m b b' : Bool) → (p < limit → b ≡ (eqb p i || b'))
        → ((a || ((eqb p i && ltb i limit) && m)) || ((ltb p limit && b') && m)) ≡ (a || ((ltb p limit && b) && m))
    joined a m b b' e =
        elim (cases_lt p limit) [
          | inl l ↦
              rw (e l)
              (elim (cases_eq p i) [
                | inl s ↦ let low : i < limit = omega arith in grind (arith, nat_tests)
                | inr n ↦ grind (arith, nat_tests)
              ])
          | inr g ↦ elim (cases_eq p i) [ inl s ↦ let high : limit ≤ i = omega arith in grind (arith, nat_tests) | inr n ↦ grind (arith, nat_tests) ]
        ]

pub lead_all : (R : ℕ → ℕ → Bool) (left M : ℕ) → members_of left ≡ [] → (q p : ℕ) → R q p ≡ leads_yet R left M q p
lead_all R left M none q p =
    sym
    (ap (λ (x : Bool). R q p || x)
    (and_left (ltb p limit && has left p) (has M q)
    (elim (cases_lt p limit) [
      | inl l ↦ and_right (ltb p limit) (has left p) (members_none left none p (omega arith))
      | inr g ↦ and_left (ltb p limit) (has left p) (le-ltb p limit g)
    ]))
    ∙ or-false (R q p))

-- ---- what leads to a step of a set

-- q leads to a member of U
abbrev pub leads_to : List ℕ → ℕ → ℕ → Bool
leads_to t U q = any limit (λ p. has U p && leads_in t q p)

-- only the members below the limit count
pub leads_from_steps : (t : List ℕ) (set steps : ℕ) → ((p : ℕ) → p < limit → has steps p ≡ has set p) → (q : ℕ) → leads_to t steps q ≡ leads_to t set q
leads_from_steps t set steps same q = any_same limit _ _ (λ p l. ap (λ (x : Bool). x && leads_in t q p) (same p l))

-- p came, and its entry e is put in; left' holds those that are still to come
pub leading_more : (t : List ℕ) → length t ≡ limit → (left left' p e all m : ℕ) → members_of left ≡ p ∷ members_of left' → e ≡ get_or t p 0
    → e < 2 ^ width → all < 2 ^ width → m ≡ mask_of width (λ q. has all q || has e q) → (q : ℕ)
    → (has m q || leads_to t left' q) ≡ (has all q || leads_to t left q)
leading_more t long left left' p e all m step is fits_e fits_all union q =
    ap (λ (x : Bool). x || leads_to t left' q) (has_union all e m fits_all fits_e union q ∙ ap (λ (n : ℕ). has all q || has n q) is)
    ∙ turned (has all q) (leads_in t q p) (leads_to t left' q)
    ∙ ap (λ (x : Bool). has all q || x) (sym (step_any left p left' step limit (leads_in t q) (omega arith) (λ r e. let low = led_low t q r e in omega (arith, long))))
  where
    turned : (a b c : Bool) → ((a || b) || c) ≡ (a || (b || c))
    turned true b c = refl
    turned false b c = refl

pub leading_all : (t : List ℕ) (left all : ℕ) → members_of left ≡ [] → (q : ℕ) → has all q ≡ (has all q || leads_to t left q)
leading_all t left all none q =
    sym
    (ap (λ (x : Bool). has all q || x)
    (false_from_ne_true _
    (λ e.
    let (p, l, h) = any_some limit (λ p. has left p && leads_in t q p) e in
    both_ways _ (members_none left none p (omega arith)) (and_parts (has left p) (leads_in t q p) h).0))
    ∙ or-false (has all q))

-- ---- the steps to which a member of a set leads

-- a member of U leads to p
abbrev pub led_by : List ℕ → ℕ → ℕ → Bool
led_by t U p = any width (λ q. has U q && leads_in t q p)

-- none does exactly where U has no member in common with the entry e of p
pub apart : (t : List ℕ) (U p e m : ℕ) → e ≡ get_or t p 0 → m ≡ mask_of width (λ q. has e q && has U q) → eqb m 0 ≡ not (led_by t U p)
apart t U p e m is met =
    sym (not-not (eqb m 0))
    ∙ ap not
    (ap (λ (n : ℕ). not (eqb n 0)) met ∙ any_mask width _
    ∙ any_same width _ _ (λ q l. and_comm (has e q) (has U q) ∙ ap (λ (n : ℕ). has U q && has n q) is))

-- `steps` are the members of U below the limit: those to which none of them leads are the candidates
pub candidates_are : (t : List ℕ) (U steps found : ℕ) → ((q : ℕ) → q < width → has steps q ≡ (has U q && ltb q limit)) → found < 2 ^ width
    → ((q : ℕ) → q < width → has found q ≡ (has steps q && not (led_by t steps q))) → found ≡ mask_of limit (candidate (leads_in t) limit U)
unfolding candidate
candidates_are t U steps found members fits kept =
    mask_ext _ _
    (λ p.
    elim (cases_lt p width) [
      | inl l ↦
          kept p l ∙ ap₂ (λ (x y : Bool). x && not y) (members p l) (any_alike width limit _ _ (to p) (from p))
          ∙ turned (has U p) (ltb p limit) (not (any limit (λ q. has U q && leads_in t q p))) ∙ sym (has_of limit _ p)
      | inr g ↦ has_above width found p fits g ∙ sym (has_past limit _ p (omega arith))
    ])
  where
    turned : (a b c : Bool) → ((a && b) && c) ≡ (b && (a && c))
    turned true b c = refl
    turned false b c = sym (and_right b false refl)

    to : (p q : ℕ) → q < width → (has steps q && leads_in t q p) ≡ true → (q < limit) × ((has U q && leads_in t q p) ≡ true)
    to p q l e =
        let (s, r) = and_parts (has steps q) (leads_in t q p) e in
        let (u, b) = and_parts (has U q) (ltb q limit) (sym (members q l) ∙ s) in
        (ltb-true q limit b, and_from _ _ u r)

    from : (p q : ℕ) → q < limit → (has U q && leads_in t q p) ≡ true → (q < width) × ((has steps q && leads_in t q p) ≡ true)
    from p q l e =
        let (u, r) = and_parts (has U q) (leads_in t q p) e in
        let wide : q < width = omega arith in
        (wide, and_from _ _ (members q wide ∙ and_from _ _ u (lt-ltb q limit l)) r)

-- ---- the closure of U

module _ (t : List ℕ) (U : ℕ) where
  -- the members of U, and of the steps below p those to which one of them leads
  abbrev pub closed_to : ℕ → ℕ
  closed_to p = mask_of width (λ r. has U r || (ltb r p && led_by t U r))

  pub closed_start : U < 2 ^ width → U ≡ closed_to 0
  closed_start h =
      mask_is width U _ h
      (λ r l. sym (ap (λ (x : Bool). has U r || (x && led_by t U r)) (le-ltb r 0 (omega arith)) ∙ or-false (has U r)))

  pub closed_more : (p : ℕ) → led_by t U p ≡ true → inserted (closed_to p) p ≡ closed_to (p + 1)
  closed_more p e =
      mask_same width _ _
      (λ r l.
      ap (λ (x : Bool). x || eqb r p) (has_mask width _ r l)
      ∙ elim (cases_eq r p) [
        | inl s ↦
            or_right _ (eqb r p) (eq-eqb r p s)
            ∙ sym (or_right (has U r) _ (and_from _ _ (lt-ltb r (p + 1) (omega arith)) (rw s e)))
        | inr n ↦
            ap (λ (x : Bool). (has U r || (ltb r p && led_by t U r)) || x) (ne_eqb r p n) ∙ or-false _
            ∙ ap (λ (x : Bool). has U r || (x && led_by t U r)) (ltb_beside r p n)
      ])

  pub closed_skip : (p : ℕ) → led_by t U p ≡ false → closed_to p ≡ closed_to (p + 1)
  closed_skip p e =
      mask_same width _ _
      (λ r l.
      ap (λ (x : Bool). has U r || x)
      (elim (cases_eq r p) [
        | inl s ↦ and_right (ltb r p) (led_by t U r) (rw s e) ∙ sym (and_right (ltb r (p + 1)) (led_by t U r) (rw s e))
        | inr n ↦ ap (λ (x : Bool). x && led_by t U r) (ltb_beside r p n)
      ]))

  pub closed_end : (p : ℕ) → length t ≤ p → closed_to p ≡ mask_of width (closed (leads_in t) width (has U))
  unfolding closed
  closed_end p long =
      mask_same width _ _
      (λ r l.
      ap (λ (x : Bool). has U r || x)
      (elim (cases_lt r p) [
        | inl h ↦ ap (λ (x : Bool). x && led_by t U r) (lt-ltb r p h)
        | inr h ↦ and_left (ltb r p) (led_by t U r) (le-ltb r p h) ∙ sym (past r h)
      ]))
    where
      past : (r : ℕ) → p ≤ r → led_by t U r ≡ false
      past r h =
          false_from_ne_true _
          (λ e.
          let (q, l, x) = any_some width (λ q. has U q && leads_in t q r) e in
          let low = led_low t q r (and_parts (has U q) (leads_in t q r) x).1 in
          omega arith)
