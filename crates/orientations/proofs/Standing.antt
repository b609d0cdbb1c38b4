-- Where steps stand in a list: how often, before which, behind which.
-- Assumes nothing.
use Rattle.std.proofs.Common.{◌≡◌, ℕ, ◌≤◌, true, false, eqb, ◌⊎◌, List, [], ◌∷◌, sym, refl, ◌∙◌, inl, inr, arith}
use Rattle.std.proofs.lemmas.Bool.{false≢true, not-true, not_from_false, eqb-true, eqb-false, eq-eqb, ne_eqb, cases_Bool, cases_eq, and_parts, and_from, or_cases, or_left, or_right, cond-true, cond-false}
use Rattle.orientations.specs.Placing.{times, holds, before, behind}

-- p stands in w
abbrev pub In : List ℕ → ℕ → Type 0
In w p = 1 ≤ times w p

pub in_none : (p : ℕ) → In [] p → ⊥
unfolding times
in_none p h = omega arith

pub in_cases : (q : ℕ) (w : List ℕ) (p : ℕ) → In (q ∷ w) p → (q ≡ p) ⊎ In w p
unfolding times
in_cases q w p h = elim (cases_eq q p) [ inl s ↦ inl s | inr s ↦ let k = rw (ne_eqb q p s) at h in inr (omega arith) ]

pub in_here : (q : ℕ) (w : List ℕ) → In (q ∷ w) q
unfolding times
in_here q w = rw (eq-eqb q q refl) (omega arith)

pub in_later : (q : ℕ) (w : List ℕ) (p : ℕ) → In w p → In (q ∷ w) p
unfolding times
in_later q w p h = omega arith

pub in_holds : (w : List ℕ) (p : ℕ) → In w p → holds w p ≡ true
unfolding holds
in_holds [] p h = absurd (in_none p h)
in_holds (q ∷ w) p h =
    elim (in_cases q w p h) [ inl s ↦ or_left _ _ (eq-eqb q p s) | inr s ↦ or_right _ _ (in_holds w p s) ]

pub holds_in : (w : List ℕ) (p : ℕ) → holds w p ≡ true → In w p
unfolding holds
holds_in [] p e = absurd (false≢true e)
holds_in (q ∷ w) p e =
    elim (or_cases (eqb q p) (holds w p) e)
    [ inl h ↦ rw (eqb-true q p h) (in_here p w) | inr h ↦ in_later q w p (holds_in w p h) ]

-- no step stands in w twice
abbrev pub Once : List ℕ → Type 0
Once w = (p : ℕ) → times w p ≤ 1

pub once_later : (q : ℕ) (w : List ℕ) → Once (q ∷ w) → Once w
unfolding times
once_later q w h p = let z = h p in omega arith

pub once_apart : (q : ℕ) (w : List ℕ) → Once (q ∷ w) → (j : ℕ) → In w j → q ≡ j → ⊥
unfolding times
once_apart q w h j i s = let z = rw (eq-eqb q j s) at (h j) in omega arith

-- ---- before

pub before_cases : (j q : ℕ) (w : List ℕ) (p : ℕ) → before j (q ∷ w) p ≡ true → (q ≡ j → ⊥) × ((q ≡ p) ⊎ (before j w p ≡ true))
unfolding before
before_cases j q w p e =
    let (x, y) = and_parts _ _ e in
    (eqb-false q j (not-true _ x), elim (or_cases _ _ y) [ inl h ↦ inl (eqb-true q p h) | inr h ↦ inr h ])

pub before_of : (j q : ℕ) (w : List ℕ) (p : ℕ) → (q ≡ j → ⊥) → (q ≡ p) ⊎ (before j w p ≡ true) → before j (q ∷ w) p ≡ true
unfolding before
before_of j q w p s (inl h) = and_from _ _ (not_from_false _ (ne_eqb q j s)) (or_left _ _ (eq-eqb q p h))
before_of j q w p s (inr h) = and_from _ _ (not_from_false _ (ne_eqb q j s)) (or_right _ _ h)

-- what stands before something before j stands before j
pub before_tra : (w : List ℕ) (j t p : ℕ) → before j w t ≡ true → before t w p ≡ true → before j w p ≡ true
unfolding before
before_tra [] j t p d e = d
before_tra (q ∷ w) j t p d e =
    let (x, y) = before_cases j q w t d in
    let (u, v) = before_cases t q w p e in
    before_of j q w p x
    (elim y [ inl k ↦ absurd (u k) | inr k ↦ elim v [ inl l ↦ inl l | inr l ↦ inr (before_tra w j t p k l) ] ])

pub before_self : (w : List ℕ) (j : ℕ) → before j w j ≡ true → ⊥
unfolding before
before_self [] j e = false≢true e
before_self (q ∷ w) j e =
    let (x, y) = before_cases j q w j e in
    elim y [ inl k ↦ x k | inr k ↦ before_self w j k ]

pub before_asym : (l : List ℕ) (q p : ℕ) → before p l q ≡ true → before q l p ≡ true → ⊥
before_asym l q p d e = before_self l p (before_tra l p q p d e)

-- of two steps of l one stands before the other
pub before_tri : (l : List ℕ) (q p : ℕ) → In l q → In l p → (q ≡ p → ⊥) → (before p l q ≡ true) ⊎ (before q l p ≡ true)
before_tri [] q p i j n = absurd (in_none q i)
before_tri (x ∷ l) q p i j n =
    elim (cases_eq x q) [
      | inl s ↦ inl (before_of p x l q (λ e. n (sym s ∙ e)) (inl s))
      | inr s ↦
          elim (cases_eq x p) [
            | inl t ↦ inr (before_of q x l p s (inl t))
            | inr t ↦
                elim (before_tri l q p (later i s) (later j t) n)
                [ inl h ↦ inl (before_of p x l q t (inr h)) | inr h ↦ inr (before_of q x l p s (inr h)) ]
          ]
    ]
  where
    later : {p : ℕ} → In (x ∷ l) p → (x ≡ p → ⊥) → In l p
    later {p} h s = elim (in_cases x l p h) [ inl e ↦ absurd (s e) | inr k ↦ k ]

-- ---- behind

pub behind_here : (j q : ℕ) (w : List ℕ) (p : ℕ) → q ≡ j → behind j (q ∷ w) p ≡ holds w p
unfolding behind
behind_here j q w p s = cond-true (eqb q j) (holds w p) (behind j w p) (eq-eqb q j s)

pub behind_later : (j q : ℕ) (w : List ℕ) (p : ℕ) → (q ≡ j → ⊥) → behind j (q ∷ w) p ≡ behind j w p
unfolding behind
behind_later j q w p s = cond-false (eqb q j) (holds w p) (behind j w p) (ne_eqb q j s)

pub behind_in : (j : ℕ) (w : List ℕ) (p : ℕ) → behind j w p ≡ true → In w p
unfolding behind
behind_in j [] p e = absurd (false≢true e)
behind_in j (q ∷ w) p e =
    in_later q w p
    (elim (cases_eq q j) [
      | inl s ↦ holds_in w p (sym (behind_here j q w p s) ∙ e)
      | inr s ↦ behind_in j w p (sym (behind_later j q w p s) ∙ e)
    ])

-- each step of w stands before j, is j, or stands behind j
pub sides : (j : ℕ) (w : List ℕ) (p : ℕ) → In w p → (before j w p ≡ true) ⊎ ((p ≡ j) ⊎ (behind j w p ≡ true))
sides j [] p h = absurd (in_none p h)
sides j (q ∷ w) p h =
    elim (cases_eq q j) [
      | inl s ↦
          elim (in_cases q w p h) [
            | inl e ↦ inr (inl (sym e ∙ s))
            | inr k ↦ inr (inr (behind_here j q w p s ∙ in_holds w p k))
          ]
      | inr s ↦
          elim (in_cases q w p h) [
            | inl e ↦ inl (before_of j q w p s (inl e))
            | inr k ↦
                elim (sides j w p k) [
                  | inl b ↦ inl (before_of j q w p s (inr b))
                  | inr (inl e) ↦ inr (inl e)
                  | inr (inr b) ↦ inr (inr (behind_later j q w p s ∙ b))
                ]
          ]
    ]

-- not on both sides, where no step stands twice
pub one_side : (j : ℕ) (w : List ℕ) (p : ℕ) → Once w → before j w p ≡ true → behind j w p ≡ false
unfolding before
one_side j [] p o e = absurd (false≢true e)
one_side j (q ∷ w) p o e =
    let (x, y) = before_cases j q w p e in
    behind_later j q w p x
    ∙ elim y [
      | inl s ↦
          elim (cases_Bool (behind j w p)) [
            | inl b ↦ absurd (once_apart q w o p (behind_in j w p b) s)
            | inr b ↦ b
          ]
      | inr k ↦ one_side j w p (once_later q w o) k
    ]
