-- The order of assignments along a list, and the next closed assignment after a closed one.
-- Assumes nothing.
use Rattle.std.proofs.Common.{◌≡◌, ℕ, ◌<◌, Bool, true, false, cond, not, ◌&&◌, eqb, ◌⊎◌, List, [], ◌∷◌, Some, None, Option, sym, refl, ◌∙◌, inl, inr, arith}
use mathlib.Core.Bool.{beq}
use Rattle.std.proofs.lemmas.Bool.{false≢true, both_ways, not-true, not_from_false, eqb-true, eq-eqb, cases_Bool, cases_eq, and_parts, and_from, or_cases, or_left, or_right}
use Rattle.bits.specs.Sets.{has}
use Rattle.bits.proofs.Sets.{any_some, any_of}
use Rattle.bits.proofs.Tests.{same_tests}
use Rattle.orientations.specs.Placing.{before, behind, times}
use Rattle.orientations.specs.Assignments.{lower, last_zero, raised, closed}
use Rattle.orientations.proofs.Standing.{In, in_none, in_cases, in_here, in_later, Once, once_later, once_apart, before_cases, before_of, before_tra, before_self, sides, one_side}

-- ---- the rightmost 0

-- what `last_zero` answers: j has 0, and what does not stand before it has 1; or all have 1
abbrev pub LastZero : List ℕ → (ℕ → Bool) → Option ℕ → Type 0
LastZero w f (Some j) = In w j × (f j ≡ false) × ((p : ℕ) → In w p → (before j w p ≡ true) ⊎ ((p ≡ j) ⊎ (f p ≡ true)))
LastZero w f None = (p : ℕ) → In w p → f p ≡ true

pub last_zero_is : (w : List ℕ) (f : ℕ → Bool) → Once w → LastZero w f (last_zero w f)
unfolding last_zero
last_zero_is [] f n = λ p h. absurd (in_none p h)
last_zero_is (q ∷ w) f n = go (last_zero w f) (last_zero_is w f (once_later q w n)) (f q) refl
  where
    go : (o : Option ℕ) → LastZero w f o → (b : Bool) → f q ≡ b
        → LastZero (q ∷ w) f (elim o [ Some j ↦ Some j | None ↦ elim b [ true ↦ None | false ↦ Some q ] ])
    go (Some j) h b e = (
      in_later q w j h.0,
      h.1,
      λ p k.
          let apart = once_apart q w n j h.0 in
          elim (in_cases q w p k) [
            | inl s ↦ inl (before_of j q w p apart (inl s))
            | inr s ↦ elim (h.2 p s) [ inl d ↦ inl (before_of j q w p apart (inr d)) | inr d ↦ inr d ]
          ],
    )
    go None h true e = λ p k. elim (in_cases q w p k) [ inl s ↦ rw s at e | inr s ↦ h p s ]
    go None h false e = (in_here q w, e, λ p k. elim (in_cases q w p k) [ inl s ↦ inr (inl (sym s)) | inr s ↦ inr (inr (h p s)) ])

-- ---- the lower of two assignments

-- the two agree at each place before t, where f has 0 and f' has 1
abbrev pub Splits : List ℕ → (ℕ → Bool) → (ℕ → Bool) → ℕ → Type 0
Splits w f f' t = In w t × (f t ≡ false) × (f' t ≡ true) × ((p : ℕ) → before t w p ≡ true → f p ≡ f' p)

skip : (q : ℕ) (w : List ℕ) (f f' : ℕ → Bool) → f q ≡ f' q → lower (q ∷ w) f f' ≡ lower w f f'
unfolding lower
skip q w f f' e = rw e (same (f' q))
  where
    same : (b : Bool) → cond (beq b b) (lower w f f') b ≡ lower w f f'
    same true = refl
    same false = refl

pub lower_of : (w : List ℕ) (f f' : ℕ → Bool) (t : ℕ) → Splits w f f' t → lower w f f' ≡ true
unfolding lower
lower_of [] f f' t h = absurd (in_none t h.0)
lower_of (q ∷ w) f f' t (i, x, y, e) =
    elim (cases_eq q t) [
      | inl s ↦ rw s (rw (x, y))
      | inr s ↦
          skip q w f f' (e q (before_of t q w q s (inl refl)))
          ∙ lower_of w f f' t (elim (in_cases q w t i) [ inl k ↦ absurd (s k) | inr k ↦ k ], x, y, λ p k. e p (before_of t q w p s (inr k)))
    ]

pub lower_is : (w : List ℕ) (f f' : ℕ → Bool) → lower w f f' ≡ true → (t : ℕ) × Splits w f f' t
unfolding lower
lower_is [] f f' e = absurd (false≢true e)
lower_is (q ∷ w) f f' e = go (f q) (f' q) refl refl e (λ h. lower_is w f f' h)
  where
    later : f q ≡ f' q → (t : ℕ) × Splits w f f' t → (t : ℕ) × Splits (q ∷ w) f f' t
    later e (t, (i, x, y, h)) =
        (t, (in_later q w t i, x, y, λ p k. elim (before_cases t q w p k).1 [ inl s ↦ rw s at e | inr s ↦ h p s ]))

    go : (b c : Bool) → f q ≡ b → f' q ≡ c → cond (beq b c) (lower w f f') c ≡ true → (lower w f f' ≡ true → (t : ℕ) × Splits w f f' t)
        → (t : ℕ) × Splits (q ∷ w) f f' t
    go true true x y e r = later (x ∙ sym y) (r e)
    go false false x y e r = later (x ∙ sym y) (r e)
    go true false x y e r = absurd (false≢true e)
    go false true x y e r = (q, (in_here q w, x, y, λ p k. absurd ((before_cases q q w p k).0 refl)))

-- not each is lower than the other
pub lower_asym : (w : List ℕ) (f f' : ℕ → Bool) → lower w f f' ≡ true → lower w f' f ≡ true → ⊥
unfolding lower
lower_asym [] f f' d e = false≢true d
lower_asym (q ∷ w) f f' d e = go (f q) (f' q) d e (lower_asym w f f')
  where
    go : (b c : Bool) → cond (beq b c) (lower w f f') c ≡ true → cond (beq c b) (lower w f' f) b ≡ true
        → (lower w f f' ≡ true → lower w f' f ≡ true → ⊥) → ⊥
    go true true d e r = r d e
    go false false d e r = r d e
    go true false d e r = false≢true d
    go false true d e r = false≢true e

pub lower_tra : (w : List ℕ) (f f' h : ℕ → Bool) → lower w f f' ≡ true → lower w f' h ≡ true → lower w f h ≡ true
unfolding lower
lower_tra [] f f' h d e = d
lower_tra (q ∷ w) f f' h d e = go (f q) (f' q) (h q) d e (lower_tra w f f' h)
  where
    go : (a b c : Bool) → cond (beq a b) (lower w f f') b ≡ true → cond (beq b c) (lower w f' h) c ≡ true
        → (lower w f f' ≡ true → lower w f' h ≡ true → lower w f h ≡ true) → cond (beq a c) (lower w f h) c ≡ true
    go true true true d e r = r d e
    go true true false d e r = e
    go true false true d e r = absurd (false≢true d)
    go true false false d e r = d
    go false true true d e r = refl
    go false true false d e r = absurd (false≢true e)
    go false false true d e r = refl
    go false false false d e r = r d e

-- of two assignments one is the lower, or they agree at every place
pub lower_tri : (w : List ℕ) (f f' : ℕ → Bool) → (lower w f f' ≡ true) ⊎ ((lower w f' f ≡ true) ⊎ ((p : ℕ) → In w p → f p ≡ f' p))
unfolding lower
lower_tri [] f f' = inr (inr (λ p h. absurd (in_none p h)))
lower_tri (q ∷ w) f f' = go (f q) (f' q) refl refl (lower_tri w f f')
  where
    agree : f q ≡ f' q → ((p : ℕ) → In w p → f p ≡ f' p) → (p : ℕ) → In (q ∷ w) p → f p ≡ f' p
    agree e h p k = elim (in_cases q w p k) [ inl s ↦ rw s at e | inr s ↦ h p s ]

    go : (b c : Bool) → f q ≡ b → f' q ≡ c → (lower w f f' ≡ true) ⊎ ((lower w f' f ≡ true) ⊎ ((p : ℕ) → In w p → f p ≡ f' p))
        → (cond (beq b c) (lower w f f') c ≡ true) ⊎ ((cond (beq c b) (lower w f' f) b ≡ true) ⊎ ((p : ℕ) → In (q ∷ w) p → f p ≡ f' p))
    go true true x y (inl h) = inl h
    go true true x y (inr (inl h)) = inr (inl h)
    go true true x y (inr (inr h)) = inr (inr (agree (x ∙ sym y) h))
    go false false x y (inl h) = inl h
    go false false x y (inr (inl h)) = inr (inl h)
    go false false x y (inr (inr h)) = inr (inr (agree (x ∙ sym y) h))
    go true false x y h = inr (inl refl)
    go false true x y h = inl refl

-- ---- the next closed assignment

-- an order R on the steps below i, the set N of neighbours, and its list w: each once, and after what leads to it
pub record Ordered (R : ℕ → ℕ → Bool) (i N : ℕ) (w : List ℕ) : Type 0 where
  pub below : (p : ℕ) → has N p ≡ true → p < i
  pub tra : (q r p : ℕ) → R q r ≡ true → R r p ≡ true → R q p ≡ true
  pub once : (p : ℕ) → times w p ≡ cond (has N p) 1 0
  pub after : (q p : ℕ) → has N q ≡ true → has N p ≡ true → R q p ≡ true → before p w q ≡ true

-- f has 1 at neighbours alone, and with a neighbour at each that it leads to
abbrev pub Closed : (ℕ → ℕ → Bool) → ℕ → (ℕ → Bool) → Type 0
Closed R N f =
    ((p : ℕ) → f p ≡ true → has N p ≡ true)
    × ((q p : ℕ) → has N q ≡ true → has N p ≡ true → R q p ≡ true → f q ≡ true → f p ≡ true)

-- the next assignment after f, which rises at j
abbrev pub next : (ℕ → ℕ → Bool) → ℕ → ℕ → List ℕ → (ℕ → Bool) → ℕ → ℕ → Bool
next R i N w f j p = has N p && closed R i (raised w f j) p

module _ {R : ℕ → ℕ → Bool} {i N : ℕ} {w : List ℕ} (L : Ordered R i N w) where
  pub w_once : Once w
  w_once p =
      elim (cases_Bool (has N p))
      [ inl e ↦ let z = rw e at (L.once p) in omega arith | inr e ↦ let z = rw e at (L.once p) in omega arith ]

  pub in_w : (p : ℕ) → has N p ≡ true → In w p
  in_w p e = let z = rw e at (L.once p) in omega arith

  pub w_in : (p : ℕ) → In w p → has N p ≡ true
  w_in p h = elim (cases_Bool (has N p)) [ inl e ↦ e | inr e ↦ let z = rw e at (L.once p) in absurd (omega arith) ]

  module _ (f : ℕ → Bool) (cf : Closed R N f) (j : ℕ) (jw : In w j) (fj : f j ≡ false)
      (ones : (p : ℕ) → In w p → (before j w p ≡ true) ⊎ ((p ≡ j) ⊎ (f p ≡ true))) where
    -- what has 1 before the closure: j, and what had 1 before it
    raised_is : (q : ℕ) → raised w f j q ≡ true → (q ≡ j) ⊎ ((before j w q ≡ true) × (f q ≡ true))
    unfolding raised
    raised_is q e =
        elim (or_cases (eqb q j) (f q && not (behind j w q)) e) [
          | inl h ↦ inl (eqb-true q j h)
          | inr h ↦
              let (x, y) = and_parts (f q) (not (behind j w q)) h in
              elim (sides j w q (in_w q (cf.0 q x))) [
                | inl b ↦ inr (b, x)
                | inr (inl s) ↦ inl s
                | inr (inr b) ↦ absurd (both_ways (behind j w q) (not-true _ y) b)
              ]
        ]

    raised_in : (q : ℕ) → raised w f j q ≡ true → has N q ≡ true
    raised_in q e = elim (raised_is q e) [ inl s ↦ rw s (w_in j jw) | inr s ↦ cf.0 q s.1 ]

    raised_kept : (p : ℕ) → before j w p ≡ true → f p ≡ true → raised w f j p ≡ true
    unfolding raised
    raised_kept p b e = or_right (eqb p j) _ (and_from (f p) (not (behind j w p)) e (not_from_false _ (one_side j w p w_once b)))

    -- and after it
    closed_is : (p : ℕ) → closed R i (raised w f j) p ≡ true → (raised w f j p ≡ true) ⊎ ((q : ℕ) × (raised w f j q ≡ true) × (R q p ≡ true))
    unfolding closed
    closed_is p e =
        elim (or_cases _ _ e) [ inl h ↦ inl h | inr h ↦ let (q, l, k) = any_some _ _ h in let (x, y) = and_parts _ _ k in inr (q, x, y) ]

    closed_of : (p q : ℕ) → raised w f j q ≡ true → R q p ≡ true → closed R i (raised w f j) p ≡ true
    unfolding closed
    closed_of p q x y = or_right _ _ (any_of i _ q (L.below q (raised_in q x)) (and_from _ _ x y))

    pub next_closed : Closed R N (next R i N w f j)
    next_closed = (
      λ p e. (and_parts _ _ e).0,
      λ q p nq np r e.
          and_from _ _ np
          (elim (closed_is q (and_parts _ _ e).1)
          [ inl h ↦ closed_of p q h r | inr h ↦ closed_of p h.0 h.1 (L.tra h.0 q p h.2 r) ]),
    )

    -- nothing changes before j
    same_before : (p : ℕ) → before j w p ≡ true → f p ≡ next R i N w f j p
    unfolding closed
    same_before p b =
        same_tests (f p) (next R i N w f j p) (λ e. and_from _ _ (cf.0 p e) (or_left _ _ (raised_kept p b e)))
        (λ e.
        let np = (and_parts _ _ e).0 in
        elim (closed_is p (and_parts _ _ e).1) [
          | inl h ↦ elim (raised_is p h) [ inl s ↦ absurd (before_self w j (rw s at b)) | inr s ↦ s.1 ]
          | inr h ↦
              elim (raised_is h.0 h.1) [
                | inl s ↦ absurd (before_self w j (before_tra w j p j b (L.after j p (w_in j jw) np (rw s at h.2))))
                | inr s ↦ cf.1 h.0 p (cf.0 h.0 s.1) np h.2 s.1
              ]
        ])

    next_j : next R i N w f j j ≡ true
    unfolding closed raised
    next_j = and_from _ _ (w_in j jw) (or_left _ _ (or_left _ _ (eq-eqb j j refl)))

    pub next_above : lower w f (next R i N w f j) ≡ true
    next_above = lower_of w f (next R i N w f j) j (jw, fj, next_j, same_before)

    pub next_least : (f' : ℕ → Bool) → Closed R N f' → lower w f f' ≡ true → lower w f' (next R i N w f j) ≡ true → ⊥
    next_least f' cg d e =
        let (t, (tw, ft, gt, eq)) = lower_is w f f' d in
        let (u, (uw, gu, nu, _)) = lower_is w f' (next R i N w f j) e in
        elim (ones t tw) [
          | inl b ↦
              lower_asym w f' (next R i N w f j) e
              (lower_of w (next R i N w f j) f' t (tw, sym (same_before t b) ∙ ft, gt, λ p k. sym (same_before p (before_tra w j t p b k)) ∙ eq p k))
          | inr (inl s) ↦
              both_ways (f' u) gu
              (let sub : (q : ℕ) → raised w f j q ≡ true → f' q ≡ true = λ q x. elim (raised_is q x) [ inl k ↦ rw (k, ← s) gt | inr k ↦ sym (eq q (rw s k.0)) ∙ k.1 ] in
              elim (closed_is u (and_parts _ _ nu).1)
              [ inl h ↦ sub u h | inr h ↦ cg.1 h.0 u (raised_in h.0 h.1) (and_parts _ _ nu).0 h.2 (sub h.0 h.1) ])
          | inr (inr k) ↦ both_ways (f t) ft k
        ]
