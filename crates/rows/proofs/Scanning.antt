-- Going along W from its last place to its first, until a place has 0.
-- Assumes nothing.
use Rattle.std.proofs.Common.{◌≡◌, ℕ, zero, suc, ◌-◌, ◌<◌, ◌≤◌, Bool, true, false, not, ◌&&◌, ◌||◌, eqb, List, [], ◌∷◌, length, get_or, drop, reverse, Some, None, Option, sym, refl, ap, ◌∙◌, ap₂, inl, inr, not-suc-le-zero, arith, drop_of_length-le, drop-cons}
use Rattle.std.proofs.lemmas.List.{length-reverse, get_or-reverse, get_or_read}
use Rattle.std.proofs.lemmas.Bool.{cases_Bool}
use Rattle.std.proofs.Math.Bool.{or_comm, and-true}
use Rattle.bits.specs.Sets.{has}
use Rattle.bits.proofs.Tests.{eqb_swap}
use Rattle.orientations.specs.Assignments.{last_zero, raised}
use Rattle.orientations.specs.Placing.{holds, behind}
use Rattle.orientations.proofs.Standing.{In, in_here, in_later, holds_in, Once, once_later, once_apart, behind_here, behind_later}

-- the places of w from k on have 1, and `ones` holds the steps with 1 that do not stand there
abbrev pub Scan : List ℕ → (ℕ → Bool) → ℕ → ℕ → Type 0
Scan w f k ones = (last_zero (drop k w) f ≡ None) × ((p : ℕ) → has ones p ≡ (f p && not (holds (drop k w) p)))

pub in_at : (w : List ℕ) (k : ℕ) → k < length w → In w (get_or w k 0)
in_at [] k h = absurd (not-suc-le-zero h)
in_at (x ∷ w) zero h = in_here x w
in_at (x ∷ w) (suc k) h = in_later x w (get_or w k 0) (in_at w k (omega arith))

once_drop : (k : ℕ) (w : List ℕ) → Once w → Once (drop k w)
once_drop zero w h = h
once_drop (suc k) [] h = h
once_drop (suc k) (x ∷ w) h = once_drop k w (once_later x w h)

-- the rightmost 0 of a later part is that of the whole
last_drop : (k : ℕ) (w : List ℕ) (f : ℕ → Bool) (j : ℕ) → last_zero (drop k w) f ≡ Some j → last_zero w f ≡ Some j
unfolding last_zero
last_drop zero w f j e = e
last_drop (suc k) [] f j e = e
last_drop (suc k) (x ∷ w) f j e =
    ap
    (λ (z : Option ℕ).
    elim z as (λ _. Option ℕ) [ Some j ↦ Some j | None ↦ elim (f x) as (λ _. Option ℕ) [ true ↦ None | false ↦ Some x ] ])
    (last_drop k w f j e)

-- what stands behind the step at place k
behind_drop : (w : List ℕ) (k p : ℕ) → Once w → k < length w → behind (get_or w k 0) w p ≡ holds (drop (suc k) w) p
behind_drop [] k p o h = absurd (not-suc-le-zero h)
behind_drop (x ∷ w) zero p o h = behind_here x x w p refl
behind_drop (x ∷ w) (suc k) p o h =
    behind_later (get_or w k 0) x w p (once_apart x w o (get_or w k 0) (in_at w k (omega arith)))
    ∙ behind_drop w k p (once_later x w o) (omega arith)

pub scan_start : (w : List ℕ) (f : ℕ → Bool) (k ones : ℕ) → length w ≤ k → ((p : ℕ) → has ones p ≡ f p) → Scan w f k ones
unfolding last_zero holds
scan_start w f k ones h is =
    let none : drop k w ≡ [] = drop_of_length-le w h in (
      ap (λ xs. last_zero xs f) none,
      λ p. is p ∙ sym (and-true (f p)) ∙ ap (λ xs. f p && not (holds xs p)) (sym none),
    )

-- where the last n places were passed, and j is the next from the back
pub next_back : (w : List ℕ) (n j : ℕ) → n < length (reverse w) → j ≡ get_or (reverse w) n j → (n < length w) × (j ≡ get_or w (length w - 1 - n) 0)
next_back w n j h e =
    let lt : n < length w = simp length-reverse at h in (lt, get_or_read w (length w - 1 - n) j (omega arith) (e ∙ get_or-reverse w n j lt) 0)

module _ (w : List ℕ) (f : ℕ → Bool) (once : Once w) (k j ones : ℕ) (lt : k < length w) (at : j ≡ get_or w k 0) (h : Scan w f (suc k) ones) where
  abbrev later : List ℕ
  later = drop (suc k) w

  here : drop k w ≡ j ∷ later
  here = drop-cons w k 0 lt ∙ ap (λ (x : ℕ). x ∷ later) (sym at)

  not_later : holds later j ≡ false
  not_later =
      let apart : Once (j ∷ later) = rw here at (once_drop k w once) in
      elim (cases_Bool (holds later j)) [ inl e ↦ absurd (once_apart j later apart j (holds_in later j e) refl) | inr e ↦ e ]

  at_j : has ones j ≡ f j
  at_j = h.1 j ∙ ap (λ (b : Bool). f j && not b) not_later ∙ and-true (f j)

  -- the rightmost 0 from place k on
  from_here : last_zero (drop k w) f ≡ elim (f j) as (λ _. Option ℕ) [ true ↦ None | false ↦ Some j ]
  unfolding last_zero
  from_here =
      ap (λ xs. last_zero xs f) here
      ∙ ap
      (λ (z : Option ℕ).
      elim z as (λ _. Option ℕ) [ Some j ↦ Some j | None ↦ elim (f j) as (λ _. Option ℕ) [ true ↦ None | false ↦ Some j ] ])
      h.0

  -- the place has 1: go on, without its step
  pub scan_more : (rest : ℕ) → has ones j ≡ true → ((p : ℕ) → has rest p ≡ (has ones p && not (eqb p j))) → Scan w f k rest
  unfolding holds
  scan_more rest e less = (
    from_here ∙ ap (λ (b : Bool). elim b as (λ _. Option ℕ) [ true ↦ None | false ↦ Some j ]) (sym at_j ∙ e),
    λ p.
        less p ∙ ap₂ (λ (x y : Bool). x && not y) (h.1 p) (eqb_swap p j) ∙ both (f p) (holds later p) (eqb j p)
        ∙ ap (λ xs. f p && not (holds xs p)) (sym here),
  )
    where
      both : (x y z : Bool) → ((x && not y) && not z) ≡ (x && not (z || y))
      both false y z = refl
      both true true true = refl
      both true true false = refl
      both true false true = refl
      both true false false = refl

  module _ (off : has ones j ≡ false) where
    -- the place has 0: it is the rightmost
    pub scan_found : last_zero w f ≡ Some j
    scan_found =
        last_drop k w f j (from_here ∙ ap (λ (b : Bool). elim b as (λ _. Option ℕ) [ true ↦ None | false ↦ Some j ]) (sym at_j ∙ off))

    -- with 1 there, the places after it have 0 already
    pub scan_raised : (more : ℕ) → ((p : ℕ) → has more p ≡ (has ones p || eqb p j)) → (p : ℕ) → has more p ≡ raised w f j p
    unfolding raised
    scan_raised more is p =
        is p ∙ ap (λ (b : Bool). b || eqb p j) (h.1 p ∙ ap (λ (b : Bool). f p && not b) (sym (ap (λ (i : ℕ). behind i w p) at ∙ behind_drop w k p once lt)))
        ∙ or_comm (f p && not (behind j w p)) (eqb p j)
