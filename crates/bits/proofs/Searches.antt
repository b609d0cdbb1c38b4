-- Searches whose bounds and tests differ and that find the same.
-- Assumes nothing.
use Rattle.std.proofs.Common.{◌≡◌, ℕ, ◌<◌, ◌≤◌, Bool, true, ◌&&◌, ◌||◌, Some, None, Option, sym, ap, ◌∙◌, inl, inr, arith}
use Rattle.std.proofs.lemmas.Bool.{both_ways, and_parts, and_from, or_cases, or_left, or_right}
use Rattle.std.proofs.lemmas.Bool.{false_from_ne_true}
use Rattle.bits.specs.Sets.{has, mask_of, any, first, Lowest}
use Rattle.bits.proofs.Tests.{same_tests}
use Rattle.bits.proofs.Sets.{has_mask, has_in, any_some, any_of, first_is, first_only}

-- each number below i that passes f is below k and passes f'
abbrev pub PassesOn : ℕ → (ℕ → Bool) → ℕ → (ℕ → Bool) → Type 0
PassesOn i f k f' = (r : ℕ) → r < i → f r ≡ true → (r < k) × (f' r ≡ true)

-- the same numbers pass
pub any_alike : (i k : ℕ) (f f' : ℕ → Bool) → PassesOn i f k f' → PassesOn k f' i f → any i f ≡ any k f'
any_alike i k f f' to from =
    same_tests _ _
    (λ e. let (r, l, h) = any_some i f e in let (l', h') = to r l h in any_of k f' r l' h')
    (λ e. let (r, l, h) = any_some k f' e in let (l', h') = from r l h in any_of i f r l' h')

pub first_alike : (i k : ℕ) (f f' : ℕ → Bool) → PassesOn i f k f' → PassesOn k f' i f → first i f ≡ first k f'
first_alike i k f f' to from = first_only k f' (first i f) (moved (first i f) (first_is i f))
  where
    moved : (o : Option ℕ) → Lowest i f o → Lowest k f' o
    moved None none = λ q l. false_from_ne_true _ (λ e. let (l', e') = from q l e in both_ways _ (none q l') e')
    moved (Some p) (pl, pe, none) =
        let (l, e) = to p pl pe in
        (l, e, λ q lt. false_from_ne_true _ (λ h. let (l', e') = from q (omega arith) h in both_ways _ (none q lt) e'))

-- the lowest member of a set is the lowest number that passes its test
pub first_mask : (w i : ℕ) (f : ℕ → Bool) → i ≤ w → first w (has (mask_of i f)) ≡ first i f
first_mask w i f h = first_alike w i _ f (λ p l e. has_in i f p e) (λ p l e. (omega arith, has_mask i f p l ∙ e))

-- X q, or f of a member of X: one search, where `here` tells which number is q and X stays below i
pub any_or_here : (i k q : ℕ) (X here f : ℕ → Bool) → i ≤ k → ((r : ℕ) → X r ≡ true → r < i) → here q ≡ true
    → ((r : ℕ) → here r ≡ true → r ≡ q) → any i (λ r. X r && (here r || f r)) ≡ (X q || any k (λ r. X r && f r))
any_or_here i k q X here f wide below self only = same_tests _ _ to from
  where
    to : any i (λ r. X r && (here r || f r)) ≡ true → (X q || any k (λ r. X r && f r)) ≡ true
    to e =
        let (r, l, h) = any_some i _ e in
        let (x, y) = and_parts (X r) (here r || f r) h in
        elim (or_cases (here r) (f r) y) [
          | inl s ↦ or_left (X q) _ (ap X (sym (only r s)) ∙ x)
          | inr s ↦ or_right (X q) _ (any_of k _ r (omega arith) (and_from _ _ x s))
        ]

    from : (X q || any k (λ r. X r && f r)) ≡ true → any i (λ r. X r && (here r || f r)) ≡ true
    from e =
        elim (or_cases (X q) (any k (λ r. X r && f r)) e) [
          | inl s ↦ any_of i _ q (below q s) (and_from _ _ s (or_left (here q) (f q) self))
          | inr s ↦
              let (r, l, h) = any_some k _ s in
              let (x, y) = and_parts (X r) (f r) h in
              any_of i _ r (below r x) (and_from _ _ x (or_right (here r) (f r) y))
        ]
