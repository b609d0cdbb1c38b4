-- Laws of masks as sets, and of searches below a bound.
-- Assumes nothing.
use Rattle.std.proofs.Common.{if◌then◌else◌, List, [], ◌∷◌, ◌++◌, ◌≡◌, ℕ, zero, suc, ◌+◌, ◌*◌, ◌/◌, ◌%◌, ◌^◌, ◌<◌, ◌≤◌, Bool, true, false, cond, not, ◌&&◌, ◌||◌, eqb, ltb, ◌⊎◌, Some, None, Option, sym, refl, ap, ◌∙◌, ap₂, inl, inr, not-suc-le-zero, mul_comm, pow-suc, div-one, arith}
use native.Mathlib.Nat.{div-div-eq-div-mul}
use Rattle.std.proofs.lemmas.Bool.{true≢false, false≢true, both_ways, not-true, not_from_false, eqb-true, eqb-false, cases_Bool, or_cases, or_left, or_right, or_from, cases_lt, cases_eq, ne_eqb, eq-eqb, lt-ltb, le-ltb, and_left, and_right, not_from_true}
use Rattle.std.proofs.Math.Bool.{or-false, and-true}
use Rattle.bits.specs.Sets.{width, has, mask_of, inserted, any, first, Lowest, listed, members_of}
use Rattle.bits.proofs.Tests.{same_tests}

-- ---- a mask, bit by bit

pub has_low : (m : ℕ) → has m 0 ≡ eqb (m % 2) 1
unfolding has
has_low m = ap (λ (n : ℕ). eqb (n % 2) 1) (div-one m)

pub has_suc : (m p : ℕ) → has m (suc p) ≡ has (m / 2) p
unfolding has
has_suc m p = ap (λ (n : ℕ). eqb (n % 2) 1) (simp (pow-suc, mul_comm (2 ^ p) 2) (sym (div-div-eq-div-mul m 2 (2 ^ p))))

-- the empty set
pub has_none : (p : ℕ) → has 0 p ≡ false
has_none zero = has_low 0
has_none (suc p) = has_suc 0 p ∙ has_none p

-- a mask below 2 ^ k has members below k alone
pub has_below : (k m p : ℕ) → m < 2 ^ k → has m p ≡ true → p < k
has_below zero m p h e = absurd (both_ways _ (has_none p) (rw (let z : m ≡ 0 = omega arith in z) at e))
has_below (suc k) m zero h e = omega arith
has_below (suc k) m (suc p) h e = let z = has_below k (m / 2) p (omega arith) (sym (has_suc m p) ∙ e) in omega arith

pub has_above : (k m p : ℕ) → m < 2 ^ k → k ≤ p → has m p ≡ false
has_above k m p h l =
    elim (cases_Bool (has m p)) [ inl e ↦ absurd (let z = has_below k m p h e in omega arith) | inr e ↦ e ]

-- ---- the set of the numbers that pass a test

bit_odd : (b : Bool) (m : ℕ) → eqb ((cond b 1 0 + 2 * m) % 2) 1 ≡ b
bit_odd true m = eq-eqb ((1 + 2 * m) % 2) 1 (omega arith)
bit_odd false m = ne_eqb ((0 + 2 * m) % 2) 1 (omega arith)

bit_half : (b : Bool) (m : ℕ) → (cond b 1 0 + 2 * m) / 2 ≡ m
bit_half true m = omega arith
bit_half false m = omega arith

pub has_mask : (i : ℕ) (f : ℕ → Bool) (p : ℕ) → p < i → has (mask_of i f) p ≡ f p
unfolding mask_of
has_mask zero f p h = absurd (not-suc-le-zero h)
has_mask (suc i) f zero h = has_low (mask_of (suc i) f) ∙ bit_odd (f 0) (mask_of i (λ p. f (suc p)))
has_mask (suc i) f (suc p) h =
    has_suc (mask_of (suc i) f) p ∙ ap (λ (n : ℕ). has n p) (bit_half (f 0) (mask_of i (λ p. f (suc p)))) ∙ has_mask i (λ p. f (suc p)) p (omega arith)

pub has_past : (i : ℕ) (f : ℕ → Bool) (p : ℕ) → i ≤ p → has (mask_of i f) p ≡ false
unfolding mask_of
has_past zero f p h = has_none p
has_past (suc i) f zero h = absurd (not-suc-le-zero h)
has_past (suc i) f (suc p) h =
    has_suc (mask_of (suc i) f) p ∙ ap (λ (n : ℕ). has n p) (bit_half (f 0) (mask_of i (λ p. f (suc p)))) ∙ has_past i (λ p. f (suc p)) p (omega arith)

-- its members, whatever the number asked about
pub has_of : (i : ℕ) (f : ℕ → Bool) (p : ℕ) → has (mask_of i f) p ≡ (ltb p i && f p)
has_of i f p =
    elim (cases_lt p i) [
      | inl h ↦ has_mask i f p h ∙ sym (ap (λ (b : Bool). b && f p) (lt-ltb p i h))
      | inr h ↦ has_past i f p h ∙ sym (and_left (ltb p i) (f p) (le-ltb p i h))
    ]

pub has_in : (i : ℕ) (f : ℕ → Bool) (p : ℕ) → has (mask_of i f) p ≡ true → (p < i) × (f p ≡ true)
has_in i f p e =
    elim (cases_lt p i) [ inl h ↦ (h, sym (has_mask i f p h) ∙ e) | inr h ↦ absurd (both_ways _ (has_past i f p h) e) ]

-- where no number from i on passes, they are the numbers that pass
pub has_all : (i : ℕ) (f : ℕ → Bool) → ((p : ℕ) → f p ≡ true → p < i) → (p : ℕ) → has (mask_of i f) p ≡ f p
has_all i f b p =
    elim (cases_lt p i) [
      | inl h ↦ has_mask i f p h
      | inr h ↦ has_past i f p h ∙ elim (cases_Bool (f p)) [ inl e ↦ absurd (let z = b p e in omega arith) | inr e ↦ sym e ]
    ]

-- the members of a union of masks, whatever the number asked about
pub has_union : (a b m : ℕ) → a < 2 ^ width → b < 2 ^ width → m ≡ mask_of width (λ q. has a q || has b q) → (q : ℕ)
    → has m q ≡ (has a q || has b q)
has_union a b m fits_a fits_b is q = ap (λ (n : ℕ). has n q) is ∙ has_all width _ members q
  where
    members : (r : ℕ) → (has a r || has b r) ≡ true → r < width
    members r e = elim (or_cases (has a r) (has b r) e) [ inl h ↦ has_below width a r fits_a h | inr h ↦ has_below width b r fits_b h ]

-- ---- masks with the same members are equal

digits_same : (a b : ℕ) → a < 2 → b < 2 → eqb a 1 ≡ eqb b 1 → a ≡ b
digits_same a b ha hb e = grind (arith, eqb-true, eqb-false)

ext_to : (k m n : ℕ) → m ≤ k → n ≤ k → ((p : ℕ) → has m p ≡ has n p) → m ≡ n
ext_to zero m n hm hn e = omega arith
ext_to (suc k) m n hm hn e =
    let half : m / 2 ≡ n / 2 = ext_to k (m / 2) (n / 2) (omega arith) (omega arith) (λ p. sym (has_suc m p) ∙ e (suc p) ∙ has_suc n p) in
    let odd : m % 2 ≡ n % 2 = digits_same (m % 2) (n % 2) (omega arith) (omega arith) (sym (has_low m) ∙ e 0 ∙ has_low n) in
    omega arith

pub mask_ext : (m n : ℕ) → ((p : ℕ) → has m p ≡ has n p) → m ≡ n
mask_ext m n e = ext_to (m + n) m n (omega arith) (omega arith) e

-- m is the set of the numbers below i that pass f
pub mask_is : (i m : ℕ) (f : ℕ → Bool) → m < 2 ^ i → ((p : ℕ) → p < i → has m p ≡ f p) → m ≡ mask_of i f
mask_is i m f h e =
    mask_ext m (mask_of i f)
    (λ p.
    elim (cases_lt p i) [
      | inl l ↦ e p l ∙ sym (has_mask i f p l)
      | inr g ↦ has_above i m p h g ∙ sym (has_past i f p g)
    ])

-- the members of a mask that is such a set
pub mask_members : (i m : ℕ) (f : ℕ → Bool) → m ≡ mask_of i f → (q : ℕ) → q < i → has m q ≡ f q
mask_members i m f e q h = ap (λ (n : ℕ). has n q) e ∙ has_mask i f q h

-- tests that agree below the bound give the same set
pub mask_same : (i : ℕ) (f g : ℕ → Bool) → ((p : ℕ) → p < i → f p ≡ g p) → mask_of i f ≡ mask_of i g
mask_same i f g e =
    mask_ext _ _
    (λ p.
    elim (cases_lt p i) [
      | inl l ↦ has_mask i f p l ∙ e p l ∙ sym (has_mask i g p l)
      | inr h ↦ has_past i f p h ∙ sym (has_past i g p h)
    ])

-- ---- a loop that collects a set, number by number

-- where the next number passes, it is put in
pub mask_more : (k : ℕ) (f : ℕ → Bool) → k < width → f k ≡ true → inserted (mask_of k f) k ≡ mask_of (suc k) f
mask_more k f room e = mask_ext _ _ (λ q. at q (cases_lt q (suc k)))
  where
    at : (q : ℕ) → (q < suc k) ⊎ (suc k ≤ q) → has (inserted (mask_of k f) k) q ≡ has (mask_of (suc k) f) q
    at q (inl h) =
        has_mask width (λ q. has (mask_of k f) q || eqb q k) q (omega arith)
        ∙ elim (cases_eq q k) [
          | inl s ↦ or_right (has (mask_of k f) q) (eqb q k) (eq-eqb q k s) ∙ sym (rw s e)
          | inr s ↦
              ap (λ (b : Bool). has (mask_of k f) q || b) (ne_eqb q k s) ∙ or-false (has (mask_of k f) q)
              ∙ has_mask k f q (omega arith)
        ]
        ∙ sym (has_mask (suc k) f q h)
    at q (inr h) = past (cases_lt q width) ∙ sym (has_past (suc k) f q h)
      where
        past : (q < width) ⊎ (width ≤ q) → has (inserted (mask_of k f) k) q ≡ false
        past (inl l) =
            has_mask width (λ q. has (mask_of k f) q || eqb q k) q l
            ∙ or_from _ _ (has_past k f q (omega arith)) (ne_eqb q k (omega arith))
        past (inr g) = has_past width _ q g

-- where it does not, the set stays
pub mask_skip : (k : ℕ) (f : ℕ → Bool) → f k ≡ false → mask_of k f ≡ mask_of (suc k) f
mask_skip k f e = mask_ext _ _ (λ q. at q (cases_lt q (suc k)))
  where
    at : (q : ℕ) → (q < suc k) ⊎ (suc k ≤ q) → has (mask_of k f) q ≡ has (mask_of (suc k) f) q
    at q (inl h) =
        elim (cases_eq q k) [
          | inl s ↦ has_past k f q (omega arith) ∙ sym (rw s e)
          | inr s ↦ has_mask k f q (omega arith)
        ]
        ∙ sym (has_mask (suc k) f q h)
    at q (inr h) = has_past k f q (omega arith) ∙ sym (has_past (suc k) f q h)

-- sets of the same numbers, whatever the bounds and the tests
pub mask_alike : (i k : ℕ) (f f' : ℕ → Bool) → ((p : ℕ) → p < i → f p ≡ true → (p < k) × (f' p ≡ true))
    → ((p : ℕ) → p < k → f' p ≡ true → (p < i) × (f p ≡ true)) → mask_of i f ≡ mask_of k f'
mask_alike i k f f' to from =
    mask_ext _ _
    (λ p.
    same_tests _ _
    (λ e. let (l, h) = has_in i f p e in let (l', h') = to p l h in has_mask k f' p l' ∙ h')
    (λ e. let (l, h) = has_in k f' p e in let (l', h') = from p l h in has_mask i f p l' ∙ h'))

-- ---- some number below a bound passes

pub any_some : (i : ℕ) (f : ℕ → Bool) → any i f ≡ true → (r : ℕ) × (r < i) × (f r ≡ true)
unfolding any
any_some zero f e = absurd (false≢true e)
any_some (suc i) f e =
    elim (or_cases (f i) (any i f) e)
    [ inl h ↦ (i, omega arith, h) | inr h ↦ let (r, lt, k) = any_some i f h in (r, omega arith, k) ]

pub any_of : (i : ℕ) (f : ℕ → Bool) (r : ℕ) → r < i → f r ≡ true → any i f ≡ true
unfolding any
any_of zero f r h e = absurd (not-suc-le-zero h)
any_of (suc i) f r h e =
    elim (cases_eq r i)
    [ inl s ↦ or_left (f i) (any i f) (rw s at e) | inr s ↦ or_right (f i) (any i f) (any_of i f r (omega arith) e) ]

pub any_none : (i : ℕ) (f : ℕ → Bool) → any i f ≡ false → (r : ℕ) → r < i → f r ≡ false
any_none i f e r h = elim (cases_Bool (f r)) [ inl s ↦ absurd (true≢false (sym (any_of i f r h s) ∙ e)) | inr s ↦ s ]

-- tests that agree below the bound
pub any_same : (i : ℕ) (f g : ℕ → Bool) → ((r : ℕ) → r < i → f r ≡ g r) → any i f ≡ any i g
unfolding any
any_same zero f g e = refl
any_same (suc i) f g e = ap₂ (λ (x y : Bool). x || y) (e i (omega arith)) (any_same i f g (λ r h. e r (omega arith)))

-- a set is empty exactly where no number passes: what `mask != 0` tells
pub any_mask : (i : ℕ) (f : ℕ → Bool) → not (eqb (mask_of i f) 0) ≡ any i f
any_mask i f = same_tests _ _ to_any from_any
  where
    to_any : not (eqb (mask_of i f) 0) ≡ true → any i f ≡ true
    to_any e =
        elim (cases_Bool (any i f)) [
          | inl h ↦ h
          | inr h ↦
              absurd
              (both_ways _ (not-true _ e)
              (eq-eqb (mask_of i f) 0
              (mask_ext _ _
              (λ p.
              elim (cases_lt p i) [
                | inl l ↦ has_mask i f p l ∙ any_none i f h p l ∙ sym (has_none p)
                | inr g ↦ has_past i f p g ∙ sym (has_none p)
              ]))))
        ]

    from_any : any i f ≡ true → not (eqb (mask_of i f) 0) ≡ true
    from_any e =
        let (r, l, h) = any_some i f e in
        not_from_false _
        (ne_eqb (mask_of i f) 0
        (λ z. both_ways _ (has_none r) (ap (λ (m : ℕ). has m r) (sym z) ∙ has_mask i f r l ∙ h)))

-- ---- the lowest number that passes

pub first_is : (i : ℕ) (f : ℕ → Bool) → Lowest i f (first i f)
unfolding first
first_is zero f = λ q h. absurd (not-suc-le-zero h)
first_is (suc i) f = go (first i f) (first_is i f) (f i) refl
  where
    go : (o : Option ℕ) → Lowest i f o → (b : Bool) → f i ≡ b
        → Lowest (suc i) f (elim o [ Some p ↦ Some p | None ↦ elim b [ true ↦ Some i | false ↦ None ] ])
    go (Some p) h b e = (omega arith, h.1, h.2)
    go None h true e = (omega arith, e, h)
    go None h false e = λ q lt. elim (cases_eq q i) [ inl s ↦ rw s e | inr s ↦ h q (omega arith) ]

-- no other answer fits
pub first_only : (i : ℕ) (f : ℕ → Bool) (o : Option ℕ) → Lowest i f o → o ≡ first i f
first_only i f o h = go o (first i f) h (first_is i f)
  where
    go : (o o' : Option ℕ) → Lowest i f o → Lowest i f o' → o ≡ o'
    go None None h k = refl
    go None (Some p) h (pl, pe, ph) = absurd (both_ways _ (h p pl) pe)
    go (Some p) None (pl, pe, ph) k = absurd (both_ways _ (k p pl) pe)
    go (Some p) (Some q) (pl, pe, ph) (ql, qe, qh) =
        ap Some
        (elim (cases_lt p q) [
          | inl x ↦ absurd (both_ways _ (qh p x) pe)
          | inr x ↦ elim (cases_lt q p) [ inl y ↦ absurd (both_ways _ (ph q y) qe) | inr y ↦ omega arith ]
        ])

-- ---- the numbers that pass, as a list

pub listed_same : (i : ℕ) (f g : ℕ → Bool) → ((q : ℕ) → q < i → f q ≡ g q) → listed i f ≡ listed i g
unfolding listed
listed_same zero f g e = refl
listed_same (suc i) f g e =
    ap₂ (λ (l : List ℕ) (b : Bool). l ++ (if b then i ∷ [] else [])) (listed_same i f g (λ q h. e q (omega arith))) (e i (omega arith))

-- none passes
pub listed_none : (i : ℕ) (f : ℕ → Bool) → ((q : ℕ) → q < i → f q ≡ false) → listed i f ≡ []
unfolding listed
listed_none zero f e = refl
listed_none (suc i) f e =
    ap₂ (λ (l : List ℕ) (b : Bool). l ++ (if b then i ∷ [] else [])) (listed_none i f (λ q h. e q (omega arith))) (e i (omega arith))

-- the lowest comes first, and the others after it
pub listed_first : (i : ℕ) (f : ℕ → Bool) (p : ℕ) → Lowest i f (Some p) → listed i f ≡ p ∷ listed i (λ q. f q && not (eqb q p))
unfolding listed
listed_first zero f p (l, e, n) = absurd (not-suc-le-zero l)
listed_first (suc i) f p (l, e, n) =
    elim (cases_eq p i) [
      | inl s ↦
          ap₂ (λ (l : List ℕ) (b : Bool). l ++ (if b then i ∷ [] else [])) (listed_none i f (λ q h. n q (omega arith))) (ap f (sym s) ∙ e)
          ∙ ap (λ (n : ℕ). n ∷ []) (sym s)
          ∙ sym
          (ap₂ (λ (l : List ℕ) (b : Bool). p ∷ (l ++ (if b then i ∷ [] else [])))
          (listed_none i (λ q. f q && not (eqb q p)) (λ q h. and_left (f q) _ (n q (omega arith))))
          (and_right (f i) _ (not_from_true (eqb i p) (eq-eqb i p (sym s)))))
      | inr s ↦
          ap₂ (λ (l : List ℕ) (b : Bool). l ++ (if b then i ∷ [] else [])) (listed_first i f p (omega arith, e, n))
          (sym (ap (λ (t : Bool). f i && not t) (ne_eqb i p (λ z. s (sym z))) ∙ and-true (f i)))
    ]

-- without its lowest member, a set has the others
pub members_step : (m p : ℕ) → Lowest width (has m) (Some p)
    → members_of m ≡ p ∷ members_of (mask_of width (λ q. has m q && not (eqb q p)))
members_step m p low =
    listed_first width (has m) p low ∙ ap (λ (l : List ℕ). p ∷ l) (listed_same width _ _ (λ q h. sym (has_mask width (λ q. has m q && not (eqb q p)) q h)))

-- ---- sets of numbers with room in a mask

-- what a set holds has room in a mask
abbrev pub Narrow : ℕ → Type 0
Narrow m = (q : ℕ) → has m q ≡ true → q < width

pub narrow : (m : ℕ) → m < 2 ^ width → Narrow m
narrow m fits q e = has_below width m q fits e

pub mask_narrow : (m : ℕ) (f : ℕ → Bool) → m ≡ mask_of width f → Narrow m
mask_narrow m f is q e = (has_in width f q (ap (λ (x : ℕ). has x q) (sym is) ∙ e)).0

-- a number with room in a mask is put in
pub has_with : (m i q : ℕ) → Narrow m → i < width → has (inserted m i) q ≡ (has m q || eqb q i)
has_with m i q n few = has_all width _ members q
  where
    members : (r : ℕ) → (has m r || eqb r i) ≡ true → r < width
    members r e = elim (or_cases (has m r) (eqb r i) e) [ inl h ↦ n r h | inr h ↦ let z = eqb-true r i h in omega arith ]
