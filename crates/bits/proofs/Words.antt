-- What the machine's operations on words do to the members: `<<`, `&`, `|`, `!`, `==` and `trailing_zeros`.
-- Assumes nothing.
use Rattle.std.proofs.Common.{◌≡◌, ℕ, zero, suc, ◌+◌, ◌-◌, ◌*◌, ◌/◌, ◌%◌, ◌^◌, ◌<◌, ◌≤◌, Bool, true, false, not, ◌&&◌, ◌||◌, eqb, ltb, Some, sym, refl, ap, ◌∙◌, inl, inr, not-suc-le-zero, arith, pow_pos, pow_mono}
use lib.Dec.{eqb-suc-suc}
use lib.Bits.{bit_and, bit_or, and_shr, and_mod, or_shr, or_mod}
use lib.Count.{count_trailing_zeros, under}
use lib.Pow.{pow-lt}
use Rattle.std.proofs.lemmas.Bool.{both_ways, not-true, not_from_false, and_from, and_left, and_right, eq-eqb, eqb-true, eqb-false, ne_eqb, lt-ltb, le-ltb, cases_Bool, cases_lt, cases_eq}
use Rattle.std.proofs.lemmas.Nat.{one_shl, or_lt, and_le_l}
use Rattle.std.proofs.Math.Bool.{or-false, and-true}
use Rattle.bits.specs.Sets.{width, has, mask_of, first, Lowest}
use Rattle.bits.proofs.Tests.{same_tests}
use Rattle.bits.proofs.Sets.{has_low, has_suc, has_none, mask_ext, mask_is, mask_same, first_only}

-- ---- a & b, a | b

and_digits : (a b : ℕ) → a < 2 → b < 2 → eqb (bit_and a b) 1 ≡ (eqb a 1 && eqb b 1)
and_digits zero b ha hb = refl
and_digits (suc zero) zero ha hb = refl
and_digits (suc zero) (suc zero) ha hb = refl
and_digits (suc zero) (suc (suc b)) ha hb = absurd (omega arith)
and_digits (suc (suc a)) b ha hb = absurd (omega arith)

pub has_and : (a b p : ℕ) → has (bit_and a b) p ≡ (has a p && has b p)
unfolding has
has_and a b p =
    ap (λ (n : ℕ). eqb (n % 2) 1) (and_shr a b p) ∙ ap (λ (n : ℕ). eqb n 1) (and_mod (a / 2 ^ p) (b / 2 ^ p) 1)
    ∙ and_digits (a / 2 ^ p % 2) (b / 2 ^ p % 2) (omega arith) (omega arith)

or_digits : (a b : ℕ) → a < 2 → b < 2 → eqb (bit_or a b) 1 ≡ (eqb a 1 || eqb b 1)
or_digits zero zero ha hb = refl
or_digits zero (suc zero) ha hb = refl
or_digits zero (suc (suc b)) ha hb = absurd (omega arith)
or_digits (suc zero) zero ha hb = refl
or_digits (suc zero) (suc zero) ha hb = refl
or_digits (suc zero) (suc (suc b)) ha hb = absurd (omega arith)
or_digits (suc (suc a)) b ha hb = absurd (omega arith)

pub has_or : (a b p : ℕ) → has (bit_or a b) p ≡ (has a p || has b p)
unfolding has
has_or a b p =
    ap (λ (n : ℕ). eqb (n % 2) 1) (or_shr a b p) ∙ ap (λ (n : ℕ). eqb n 1) (or_mod (a / 2 ^ p) (b / 2 ^ p) 1)
    ∙ or_digits (a / 2 ^ p % 2) (b / 2 ^ p % 2) (omega arith) (omega arith)

-- ---- 1 << p

pub has_power : (p q : ℕ) → has (2 ^ p) q ≡ eqb q p
has_power zero zero = has_low 1
has_power zero (suc q) = has_suc 1 q ∙ has_none q ∙ sym (ne_eqb (suc q) 0 (omega arith))
has_power (suc p) zero = has_low (2 ^ suc p) ∙ ne_eqb (2 ^ suc p % 2) 1 (omega arith) ∙ sym (ne_eqb 0 (suc p) (omega arith))
has_power (suc p) (suc q) =
    has_suc (2 ^ suc p) q ∙ ap (λ (n : ℕ). has n q) (let z : 2 ^ suc p / 2 ≡ 2 ^ p = omega arith in z) ∙ has_power p q ∙ sym (eqb-suc-suc q p)

-- the one member of `1 << p` in words of w bits
pub has_shifted : (w p q : ℕ) → p < w → has ((1 * 2 ^ p) % 2 ^ w) q ≡ eqb q p
has_shifted w p q h = ap (λ (n : ℕ). has n q) (one_shl p w h) ∙ has_power p q

shifted_lt : (w p : ℕ) → p < w → (1 * 2 ^ p) % 2 ^ w < 2 ^ w
shifted_lt w p h = rw (one_shl p w h) (pow-lt h)

-- ---- !b, and a & !b, in words of w bits

flip : (b : ℕ) → b < 2 → eqb (1 - b) 1 ≡ not (eqb b 1)
flip zero h = refl
flip (suc zero) h = refl
flip (suc (suc b)) h = absurd (omega arith)

pub has_not : (w b q : ℕ) → b < 2 ^ w → q < w → has (2 ^ w - 1 - b) q ≡ not (has b q)
has_not zero b q h l = absurd (not-suc-le-zero l)
has_not (suc w) b zero h l =
    has_low (2 ^ suc w - 1 - b) ∙ ap (λ (n : ℕ). eqb n 1) (let z : (2 ^ suc w - 1 - b) % 2 ≡ 1 - b % 2 = omega arith in z)
    ∙ flip (b % 2) (omega arith) ∙ ap not (sym (has_low b))
has_not (suc w) b (suc q) h l =
    has_suc (2 ^ suc w - 1 - b) q ∙ ap (λ (n : ℕ). has n q) (let z : (2 ^ suc w - 1 - b) / 2 ≡ 2 ^ w - 1 - b / 2 = omega arith in z)
    ∙ has_not w (b / 2) q (omega arith) (omega arith) ∙ ap not (sym (has_suc b q))

pub has_less : (w a b q : ℕ) → b < 2 ^ w → q < w → has (bit_and a (2 ^ w - 1 - b)) q ≡ (has a q && not (has b q))
has_less w a b q h l = has_and a (2 ^ w - 1 - b) q ∙ ap (λ (t : Bool). has a q && t) (has_not w b q h l)

-- ---- the words that set operations give, as sets

pub or_word : (w a b : ℕ) → a < 2 ^ w → b < 2 ^ w → bit_or a b ≡ mask_of w (λ q. has a q || has b q)
or_word w a b ha hb = mask_is w _ _ (or_lt w a b ha hb) (λ q h. has_or a b q)

pub and_word : (w a b : ℕ) → a < 2 ^ w → bit_and a b ≡ mask_of w (λ q. has a q && has b q)
and_word w a b ha = mask_is w _ _ (omega (arith, and_le_l a b)) (λ q h. has_and a b q)

pub less_word : (w a b : ℕ) → a < 2 ^ w → b < 2 ^ w → bit_and a (2 ^ w - 1 - b) ≡ mask_of w (λ q. has a q && not (has b q))
less_word w a b ha hb = mask_is w _ _ (omega (arith, and_le_l a (2 ^ w - 1 - b))) (λ q h. has_less w a b q hb h)

-- `m | 1 << p`
pub with_word : (w m p : ℕ) → m < 2 ^ w → p < w → bit_or m ((1 * 2 ^ p) % 2 ^ w) ≡ mask_of w (λ q. has m q || eqb q p)
with_word w m p hm h =
    mask_is w _ _ (or_lt w m ((1 * 2 ^ p) % 2 ^ w) hm (shifted_lt w p h))
    (λ q l. has_or m ((1 * 2 ^ p) % 2 ^ w) q ∙ ap (λ (t : Bool). has m q || t) (has_shifted w p q h))

-- `m & !(1 << p)`
pub without_word : (w m p : ℕ) → m < 2 ^ w → p < w
    → bit_and m (2 ^ w - 1 - (1 * 2 ^ p) % 2 ^ w) ≡ mask_of w (λ q. has m q && not (eqb q p))
without_word w m p hm h =
    mask_is w _ _ (omega (arith, and_le_l m (2 ^ w - 1 - (1 * 2 ^ p) % 2 ^ w)))
    (λ q l. has_less w m ((1 * 2 ^ p) % 2 ^ w) q (shifted_lt w p h) l ∙ ap (λ (t : Bool). has m q && not t) (has_shifted w p q h))

-- a number that the words have no room for makes no difference
pub with_past : (w m p : ℕ) → m < 2 ^ w → w ≤ p → m ≡ mask_of w (λ q. has m q || eqb q p)
with_past w m p hm h =
    mask_is w _ _ hm (λ q l. sym (ap (λ (t : Bool). has m q || t) (ne_eqb q p (λ e. omega arith)) ∙ or-false (has m q)))

pub without_past : (w m p : ℕ) → m < 2 ^ w → w ≤ p → m ≡ mask_of w (λ q. has m q && not (eqb q p))
without_past w m p hm h =
    mask_is w _ _ hm (λ q l. sym (ap (λ (t : Bool). has m q && not t) (ne_eqb q p (λ e. omega arith)) ∙ and-true (has m q)))

-- ---- (1 << i) - 1: the numbers below i

has_ones : (i q : ℕ) → has (2 ^ i - 1) q ≡ ltb q i
has_ones zero q = has_none q ∙ sym (le-ltb q 0 (omega arith))
has_ones (suc i) zero = has_low (2 ^ suc i - 1) ∙ eq-eqb ((2 ^ suc i - 1) % 2) 1 (omega (arith, pow_pos i)) ∙ sym (lt-ltb 0 (suc i) (omega arith))
has_ones (suc i) (suc q) =
    has_suc (2 ^ suc i - 1) q ∙ ap (λ (n : ℕ). has n q) (let z : (2 ^ suc i - 1) / 2 ≡ 2 ^ i - 1 = omega arith in z) ∙ has_ones i q
    ∙ elim (cases_lt q i) [
      | inl h ↦ lt-ltb q i h ∙ sym (lt-ltb (suc q) (suc i) (omega arith))
      | inr h ↦ le-ltb q i h ∙ sym (le-ltb (suc q) (suc i) (omega arith))
    ]

pub ones_word : (w i : ℕ) → i ≤ w → 2 ^ i - 1 ≡ mask_of w (λ q. ltb q i)
ones_word w i h = mask_is w _ _ (let z = pow_mono h in omega (arith, z, pow_pos w)) (λ q l. has_ones i q)

-- where there is no room for more, all are below
pub below_past : (w i : ℕ) → w ≤ i → mask_of w (λ q. ltb q w) ≡ mask_of w (λ q. ltb q i)
below_past w i h = mask_same w _ _ (λ q l. lt-ltb q w l ∙ sym (lt-ltb q i (omega arith)))

-- ---- a member

-- `m & (1 << p) != 0`: p is a member
pub has_test : (w m p : ℕ) → p < w → not (eqb (bit_and m ((1 * 2 ^ p) % 2 ^ w)) 0) ≡ has m p
has_test w m p h = same_tests _ _ to_has from_has
  where
    bit : ℕ
    bit = (1 * 2 ^ p) % 2 ^ w

    to_has : not (eqb (bit_and m bit) 0) ≡ true → has m p ≡ true
    to_has e =
        elim (cases_Bool (has m p)) [
          | inl x ↦ x
          | inr x ↦
              absurd
              (both_ways _ (not-true _ e)
              (eq-eqb _ _
              (mask_ext _ _
              (λ q.
              has_and m bit q ∙ ap (λ (t : Bool). has m q && t) (has_shifted w p q h)
              ∙ elim (cases_eq q p) [ inl s ↦ and_left (has m q) (eqb q p) (rw s x) | inr s ↦ and_right (has m q) (eqb q p) (ne_eqb q p s) ]
              ∙ sym (has_none q)))))
        ]

    from_has : has m p ≡ true → not (eqb (bit_and m bit) 0) ≡ true
    from_has e =
        not_from_false _
        (ne_eqb _ _
        (λ z.
        both_ways _ (has_none p)
        (rw (← z) (has_and m bit p ∙ and_from _ _ e (has_shifted w p p h ∙ eq-eqb p p refl)))))

-- ---- the lowest member, by `trailing_zeros`

pub trailing : (k m : ℕ) → 0 < m → m < 2 ^ k → Lowest k (has m) (Some (count_trailing_zeros k m))
unfolding count_trailing_zeros
trailing zero m a b = absurd (omega arith)
trailing (suc k) m a b = go (m % 2) refl (λ e. trailing k (m / 2) (omega arith) (omega arith))
  where
    go : (d : ℕ) → m % 2 ≡ d → (m % 2 ≡ 0 → Lowest k (has (m / 2)) (Some (count_trailing_zeros k (m / 2))))
        → Lowest (suc k) (has m) (Some (under d (count_trailing_zeros k (m / 2))))
    go zero e r =
        let (x, y, z) = r e in
        (omega arith, has_suc m _ ∙ y, low)
      where
        low : (q : ℕ) → q < suc (count_trailing_zeros k (m / 2)) → has m q ≡ false
        low zero h = has_low m ∙ ne_eqb (m % 2) 1 (omega arith)
        low (suc q) h = has_suc m q ∙ (r e).2 q (omega arith)
    go (suc d) e r = (omega arith, has_low m ∙ eq-eqb (m % 2) 1 (omega arith), λ q h. absurd (not-suc-le-zero h))

pub first_trailing : (k m : ℕ) → 0 < m → m < 2 ^ k → Some (count_trailing_zeros k m) ≡ first k (has m)
first_trailing k m a b = first_only k (has m) (Some (count_trailing_zeros k m)) (trailing k m a b)

-- ---- m & (m - 1): all members but the lowest

-- from the lowest member up, `m - 1` has what m has but for that member
has_before : (p m q : ℕ) → has m p ≡ true → ((r : ℕ) → r < p → has m r ≡ false) → p ≤ q → has (m - 1) q ≡ (has m q && not (eqb q p))
has_before zero m zero e low h =
    let odd : m % 2 ≡ 1 = eqb-true (m % 2) 1 (sym (has_low m) ∙ e) in
    has_low (m - 1) ∙ ne_eqb ((m - 1) % 2) 1 (omega arith) ∙ sym (ap (λ (t : Bool). t && false) e)
has_before zero m (suc q) e low h =
    let odd : m % 2 ≡ 1 = eqb-true (m % 2) 1 (sym (has_low m) ∙ e) in
    has_suc (m - 1) q ∙ ap (λ (n : ℕ). has n q) (let z : (m - 1) / 2 ≡ m / 2 = omega arith in z) ∙ sym (has_suc m q) ∙ sym (and-true (has m (suc q)))
    ∙ ap (λ (t : Bool). has m (suc q) && not t) (sym (ne_eqb (suc q) 0 (omega arith)))
has_before (suc p) m zero e low h = absurd (omega arith)
has_before (suc p) m (suc q) e low h =
    let even : m % 2 ≡ 0 = let z = eqb-false (m % 2) 1 (sym (has_low m) ∙ low 0 (omega arith)) in omega arith in
    has_suc (m - 1) q ∙ ap (λ (n : ℕ). has n q) (let z : (m - 1) / 2 ≡ m / 2 - 1 = omega arith in z)
    ∙ has_before p (m / 2) q (sym (has_suc m p) ∙ e) (λ r l. sym (has_suc m r) ∙ low (suc r) (omega arith)) (omega arith)
    ∙ ap (λ (t : Bool). t && not (eqb q p)) (sym (has_suc m q)) ∙ ap (λ (t : Bool). has m (suc q) && not t) (sym (eqb-suc-suc q p))

pub rest_word : (w m p : ℕ) → m < 2 ^ w → Lowest w (has m) (Some p) → bit_and m (m - 1) ≡ mask_of w (λ q. has m q && not (eqb q p))
rest_word w m p hm (l, e, low) = mask_is w _ _ (omega (arith, and_le_l m (m - 1))) (λ q h. has_and m (m - 1) q ∙ here q)
  where
    and_twice : (x y : Bool) → (x && (x && y)) ≡ (x && y)
    and_twice true y = refl
    and_twice false y = refl

    here : (q : ℕ) → (has m q && has (m - 1) q) ≡ (has m q && not (eqb q p))
    here q =
        elim (cases_lt q p) [
          | inl h ↦ rw (low q h) refl
          | inr h ↦ rw (has_before p m q e low h) (and_twice (has m q) _)
        ]

-- as the machine takes 1 away: where there is a member, nothing wraps
pub rest_words : (m p : ℕ) → m < 2 ^ width → Lowest width (has m) (Some p)
    → bit_and m ((m + (2 ^ width - 1)) % 2 ^ width) ≡ mask_of width (λ q. has m q && not (eqb q p))
rest_words m p hm (l, e, low) = rw less (rest_word width m p hm (l, e, low))
  where
    some : 0 < m
    some = elim (cases_eq m 0) [
      | inl z ↦ absurd (both_ways _ (rw z (has_none p)) e)
      | inr z ↦ omega arith
    ]

    less : (m + (2 ^ width - 1)) % 2 ^ width ≡ m - 1
    less = omega (arith, some)
