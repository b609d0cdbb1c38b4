-- The places of a set: each step of it once, and after what leads to it.
-- Assumes nothing.
use Rattle.std.proofs.Common.{◌≡◌, ℕ, zero, suc, ◌+◌, ◌<◌, ◌≤◌, Bool, true, false, cond, not, ◌&&◌, eqb, ltb, List, [], ◌∷◌, Some, None, Option, sym, refl, ◌∙◌, inl, inr, not-suc-le-zero, arith}
use Rattle.std.proofs.lemmas.Bool.{false≢true, both_ways, not-true, not_from_false, not_from_true, eq-eqb, ne_eqb, cases_Bool, cases_eq, and_parts, and_from, and_left, and_right, or_left, or_right}
use Rattle.bits.specs.Sets.{has, any, first, mask_of, Lowest}
use Rattle.bits.proofs.Sets.{any_some, any_of, first_is, has_of, has_all}
use Rattle.orientations.specs.Placing.{candidate, places, before, times}
use Rattle.orientations.proofs.Counts.{count, count_less}

-- every step of U is below i
abbrev pub Below : ℕ → ℕ → Type 0
Below i U = (p : ℕ) → has U p ≡ true → p < i

-- U without m
abbrev pub less : ℕ → ℕ → ℕ → ℕ
less i U m = mask_of i (λ q. has U q && not (eqb q m))

pub has_less : (i U m : ℕ) → Below i U → (p : ℕ) → has (less i U m) p ≡ (has U p && not (eqb p m))
has_less i U m b p = has_all i (λ q. has U q && not (eqb q m)) (λ q e. b q (and_parts _ _ e).0) p

-- every set with a step has a candidate
abbrev pub Rooted : (ℕ → ℕ → Bool) → ℕ → Type 0
Rooted R i = (U p : ℕ) → Below i U → has U p ≡ true → (m : ℕ) × (candidate R i U m ≡ true)

pub candidate_in : (R : ℕ → ℕ → Bool) (i U m : ℕ) → candidate R i U m ≡ true → has U m ≡ true
unfolding candidate
candidate_in R i U m e = (and_parts (has U m) (not (any i (λ q. has U q && R q m))) e).0

-- nothing of U leads to a candidate
pub candidate_free : (R : ℕ → ℕ → Bool) (i U m : ℕ) → candidate R i U m ≡ true → (q : ℕ) → q < i → has U q ≡ true → R q m ≡ true → ⊥
unfolding candidate
candidate_free R i U m e q l u r =
    both_ways (any i (λ q. has U q && R q m)) (not-true _ (and_parts (has U m) (not (any i (λ q. has U q && R q m))) e).1)
    (any_of i (λ q. has U q && R q m) q l (and_from (has U q) (R q m) u r))

pub candidate_of : (R : ℕ → ℕ → Bool) (i U m : ℕ) → has U m ≡ true → ((q : ℕ) → q < i → has U q ≡ true → R q m ≡ true → ⊥)
    → candidate R i U m ≡ true
unfolding candidate
candidate_of R i U m u free =
    and_from (has U m) _ u
    (not_from_false _
    (elim (cases_Bool (any i (λ q. has U q && R q m))) [
      | inr e ↦ e
      | inl e ↦
          let (q, l, k) = any_some i (λ q. has U q && R q m) e in
          let (x, y) = and_parts (has U q) (R q m) k in
          absurd (free q l x y)
    ]))

module _ (R : ℕ → ℕ → Bool) (i : ℕ) (irr : (p : ℕ) → R p p ≡ false) (tra : (q r p : ℕ) → R q r ≡ true → R r p ≡ true → R q p ≡ true) where
  fewer : (U p q : ℕ) → q < i → has U q ≡ true → R q p ≡ true
      → count i (λ r. has U r && R r q) < count i (λ r. has U r && R r p)
  fewer U p q l h e =
      count_less i (λ r. has U r && R r q) (λ r. has U r && R r p)
      (λ r _ k. let (x, y) = and_parts _ _ k in and_from _ _ x (tra r q p y e)) q l
      (and_right (has U q) (R q q) (irr q)) (and_from _ _ h e)

  find : (U : ℕ) (k p : ℕ) → has U p ≡ true → count i (λ q. has U q && R q p) < k → (m : ℕ) × (candidate R i U m ≡ true)
  unfolding candidate
  find U zero p h l = absurd (not-suc-le-zero l)
  find U (suc k) p h l =
      elim (cases_Bool (any i (λ q. has U q && R q p))) [
        | inr e ↦ (p, and_from _ _ h (not_from_false _ e))
        | inl e ↦
            let (q, lt, x) = any_some i (λ q. has U q && R q p) e in
            let (y, z) = and_parts (has U q) (R q p) x in
            find U k q y (let f = fewer U p q lt y z in omega arith)
      ]

  -- an order without circles leaves a candidate in every set
  pub rooted : Rooted R i
  rooted U p b h = find U (suc (count i (λ q. has U q && R q p))) p h (omega arith)

-- a set that counts 0 has no step
empty_of : (i U : ℕ) → Below i U → count i (has U) ≤ 0 → (p : ℕ) → has U p ≡ false
empty_of i U b h p =
    elim (cases_Bool (has U p)) [
      | inr e ↦ e
      | inl e ↦
          let z = count_less i (λ _. false) (has U) (λ q _ x. absurd (false≢true x)) p (b p e) refl e in
          absurd (omega arith)
    ]

-- what is shown of the places w of U: each step once, and after what leads to it
pub record Placed (R : ℕ → ℕ → Bool) (U : ℕ) (w : List ℕ) : Type 0 where
  pub once : (p : ℕ) → times w p ≡ cond (has U p) 1 0
  pub after : (q p : ℕ) → has U q ≡ true → has U p ≡ true → R q p ≡ true → before p w q ≡ true

none_placed : (R : ℕ → ℕ → Bool) (U : ℕ) → ((p : ℕ) → has U p ≡ false) → Placed R U []
unfolding times
none_placed R U h = record { once = λ p. rw (h p); after = λ q p x. absurd (both_ways _ (h q) x) }

module _ (R : ℕ → ℕ → Bool) (i : ℕ) where
  kept : (U m p : ℕ) → Below i U → has U p ≡ true → (m ≡ p → ⊥) → has (less i U m) p ≡ true
  kept U m p b y s = has_less i U m b p ∙ and_from _ _ y (not_from_false _ (ne_eqb p m (λ t. s (sym t))))

  one_placed : (U m : ℕ) (w : List ℕ) → Below i U → candidate R i U m ≡ true → Placed R (less i U m) w → Placed R U (m ∷ w)
  unfolding times before
  one_placed U m w b l h =
      let mU = candidate_in R i U m l in
      record {
        once =
            λ p.
            rw (h.once p, has_less i U m b p)
            (elim (cases_eq m p) [
              | inl s ↦ let y : has U p ≡ true = rw s at mU in rw (eq-eqb m p s, eq-eqb p m (sym s), y)
              | inr s ↦ rw (ne_eqb m p s, ne_eqb p m (λ t. s (sym t))) (elim (cases_Bool (has U p)) [ inl y ↦ rw y | inr y ↦ rw y ])
            ]);
        after =
            λ q p x y z.
            let apart : m ≡ p → ⊥ = λ s. candidate_free R i U m l q (b q x) x (rw s z) in
            and_from _ _ (not_from_false _ (ne_eqb m p apart))
            (elim (cases_eq m q) [
              | inl s ↦ or_left _ _ (eq-eqb m q s)
              | inr s ↦ or_right _ _ (h.after q p (kept U m q b x s) (kept U m p b y apart) z)
            ]);
      }

  pub places_placed : Rooted R i → (k U : ℕ) → Below i U → count i (has U) ≤ k → Placed R U (places R i k U)
  unfolding places
  places_placed root zero U b c = none_placed R U (empty_of i U b c)
  places_placed root (suc k) U b c =
      go (first i (candidate R i U)) (first_is i (candidate R i U)) (λ m l. places_placed root k (less i U m) (less_below m) (less_count m l))
    where
      less_below : (m : ℕ) → Below i (less i U m)
      less_below m p e = b p (and_parts _ _ (sym (has_less i U m b p) ∙ e)).0

      less_count : (m : ℕ) → candidate R i U m ≡ true → count i (has (less i U m)) ≤ k
      less_count m l =
          let mU = candidate_in R i U m l in
          let z =
          count_less i (has (less i U m)) (has U) (λ p _ e. (and_parts _ _ (sym (has_less i U m b p) ∙ e)).0) m (b m mU)
          (has_less i U m b m ∙ and_right _ _ (not_from_true _ (eq-eqb m m refl))) mU in
          omega arith

      go : (o : Option ℕ) → Lowest i (candidate R i U) o
          → ((m : ℕ) → candidate R i U m ≡ true → Placed R (less i U m) (places R i k (less i U m)))
          → Placed R U (elim o [ None ↦ [] | Some p ↦ p ∷ places R i k (less i U p) ])
      go None h r =
          none_placed R U
          (λ p.
          elim (cases_Bool (has U p)) [
            | inr e ↦ e
            | inl e ↦ let (m, l) = root U p b e in absurd (both_ways _ (h m (b m (candidate_in R i U m l))) l)
          ])
      go (Some m) h r = one_placed U m _ b h.1 (r m h.1)

-- whatever leads where, no step is placed twice, and none that is not in the set
pub places_once : (R : ℕ → ℕ → Bool) (i k U : ℕ) (p : ℕ) → times (places R i k U) p ≤ cond (has U p) 1 0
unfolding places times
places_once R i zero U p = omega arith
places_once R i (suc k) U p = go (first i (candidate R i U)) (first_is i (candidate R i U)) (λ m. places_once R i k (less i U m) p)
  where
    -- m counts once, and is not left
    one : (m : ℕ) → has U m ≡ true → times (places R i k (less i U m)) p ≤ cond (has (less i U m) p) 1 0
        → cond (eqb m p) 1 0 + times (places R i k (less i U m)) p ≤ cond (has U p) 1 0
    one m u h =
        let is = has_of i (λ q. has U q && not (eqb q m)) p in
        elim (cases_eq m p) [
          | inl s ↦
              let gone : has (less i U m) p ≡ false =
              is ∙ and_right (ltb p i) (has U p && not (eqb p m)) (and_right (has U p) (not (eqb p m)) (not_from_true (eqb p m) (eq-eqb p m (sym s)))) in
              let none = rw gone at h in
              let there : has U p ≡ true = rw s at u in
              rw (eq-eqb m p s, there) (omega arith)
          | inr s ↦
              rw (ne_eqb m p s)
              (elim (cases_Bool (has U p)) [
                | inl y ↦ let small = bit_small (has (less i U m) p) in rw y (omega arith)
                | inr y ↦
                    let gone : has (less i U m) p ≡ false =
                    is ∙ and_right (ltb p i) (has U p && not (eqb p m)) (and_left (has U p) (not (eqb p m)) y) in
                    let none = rw gone at h in
                    rw y (omega arith)
              ])
        ]
      where
        bit_small : (b : Bool) → cond b 1 0 ≤ 1
        bit_small true = omega arith
        bit_small false = omega arith

    go : (o : Option ℕ) → Lowest i (candidate R i U) o → ((m : ℕ) → times (places R i k (less i U m)) p ≤ cond (has (less i U m) p) 1 0)
        → times (elim o as (λ _. List ℕ) [ None ↦ [] | Some m ↦ m ∷ places R i k (less i U m) ]) p ≤ cond (has U p) 1 0
    go None h r = omega arith
    go (Some m) h r = one m (candidate_in R i U m h.1) (r m)
