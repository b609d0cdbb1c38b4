-- What `places`, arrows and ancestors look at and reach: numbers below their bounds alone.
-- Assumes nothing.
use Rattle.std.proofs.Common.{◌≡◌, ℕ, zero, suc, ◌<◌, ◌≤◌, Bool, true, false, not, ◌&&◌, ◌||◌, eqb, List, [], ◌∷◌, length, take, Some, None, Option, sym, refl, ap, ◌∙◌, ap₂, inl, inr, not-suc-le-zero, arith, take_all}
use Rattle.std.proofs.lemmas.Bool.{both_ways, cases_lt, eq-eqb, not_from_true, and_right, and_from, and_parts, or_from}
use Rattle.std.proofs.lemmas.Bool.{false_from_ne_true}
use Rattle.bits.specs.Sets.{has, mask_of, any, first, Lowest}
use Rattle.bits.proofs.Sets.{has_mask, has_in, any_some, first_is}
use Rattle.bits.proofs.Searches.{PassesOn, any_alike, first_alike}
use Rattle.sheets.specs.Graphs.{Graph}
use Rattle.orientations.specs.Placing.{candidate, places}
use Rattle.orientations.specs.Rows.{grown, pointed, ancestor}
use Rattle.orientations.proofs.Chains.{chain_below, ancestor_is}
use Rattle.orientations.proofs.Counts.{count, count_le, count_less}

-- ---- places

-- what is left of U below i when p is placed
abbrev left : ℕ → ℕ → ℕ → ℕ
left i U p = mask_of i (λ q. has U q && not (eqb q p))

-- p and what comes after it, where some p comes next
abbrev next : (ℕ → List ℕ) → Option ℕ → List ℕ
next rest o = elim o [ None ↦ [] | Some p ↦ p ∷ rest p ]

next_same : (f f' : ℕ → List ℕ) → ((p : ℕ) → f p ≡ f' p) → (o : Option ℕ) → next f o ≡ next f' o
next_same f f' e None = refl
next_same f f' e (Some p) = ap (λ w. p ∷ w) (e p)

next_cut : (k : ℕ) (f f' : ℕ → List ℕ) → ((p : ℕ) → take k (f p) ≡ f' p) → (o : Option ℕ) → take (suc k) (next f o) ≡ next f' o
next_cut k f f' e None = refl
next_cut k f f' e (Some p) = ap (λ w. p ∷ w) (e p)

module _ (R : ℕ → ℕ → Bool) where
  -- each member of U below i is one of U' below j
  module _ (i j U U' : ℕ) (to : PassesOn i (has U) j (has U')) where
    leads_on : (p : ℕ) → PassesOn i (λ q. has U q && R q p) j (λ q. has U' q && R q p)
    leads_on p q l e =
        let (u, r) = and_parts (has U q) (R q p) e in
        let (l', u') = to q l u in
        (l', and_from _ _ u' r)

    left_on : (p : ℕ) → PassesOn i (has (left i U p)) j (has (left j U' p))
    left_on p q l e =
        let (u, n) = and_parts (has U q) (not (eqb q p)) (has_in i _ q e).1 in
        let (l', u') = to q l u in
        (l', has_mask j _ q l' ∙ and_from _ _ u' n)

  candidate_on : (i j U U' : ℕ) → PassesOn i (has U) j (has U') → PassesOn j (has U') i (has U)
      → PassesOn i (candidate R i U) j (candidate R j U')
  unfolding candidate
  candidate_on i j U U' to from p l e =
      let (u, free) = and_parts (has U p) (not (any i (λ q. has U q && R q p))) e in
      let (l', u') = to p l u in
      (l', and_from _ _ u' (ap not (any_alike j i _ _ (leads_on j i U' U from p) (leads_on i j U U' to p)) ∙ free))

  -- only the members below the bound count, and the bound may be any that they stay under
  pub places_alike : (i j k U U' : ℕ) → PassesOn i (has U) j (has U') → PassesOn j (has U') i (has U) → places R i k U ≡ places R j k U'
  unfolding places
  places_alike i j zero U U' to from = refl
  places_alike i j (suc k) U U' to from =
      next_same _ _ (λ p. places_alike i j k (left i U p) (left j U' p) (left_on i j U U' to p) (left_on j i U' U from p))
      (first i (candidate R i U))
      ∙ ap (next (λ p. places R j k (left j U' p)))
      (first_alike i j _ _ (candidate_on i j U U' to from) (candidate_on j i U' U from to))

  -- sets that agree below the bound
  pub places_same : (i k U U' : ℕ) → ((q : ℕ) → q < i → has U q ≡ has U' q) → places R i k U ≡ places R i k U'
  places_same i k U U' e = places_alike i i k U U' (λ q l h. (l, sym (e q l) ∙ h)) (λ q l h. (l, e q l ∙ h))

  -- a set that stays below i
  pub places_bound : (i j k U : ℕ) → i ≤ j → ((q : ℕ) → has U q ≡ true → q < i) → places R j k U ≡ places R i k U
  places_bound i j k U h below = places_alike j i k U U (λ q l e. (below q e, e)) (λ q l e. (omega arith, e))

  -- with room for fewer places, the list is cut there
  pub places_cut : (i k m U : ℕ) → k ≤ m → take k (places R i m U) ≡ places R i k U
  unfolding places
  places_cut i zero m U h = refl
  places_cut i (suc k) zero U h = absurd (not-suc-le-zero h)
  places_cut i (suc k) (suc m) U h =
      next_cut k _ _ (λ p. places_cut i k m (left i U p) (omega arith)) (first i (candidate R i U))

-- ---- how many places there are

module _ (R : ℕ → ℕ → Bool) where
  next_few : (i U n : ℕ) (f : ℕ → List ℕ) → ((p : ℕ) → p < i → has U p ≡ true → length (f p) < n)
      → (o : Option ℕ) → Lowest i (candidate R i U) o → length (next f o) ≤ n
  unfolding candidate
  next_few i U n f few None h = omega arith
  next_few i U n f few (Some p) (l, e, low) = few p l (and_parts (has U p) _ e).0

  places_counted : (i k U : ℕ) → length (places R i k U) ≤ count i (has U)
  unfolding places
  places_counted i zero U = omega arith
  places_counted i (suc k) U =
      next_few i U _ _
      (λ p l e. let a = places_counted i k (left i U p) in let b = less p l e in omega arith)
      (first i (candidate R i U)) (first_is i (candidate R i U))
    where
      less : (p : ℕ) → p < i → has U p ≡ true → count i (has (left i U p)) < count i (has U)
      less p l e =
          count_less i _ _ (λ q l h. (and_parts (has U q) _ (has_in i _ q h).1).0) p l
          (has_mask i _ p l ∙ and_right (has U p) _ (not_from_true _ (eq-eqb p p refl))) e

  -- no more places than numbers below the bound
  pub places_few : (i k U : ℕ) → length (places R i k U) ≤ i
  places_few i k U = let a = places_counted i k U in let b = count_le i (has U) in omega arith

  -- so room for more changes nothing
  pub places_enough : (i k U : ℕ) → i ≤ k → places R i k U ≡ places R i i U
  places_enough i k U h = sym (take_all i (places R i k U) (places_few i k U)) ∙ places_cut R i i k U h

  -- the whole list, cut to the room for k
  pub places_room : (i k U : ℕ) → take k (places R i i U) ≡ places R i k U
  places_room i k U =
      elim (cases_lt k i) [
        | inl l ↦ places_cut R i k i U (omega arith)
        | inr l ↦ let few = places_few i i U in take_all k (places R i i U) (omega arith) ∙ sym (places_enough i k U l)
      ]

-- ---- arrows and ancestors

-- R holds of numbers below i alone
abbrev pub Stays : ℕ → (ℕ → ℕ → Bool) → Type 0
Stays i R = (q p : ℕ) → R q p ≡ true → (q < i) × (p < i)

-- ancestors are among the steps that have rows, as arrows are
pub ancestor_below : (g : Graph) (o : List ℕ) → Stays (length o) (ancestor g o)
ancestor_below g o q p e = chain_below g o ((ancestor_is g o q p).0 e)

-- a step with no neighbours adds no arrow, and no ancestor
module _ (R : ℕ → ℕ → Bool) (i : ℕ) (E L : ℕ → Bool) (no_E : (r : ℕ) → E r ≡ false) (no_L : (r : ℕ) → L r ≡ false) where
  none : (f h : ℕ → Bool) → ((r : ℕ) → f r ≡ false) → any i (λ r. f r && h r) ≡ false
  none f h off = false_from_ne_true _ (λ e. let (r, l, k) = any_some i (λ r. f r && h r) e in both_ways _ (off r) (and_parts (f r) (h r) k).0)

  drops : (r a b : Bool) → ((r || (a && false)) || (b && false)) ≡ r
  drops true a b = refl
  drops false true true = refl
  drops false true false = refl
  drops false false true = refl
  drops false false false = refl

  pub pointed_idle : (q p : ℕ) → pointed R i E L q p ≡ R q p
  unfolding pointed
  pointed_idle q p =
      ap₂ (λ (x y : Bool). (R q p || (eqb q i && x)) || (eqb p i && y)) (no_L p) (no_E q) ∙ drops (R q p) (eqb q i) (eqb p i)

  pub grown_idle : (q p : ℕ) → grown R i E L q p ≡ R q p
  unfolding grown
  grown_idle q p =
      ap₂
      (λ (x y : Bool). (R q p || ((eqb q i || any i (λ r. E r && (eqb q r || R q r))) && x)) || (eqb p i && y))
      (none L (λ r. eqb r p || R r p) no_L)
      (or_from _ _ (none E (λ r. eqb q r || R q r) no_E)
      (and_right (eqb q i) _ (none L (λ r. any i (λ x. E x && (eqb r x || R r x))) no_L)))
      ∙ drops (R q p) (eqb q i || any i (λ r. E r && (eqb q r || R q r))) (eqb p i)
