-- A walk over the members of a mask: what the number that comes, and those that are left, have to do with the mask.
-- Assumes nothing.
use Rattle.std.proofs.Common.{◌≡◌, ℕ, zero, suc, ◌<◌, ◌≤◌, Bool, true, false, ◌&&◌, ◌||◌, eqb, ltb, if◌then◌else◌, [], ◌∷◌, sym, refl, ap, ◌∙◌, ap₂, inl, inr, arith}
use Rattle.std.specs.List.{list_any}
use Rattle.std.proofs.lemmas.List.Folds.{list_any-append}
use Rattle.std.proofs.lemmas.Bool.{cases_eq, lt-ltb, le-ltb, eq-eqb, eqb-true, and_left, and_right}
use Rattle.std.proofs.lemmas.Bool.Decides.{nat_tests}
use Rattle.std.proofs.Math.Bool.{or-false, and_comm}
use Rattle.bits.specs.Sets.{width, has, any, listed, members_of}
use Rattle.bits.proofs.Sets.{any_same}
use Rattle.bits.proofs.Searches.{any_or_here}

-- a number is in the list where it is below the bound and passes
listed_holds : (i : ℕ) (f : ℕ → Bool) (q : ℕ) → list_any (eqb q) (listed i f) ≡ (ltb q i && f q)
unfolding listed
listed_holds zero f q = sym (ap (λ (b : Bool). b && f q) (le-ltb q 0 (omega arith)))
listed_holds (suc i) f q =
    list_any-append (eqb q) (listed i f) (if f i then i ∷ [] else []) ∙ ap₂ (λ (a b : Bool). a || b) (listed_holds i f q) (last (f i))
    ∙ both (f q) (f i) (λ e. ap f e)
  where
    last : (b : Bool) → list_any (eqb q) (if b then i ∷ [] else []) ≡ (eqb q i && b)
    last true = grind (arith, nat_tests)
    last false = grind (arith, nat_tests)

    both : (a b : Bool) → (q ≡ i → a ≡ b) → ((ltb q i && a) || (eqb q i && b)) ≡ (ltb q (suc i) && a)
    both a b same = elim (cases_eq q i) [ inl e ↦ rw (same e) (grind (arith, nat_tests)) | inr n ↦ grind (arith, nat_tests) ]

-- nothing is left
pub members_none : (m : ℕ) → members_of m ≡ [] → (q : ℕ) → q < width → has m q ≡ false
members_none m e q h =
    sym (ap (λ (b : Bool). b && has m q) (lt-ltb q width h)) ∙ sym (listed_holds width (has m) q) ∙ ap (list_any (eqb q)) e

-- ---- a walk puts those that pass f into the set a: those put in, with those that are still to be, are the same at each turn

pub step_done : (m : ℕ) → members_of m ≡ [] → (a f : ℕ → Bool) → (q : ℕ) → q < width → a q ≡ (a q || (has m q && f q))
step_done m none a f q h = sym (ap (λ (b : Bool). a q || b) (and_left (has m q) (f q) (members_none m none q h)) ∙ or-false (a q))

-- p came from m, and n is left
module _ (m p n : ℕ) (step : members_of m ≡ p ∷ members_of n) where
  pub step_has : (q : ℕ) → q < width → has m q ≡ (eqb q p || has n q)
  step_has q h =
      sym (ap (λ (b : Bool). b && has m q) (lt-ltb q width h)) ∙ sym (listed_holds width (has m) q) ∙ ap (list_any (eqb q)) step
      ∙ ap (λ (b : Bool). eqb q p || b) (listed_holds width (has n) q ∙ ap (λ (b : Bool). b && has n q) (lt-ltb q width h))

  -- where some member passes, p does or one of those that are left
  pub step_any : (i : ℕ) (f : ℕ → Bool) → i ≤ width → ((r : ℕ) → f r ≡ true → r < i)
      → any i (λ r. has m r && f r) ≡ (f p || any i (λ r. has n r && f r))
  step_any i f few below =
      any_same i _ _ (λ r l. ap (λ (b : Bool). b && f r) (step_has r (omega arith)) ∙ and_comm (eqb r p || has n r) (f r))
      ∙ any_or_here i i p f (λ r. eqb r p) (has n) (omega arith) below (eq-eqb p p refl) (λ r e. eqb-true r p e)
      ∙ ap (λ (b : Bool). f p || b) (any_same i _ _ (λ r l. and_comm (f r) (has n r)))

  pub step_kept : (a f : ℕ → Bool) → f p ≡ true → (q : ℕ) → q < width → ((a q || eqb q p) || (has n q && f q)) ≡ (a q || (has m q && f q))
  step_kept a f e q h =
      kept (a q) (eqb q p) (has n q) (f q) (λ s. ap f (eqb-true q p s) ∙ e) ∙ ap (λ (b : Bool). a q || (b && f q)) (sym (step_has q h))
    where
      kept : (x y z w : Bool) → (y ≡ true → w ≡ true) → ((x || y) || (z && w)) ≡ (x || ((y || z) && w))
      kept true y z w k = refl
      kept false true z w k = sym (k refl)
      kept false false z w k = refl

  pub step_passed : (a f : ℕ → Bool) → f p ≡ false → (q : ℕ) → q < width → (a q || (has n q && f q)) ≡ (a q || (has m q && f q))
  step_passed a f e q h =
      passed (a q) (eqb q p) (has n q) (f q) (λ s. ap f (eqb-true q p s) ∙ e) ∙ ap (λ (b : Bool). a q || (b && f q)) (sym (step_has q h))
    where
      passed : (x y z w : Bool) → (y ≡ true → w ≡ false) → (x || (z && w)) ≡ (x || ((y || z) && w))
      passed true y z w k = refl
      passed false true z w k = and_right z w (k refl) ∙ sym (k refl)
      passed false false z w k = refl
