-- Laws of tests.
-- Assumes nothing.
use Rattle.std.proofs.Common.{◌≡◌, ℕ, ◌+◌, Bool, true, false, eqb, ltb, sym, refl, ◌∙◌, inl, inr, arith}
use Rattle.std.proofs.lemmas.Bool.{cases_eq, eq-eqb, ne_eqb}
use Rattle.std.proofs.lemmas.Bool.Decides.{nat_tests}

-- two tests that pass together are equal
pub same_tests : (b c : Bool) → (b ≡ true → c ≡ true) → (c ≡ true → b ≡ true) → b ≡ c
same_tests true c h k = sym (h refl)
same_tests false true h k = k refl
same_tests false false h k = refl

pub eqb_swap : (i j : ℕ) → eqb i j ≡ eqb j i
eqb_swap i j =
    elim (cases_eq i j) [
      | inl e ↦ eq-eqb i j e ∙ sym (eq-eqb j i (sym e))
      | inr n ↦ ne_eqb i j n ∙ sym (ne_eqb j i (λ e. n (sym e)))
    ]

-- a bound that is one higher lets in one number more
pub ltb_beside : (r p : ℕ) → (r ≡ p → ⊥) → ltb r p ≡ ltb r (p + 1)
ltb_beside r p n = grind (arith, nat_tests)
