-- Sets of small numbers as masks, and searches over the numbers below a bound.
-- Assumes nothing.
use Rattle.std.specs.Prelude.{◌≡◌, ℕ, zero, suc, ◌+◌, ◌*◌, ◌/◌, ◌%◌, ◌^◌, ◌<◌, Bool, true, false, ◌||◌, if◌then◌else◌, List, [], ◌∷◌, ◌++◌, Some, None, Option, ◌==◌}

-- how many numbers a mask has room for: it holds some of 0 to 31
abbrev pub width : ℕ
width = 32

-- whether p is in the set m: bit p of m. has 6 1 is true and has 6 0 is false
unfoldable pub has : ℕ → ℕ → Bool
has m p = m / 2 ^ p % 2 == 1

-- the set of the p below i with f p. mask_of 3 (has 14) is 6
unfoldable pub mask_of : ℕ → (ℕ → Bool) → ℕ
mask_of zero f = 0
mask_of (suc i) f = (if f 0 then 1 else 0) + 2 * mask_of i (λ p. f (suc p))

-- the set m with p in it too; a p that masks have no room for adds nothing. inserted 1 2 is 5
abbrev pub inserted : ℕ → ℕ → ℕ
inserted m p = mask_of width (λ q. has m q || q == p)

-- m is the set of the numbers with room in a mask that pass f
abbrev pub Members : ℕ → (ℕ → Bool) → Type 0
Members m f = (q : ℕ) → q < width → has m q ≡ f q

-- whether some p below i has f p
unfoldable pub any : ℕ → (ℕ → Bool) → Bool
any zero f = false
any (suc i) f = f i || any i f

-- the lowest p below i with f p. first 32 (has 6) is Some 1
unfoldable pub first : ℕ → (ℕ → Bool) → Option ℕ
first zero f = None
first (suc i) f = elim (first i f) [ Some p ↦ Some p | None ↦ elim (f i) [ true ↦ Some i | false ↦ None ] ]

-- o tells the lowest number below i that passes f: it passes and none below it does; or none passes
abbrev pub Lowest : ℕ → (ℕ → Bool) → Option ℕ → Type 0
Lowest i f (Some p) = (p < i) × (f p ≡ true) × ((q : ℕ) → q < p → f q ≡ false)
Lowest i f None = (q : ℕ) → q < i → f q ≡ false

-- the numbers below i that pass f, rising. listed 32 (has 6) is 1 ∷ 2 ∷ []
unfoldable pub listed : ℕ → (ℕ → Bool) → List ℕ
listed zero f = []
listed (suc i) f = listed i f ++ (if f i then i ∷ [] else [])

-- the members of a mask, rising. members_of 6 is 1 ∷ 2 ∷ []
abbrev pub members_of : ℕ → List ℕ
members_of m = listed width (has m)
