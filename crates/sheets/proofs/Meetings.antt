-- When two footprints meet.
-- Assumes nothing.
use Rattle.std.proofs.Common.{◌≡◌, ℕ, ◌<◌, Bool, true, ◌&&◌, ◌||◌, Decides, ap, ◌∙◌, ap₂, inl, inr}
use Rattle.std.proofs.lemmas.Bool.{and_parts, and_from, or_cases, or_left, or_right}
use Rattle.bits.specs.Sets.{width, has, mask_of, Members}
use Rattle.bits.proofs.Sets.{mask_same, any_some, any_of}
use Rattle.sheets.specs.declared.footprints.Footprint.{Footprint}
use Rattle.sheets.specs.Limits.{columns}
use Rattle.sheets.specs.Footprints.{writes_in, touches, meets_in, meeting, MeetsIn}

-- what a writes of t, the columns that b touches
pub writes_touched : (a b : Footprint) (t m : ℕ) → Members t (touches b) → Members m (λ q. has a.writes.bits q && has t q)
    → Members m (λ q. writes_in a q && touches b q)
writes_touched a b t m et em q h = em q h ∙ ap (λ (x : Bool). writes_in a q && x) (et q h)

-- the columns in which they meet, from the two halves x and y
pub meeting_mask : (a b : Footprint) (x y : ℕ) → Members x (λ q. writes_in a q && touches b q) → Members y (λ q. writes_in b q && touches a q)
    → mask_of width (λ q. has x q || has y q) ≡ mask_of columns (meets_in a b)
meeting_mask a b x y ex ey = mask_same width _ _ (λ q h. ap₂ (λ (v w : Bool). v || w) (ex q h) (ey q h))

-- two footprints meet exactly where some column is written by one and read or written by the other
pub meets_in_column : (a b : Footprint) → Decides (meeting a b) ((c : ℕ) × (c < columns) × MeetsIn a b c)
meets_in_column a b = (to_column, from_column)
  where
    to_column : meeting a b ≡ true → (c : ℕ) × (c < columns) × MeetsIn a b c
    to_column e =
        let (c, h, k) = any_some columns (meets_in a b) e in (
          c,
          h,
          elim (or_cases (writes_in a c && touches b c) (writes_in b c && touches a c) k) [
            | inl x ↦ inl (and_parts (writes_in a c) (touches b c) x)
            | inr x ↦ inr (and_parts (writes_in b c) (touches a c) x)
          ],
        )

    from_column : ((c : ℕ) × (c < columns) × MeetsIn a b c) → meeting a b ≡ true
    from_column (c, l, inl (w, t)) = any_of columns (meets_in a b) c l (or_left _ _ (and_from _ _ w t))
    from_column (c, l, inr (w, t)) = any_of columns (meets_in a b) c l (or_right _ _ (and_from _ _ w t))
