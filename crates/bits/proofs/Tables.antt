-- Tables of sets, by their words.
-- Assumes nothing.
use Rattle.std.proofs.Common.{◌≡◌, ℕ, ◌<◌, List, length, get_or, set, take, replicate, sym, ap, ◌∙◌, inl, inr, arith, length-take, get_or-take}
use lib.ListN.{length-replicate}
use Rattle.std.proofs.Math.ListN.{get_or-map}
use Rattle.std.proofs.lemmas.List.{get_or_past, get_or-replicate, map-set, length-map}
use Rattle.std.proofs.lemmas.Bool.{cases_lt}
use Rattle.bits.specs.declared.Mask.{Mask}
use Rattle.bits.specs.Tables.{words}

-- the word of an entry
pub word_at : (xs : List Mask) (i : ℕ) → (get_or xs i (record { bits = 0 })).bits ≡ get_or (words xs) i 0
word_at xs i = sym (get_or-map (λ (m : Mask). m.bits) xs i (record { bits = 0 }))

-- the same for the first n entries
pub word_in : (xs : List Mask) (n i : ℕ) → i < length (take n xs) → (get_or (take n xs) i (record { bits = 0 })).bits ≡ get_or (words xs) i 0
word_in xs n i h = ap (λ (m : Mask). m.bits) (get_or-take n xs i (record { bits = 0 }) (omega (arith, length-take n xs))) ∙ word_at xs i

-- there is a word for each entry
pub words_long : (xs : List Mask) (n : ℕ) → length xs ≡ n → length (words xs) ≡ n
words_long xs n h = length-map xs (λ (m : Mask). m.bits) ∙ h

-- what is there after a write
pub words_set : (xs : List Mask) (i : ℕ) (m : Mask) → words (set xs i m) ≡ set (words xs) i m.bits
words_set xs i m = map-set (λ (m : Mask). m.bits) xs i m

-- a table of empty sets has nothing anywhere
pub blank_at : (n i : ℕ) → ◌≡◌ {A = ℕ} (get_or (replicate n 0) i 0) 0
blank_at n i =
    elim (cases_lt i n) [
      | inl l ↦ get_or-replicate n i 0 0 l
      | inr l ↦ get_or_past (replicate n 0) i 0 (simp length-replicate l)
    ]
