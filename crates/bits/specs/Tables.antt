-- Tables of sets.
use Rattle.std.specs.Prelude.{ℕ, List, map}
use Rattle.bits.specs.declared.Mask.{Mask}

-- the words of a table of sets, one for each entry
abbrev pub words : List Mask → List ℕ
words = map (λ m. m.bits)
