-- Footprints: the columns that a step reads and writes, and when two steps meet in a column.
use Rattle.std.specs.Prelude.{◌≡◌, ℕ, Bool, true, if◌then◌else◌, ◌&&◌, ◌||◌, ◌⊎◌, nat_lt}
use Rattle.bits.specs.Sets.{has, inserted, any}
use Rattle.sheets.specs.declared.footprints.Footprint.{Footprint}
use Rattle.sheets.specs.Limits.{columns}

-- reads and writes nothing
abbrev pub blank : Footprint
blank = record { reads = record { bits = 0 }; writes = record { bits = 0 } }

-- the footprint f, which reads column c too
abbrev pub reading : ℕ → Footprint → Footprint
reading c f = record { reads = record { bits = inserted f.reads.bits c }; writes = f.writes }

-- the footprint f, which writes column c too
abbrev pub writing : ℕ → Footprint → Footprint
writing c f = record { reads = f.reads; writes = record { bits = inserted f.writes.bits c } }

-- a column above the last is refused: column_refusal 32 is 8
abbrev pub column_refusal : ℕ → ℕ
column_refusal c = if nat_lt c columns then 0 else 8

-- whether f writes column c
abbrev pub writes_in : Footprint → ℕ → Bool
writes_in f c = has f.writes.bits c

-- whether f reads or writes column c
abbrev pub touches : Footprint → ℕ → Bool
touches f c = has f.reads.bits c || has f.writes.bits c

-- whether a and b meet in column c: one writes it, and the other reads or writes it. writing 7 blank and reading 7 blank meet in 7;
-- two that only read 7 do not
abbrev pub meets_in : Footprint → Footprint → ℕ → Bool
meets_in a b c = (writes_in a c && touches b c) || (writes_in b c && touches a c)

-- whether they meet in some column
abbrev pub meeting : Footprint → Footprint → Bool
meeting a b = any columns (meets_in a b)

-- a and b meet in column c, as a statement
abbrev pub MeetsIn : Footprint → Footprint → ℕ → Type 0
MeetsIn a b c = ((writes_in a c ≡ true) × (touches b c ≡ true)) ⊎ ((writes_in b c ≡ true) × (touches a c ≡ true))
