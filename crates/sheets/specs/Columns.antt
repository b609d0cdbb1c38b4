-- The column sheet, by the list of its steps' footprints.
use Rattle.std.specs.Prelude.{ℕ, ◌-◌, ◌<◌, Bool, if◌then◌else◌, not, ◌&&◌, List, [], ◌∷◌, ◌++◌, length, take, ◌==◌, ◌≢◌, nat_lt, slice_index_or, slice_set}
use Rattle.sheets.specs.declared.footprints.Footprint.{Footprint}
use Rattle.sheets.specs.declared.columns.ColumnSheet.{ColumnSheet}
use Rattle.sheets.specs.Limits.{limit, columns}
use Rattle.sheets.specs.Refusals.{settled}
use Rattle.sheets.specs.Graphs.{Graph}
use Rattle.sheets.specs.Footprints.{blank, column_refusal, meeting, MeetsIn}

-- the footprint of each step, step 0 first
abbrev pub footprints : ColumnSheet → List Footprint
footprints s = take s.count s.table

-- two different steps clash when one writes a column that the other reads or writes. In writing 7 blank ∷ reading 7 blank ∷ [] the
-- steps 0 and 1 do
abbrev pub column_clash : List Footprint → ℕ → ℕ → Bool
column_clash fs i j = (nat_lt i (length fs) && nat_lt j (length fs)) && (not (i == j) && meeting (slice_index_or fs i blank) (slice_index_or fs j blank))

-- the same in words: i and j are two different steps, and in some column they meet
abbrev pub ClashInColumn : List Footprint → ℕ → ℕ → Type 0
ClashInColumn fs i j =
    (i < length fs) × (j < length fs) × (i ≢ j)
    × ((c : ℕ) × (c < columns) × MeetsIn (slice_index_or fs i blank) (slice_index_or fs j blank) c)

-- what a column sheet means
abbrev pub column_graph : List Footprint → Graph
column_graph fs = record { steps = length fs; clashes = column_clash fs }

-- a step is refused where the limit is reached
abbrev pub add_refusal : List Footprint → ℕ
add_refusal fs = if nat_lt (length fs) limit then 0 else 7

-- the footprints after a step was to be added: one more, which touches nothing yet
abbrev pub after_add : List Footprint → List Footprint
after_add fs = settled (add_refusal fs) fs (fs ++ (blank ∷ []))

-- a column is refused before any step, and above the last column
abbrev pub note_refusal : List Footprint → ℕ → ℕ
note_refusal fs c = if length fs == 0 then 5 else column_refusal c

-- the footprints with the latest step's changed by f. change_latest (reading 1) (a ∷ b ∷ []) is a ∷ reading 1 b ∷ []
abbrev pub change_latest : (Footprint → Footprint) → List Footprint → List Footprint
change_latest f fs = slice_set fs (length fs - 1) (f (slice_index_or fs (length fs - 1) blank))

-- the footprints after column c was to be noted for the latest step, by f. after_note (reading 1) 1 [] is [], since there is no
-- step, and after_note (reading 32) 32 fs is fs, since there is no such column
abbrev pub after_note : (Footprint → Footprint) → ℕ → List Footprint → List Footprint
after_note f c fs = settled (note_refusal fs c) fs (change_latest f fs)
