-- The column sheet keeps the laws of a sheet.
-- Assumes nothing.
use Rattle.std.specs.Prelude.{◌≡◌, ℕ, ◌<◌, ◌≤◌, Bool, true, false, not, ◌&&◌, List, length, get_or, ◌==◌, nat_lt, slice_index_or, refl}
use Rattle.std.proofs.Common.{ap₂, arith, length-take}
use Rattle.std.proofs.lemmas.Bool.{ltb-true, eq-eqb, and_parts, and_right, and_left, not_from_true}
use Rattle.std.proofs.Math.Bool.{or_comm, and_comm}
use Rattle.bits.proofs.Tests.{eqb_swap}
use Rattle.bits.proofs.Sets.{any_same}
use Rattle.sheets.specs.declared.footprints.Footprint.{Footprint}
use Rattle.sheets.specs.declared.columns.ColumnSheet.{ColumnSheet}
use Rattle.sheets.specs.Limits.{limit, columns}
use Rattle.sheets.specs.Graphs.{Lawful}
use Rattle.sheets.specs.Footprints.{blank, writes_in, touches, meeting}
use Rattle.sheets.specs.Columns.{footprints, column_clash, column_graph}

irreflexive : (fs : List Footprint) (i : ℕ) → column_clash fs i i ≡ false
irreflexive fs i =
    and_right (nat_lt i (length fs) && nat_lt i (length fs)) _
    (and_left (not (i == i)) (meeting (slice_index_or fs i blank) (slice_index_or fs i blank)) (not_from_true (i == i) (eq-eqb i i refl)))

symmetric : (fs : List Footprint) (i j : ℕ) → column_clash fs i j ≡ column_clash fs j i
symmetric fs i j =
    let a : Footprint = get_or fs i blank in
    let b : Footprint = get_or fs j blank in
    ap₂ (λ (x y : Bool). x && y) (and_comm (nat_lt i (length fs)) (nat_lt j (length fs)))
    (ap₂ (λ (x y : Bool). not x && y) (eqb_swap i j) (any_same columns _ _ (λ c h. or_comm (writes_in a c && touches b c) (writes_in b c && touches a c))))

inside : (fs : List Footprint) (i j : ℕ) → column_clash fs i j ≡ true → (i < length fs) × (j < length fs)
inside fs i j h =
    let p = and_parts (nat_lt i (length fs) && nat_lt j (length fs)) (not (i == j) && meeting (slice_index_or fs i blank) (slice_index_or fs j blank)) h in
    let q = and_parts (nat_lt i (length fs)) (nat_lt j (length fs)) p.0 in
    (ltb-true i (length fs) q.0, ltb-true j (length fs) q.1)

-- any list of at most so many footprints
pub footprints_lawful : (fs : List Footprint) → length fs ≤ limit → Lawful (column_graph fs)
footprints_lawful fs few = record {
  few = few;
  irreflexive = irreflexive fs;
  symmetric = symmetric fs;
  inside = inside fs;
}

pub column_lawful : (s : ColumnSheet) → Lawful (column_graph (footprints s))
column_lawful s = footprints_lawful (footprints s) (omega (arith, length-take s.count s.table, s.few))
