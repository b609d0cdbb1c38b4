-- A fence keeps the laws of a sheet where the sheet below does.
-- Assumes nothing.
use Rattle.std.specs.Prelude.{◌≡◌, ℕ, ◌<◌, min, max, Bool, true, false, not, ◌&&◌, ◌||◌, List, ◌==◌, nat_lt, slice_index, refl}
use Rattle.std.proofs.Common.{ap₂, arith}
use Rattle.std.proofs.lemmas.Bool.{ltb-true, eq-eqb, and_parts, and_right, and_left, or_from, not_from_true}
use Rattle.std.proofs.Math.Bool.{and_comm}
use Rattle.bits.specs.Sets.{has}
use Rattle.bits.proofs.Tests.{eqb_swap}
use Rattle.sheets.specs.Graphs.{Graph, Lawful}
use Rattle.sheets.specs.Fences.{fenced, fence_clash, fence_graph}

pub fenced_swap : (pairs : List ℕ) (i j : ℕ) → fenced pairs i j ≡ fenced pairs j i
fenced_swap pairs i j =
    let a : max i j ≡ max j i = omega arith in
    let b : min i j ≡ min j i = omega arith in
    ap₂ (λ (x y : Bool). not x && y) (eqb_swap i j) (ap₂ (λ (x y : ℕ). has (slice_index pairs x) y) a b)

fenced_apart : (pairs : List ℕ) (i : ℕ) → fenced pairs i i ≡ false
fenced_apart pairs i = and_left (not (i == i)) _ (not_from_true (i == i) (eq-eqb i i refl))

module _ (g : Graph) (pairs : List ℕ) where
  inside : (i j : ℕ) → fence_clash g pairs i j ≡ true → (i < g.steps) × (j < g.steps)
  inside i j h =
      let p = and_parts (nat_lt i g.steps && nat_lt j g.steps) (g.clashes i j || fenced pairs i j) h in
      let q = and_parts (nat_lt i g.steps) (nat_lt j g.steps) p.0 in
      (ltb-true i g.steps q.0, ltb-true j g.steps q.1)

  pub fence_lawful : Lawful g → Lawful (fence_graph g pairs)
  fence_lawful below = record {
    few = below.few;
    irreflexive = λ i. and_right (nat_lt i g.steps && nat_lt i g.steps) _ (or_from (g.clashes i i) (fenced pairs i i) (below.irreflexive i) (fenced_apart pairs i));
    symmetric = λ i j.
        ap₂ (λ (x y : Bool). x && y) (and_comm (nat_lt i g.steps) (nat_lt j g.steps))
        (ap₂ (λ (x y : Bool). x || y) (below.symmetric i j) (fenced_swap pairs i j));
    inside = inside;
  }
