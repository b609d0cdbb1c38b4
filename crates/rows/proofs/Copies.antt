-- What copied clashes mean, and the neighbours that they give.
-- Assumes nothing.
use Rattle.std.proofs.Common.{◌≡◌, ℕ, ◌<◌, ◌≤◌, min, max, Bool, false, ◌&&◌, ◌||◌, ltb, ◌⊎◌, List, get_or, sym, refl, ap, ◌∙◌, ap₂, inl, inr, arith}
use mathlib.Core.Path.{fun_ext}
use Rattle.std.proofs.lemmas.Bool.{lt-ltb, ltb-true, eq-eqb, ne_eqb, and_from, and_parts, cases_lt, cases_order}
use Rattle.bits.specs.Sets.{width, has, mask_of}
use Rattle.bits.proofs.Sets.{mask_alike}
use Rattle.sheets.specs.Graphs.{Graph, Lawful}
use Rattle.sheets.specs.Fences.{fenced, fence_clash, fence_graph}
use Rattle.sheets.specs.FenceLaws.{fenced_swap, fence_lawful}
use Rattle.orientations.specs.Rows.{lower_neighbours}
use Rattle.orientations.proofs.Neighbours.{neighbour_is, clash_past}
use Rattle.rows.specs.Conflicts.{free_graph, free_lawful}

-- below the count two steps clash exactly where they are a pair
pub pair_clash : (n : ℕ) (pairs : List ℕ) (i j : ℕ) → i < n → j < n → fence_clash (free_graph n) pairs i j ≡ fenced pairs i j
pair_clash n pairs i j a b = ap₂ (λ (x y : Bool). (x && y) && (false || fenced pairs i j)) (lt-ltb i n a) (lt-ltb j n b)

-- the lower steps that a step makes a pair with are its neighbours
pub pair_neighbours : (n : ℕ) (pairs : List ℕ) (i : ℕ) → i < n → n ≤ width
    → mask_of width (λ q. ltb q i && fenced pairs i q) ≡ lower_neighbours (fence_graph (free_graph n) pairs) i
unfolding lower_neighbours
pair_neighbours n pairs i h few =
    mask_alike width i _ _
    (λ q l e.
    let (x, y) = and_parts (ltb q i) (fenced pairs i q) e in
    let lower = ltb-true q i x in
    (lower, pair_clash n pairs i q h (omega arith) ∙ y))
    (λ q l e. (omega arith, and_from _ _ (lt-ltb q i l) (sym (pair_clash n pairs i q h (omega arith)) ∙ e)))

-- where the pairs of steps are the clashes of a sheet, the copy means the same graph
pub copy_means : (g : Graph) → Lawful g → (pairs : List ℕ) → ((p q : ℕ) → p < g.steps → q < g.steps → fenced pairs p q ≡ g.clashes p q)
    → (n : ℕ) → n ≡ g.steps → fence_graph (free_graph n) pairs ≡ g
copy_means g laws pairs clashes n e =
    ap (λ (k : ℕ). fence_graph (free_graph k) pairs) e
    ∙ ap (λ (c : ℕ → ℕ → Bool). record { steps = g.steps; clashes = c }) (fun_ext (λ p. fun_ext (λ q. same p q)))
  where
    copy : Graph
    copy = fence_graph (free_graph g.steps) pairs

    past : (p q : ℕ) → (g.steps ≤ p) ⊎ (g.steps ≤ q) → copy.clashes p q ≡ g.clashes p q
    past p q h = clash_past copy (fence_lawful (free_graph g.steps) pairs (free_lawful g.steps laws.few)) p q h ∙ sym (clash_past g laws p q h)

    same : (p q : ℕ) → copy.clashes p q ≡ g.clashes p q
    same p q =
        elim (cases_lt p g.steps) [
          | inr a ↦ past p q (inl a)
          | inl a ↦ elim (cases_lt q g.steps) [ inr b ↦ past p q (inr b) | inl b ↦ pair_clash g.steps pairs p q a b ∙ clashes p q a b ]
        ]

-- so does a table in which each step has its neighbours
pub copy_same : (g : Graph) → Lawful g → (table : List ℕ) → ((i : ℕ) → i < g.steps → get_or table i 0 ≡ lower_neighbours g i) → (n : ℕ)
    → n ≡ g.steps → fence_graph (free_graph n) table ≡ g
copy_same g laws table holds = copy_means g laws table (λ p q a b. told p q a b)
  where
    lower : (i j : ℕ) → j < i → i < g.steps → fenced table i j ≡ g.clashes i j
    lower i j h l =
        let hi : max i j ≡ i = omega arith in
        let lo : min i j ≡ j = omega arith in
        simp (hi, lo, ne_eqb i j (omega arith)) (ap (λ (m : ℕ). has m j) (holds i l) ∙ neighbour_is g i j h)

    told : (p q : ℕ) → p < g.steps → q < g.steps → fenced table p q ≡ g.clashes p q
    told p q a b =
        elim (cases_order p q) [
          | inl e ↦ rw e (simp (eq-eqb q q refl) (sym (laws.irreflexive q)))
          | inr (inl l) ↦ fenced_swap table p q ∙ lower q p l b ∙ laws.symmetric q p
          | inr (inr l) ↦ lower p q l a
        ]
