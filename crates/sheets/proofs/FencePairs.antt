-- What a fence's table holds.
-- Assumes nothing.
use Rattle.std.proofs.Common.{◌≡◌, ℕ, ◌<◌, ◌≤◌, min, max, Bool, true, false, not, ◌&&◌, ◌||◌, eqb, ltb, List, length, get_or, set, replicate, sym, refl, ap, ◌∙◌, ap₂, inl, inr, arith, get_or-set_other, get_or-set_same}
use Rattle.std.proofs.lemmas.Bool.{eqb-true, lt-ltb, le-ltb, ne_eqb, cases_eq, cases_lt, cases_Bool, and_parts, and_left, and_right, or_cases}
use Rattle.std.proofs.lemmas.Bool.Decides.{nat_tests}
use Rattle.std.proofs.Math.Bool.{or-false, or_comm, and-true}
use Rattle.bits.specs.Sets.{width, has, inserted}
use Rattle.bits.proofs.Sets.{has_none, has_mask}
use Rattle.bits.proofs.Tables.{blank_at}
use Rattle.sheets.specs.Limits.{limit}
use Rattle.sheets.specs.Graphs.{Graph, Lawful}
use Rattle.sheets.specs.Fences.{fenced, is_pair, fence_clash}
use Rattle.sheets.specs.FenceLaws.{fenced_swap}

-- ---- an empty table

pub none_fenced : (i j : ℕ) → fenced (replicate limit 0) i j ≡ false
none_fenced i j = and_right (not (eqb i j)) _ (ap (λ (x : ℕ). has x (min i j)) (blank_at limit (max i j)) ∙ has_none (min i j))

-- ---- the lower steps of a step

pub lower_fenced : (ps : List ℕ) (j q m b : ℕ) → m ≡ get_or ps j 0 → has b q ≡ ltb q j → (has m q && has b q) ≡ (ltb q j && fenced ps j q)
lower_fenced ps j q m b em eb =
    elim (cases_lt q j) [
      | inl l ↦
          let hi : j ≡ max j q = omega arith in
          let lo : q ≡ min j q = omega arith in
          ap₂ (λ (x y : Bool). x && y) (ap₂ has (em ∙ ap (λ (k : ℕ). get_or ps k 0) hi) lo) (eb ∙ lt-ltb q j l)
          ∙ and-true (has (get_or ps (max j q) 0) (min j q))
          ∙ sym
          (ap₂ (λ (x y : Bool). x && (not y && has (get_or ps (max j q) 0) (min j q))) (lt-ltb q j l) (ne_eqb j q (omega arith)))
      | inr g ↦ and_right (has m q) (has b q) (eb ∙ le-ltb q j g) ∙ sym (and_left (ltb q j) (fenced ps j q) (le-ltb q j g))
    ]

-- ---- one pair more

pair_swap : (i j p q : ℕ) → is_pair i j p q ≡ is_pair j i p q
pair_swap i j p q = or_comm (eqb p i && eqb q j) (eqb p j && eqb q i)

pair_at : (lo hi p q : ℕ) → lo < hi → max p q ≡ hi → is_pair lo hi p q ≡ (not (eqb p q) && eqb (min p q) lo)
pair_at lo hi p q h e = grind (arith, nat_tests)

pair_off : (lo hi p q : ℕ) → lo < hi → (max p q ≡ hi → ⊥) → is_pair lo hi p q ≡ false
pair_off lo hi p q h e = grind (arith, nat_tests)

spread : (n h e : Bool) → (n && (h || e)) ≡ ((n && h) || (n && e))
spread true h e = refl
spread false h e = refl

-- the pair of lo and hi is put into the table: m is the set of hi with lo in it too
module _ (ps : List ℕ) (lo hi m : ℕ) (h : lo < hi) (l : hi < limit) (whole : length ps ≡ limit)
    (more : m ≡ inserted (get_or ps hi 0) lo) where
  pub pair_put : (p q : ℕ) → fenced (set ps hi m) p q ≡ (fenced ps p q || is_pair lo hi p q)
  pair_put p q =
      elim (cases_eq (max p q) hi) [
        | inl e ↦
            let small : min p q < width = omega arith in
            let room : hi < length ps = omega arith in
            ap (λ (x : ℕ). not (eqb p q) && has (get_or (set ps hi m) x 0) (min p q)) e
            ∙ ap (λ (x : ℕ). not (eqb p q) && has x (min p q)) (get_or-set_same ps hi m 0 room ∙ more)
            ∙ ap (λ (x : Bool). not (eqb p q) && x) (has_mask width (λ r. has (get_or ps hi 0) r || eqb r lo) (min p q) small)
            ∙ spread (not (eqb p q)) (has (get_or ps hi 0) (min p q)) (eqb (min p q) lo)
            ∙ ap₂ (λ (x : ℕ) (y : Bool). (not (eqb p q) && has (get_or ps x 0) (min p q)) || y) (sym e) (sym (pair_at lo hi p q h e))
        | inr n ↦
            ap (λ (x : ℕ). not (eqb p q) && has x (min p q)) (get_or-set_other ps hi (max p q) m 0 n)
            ∙ sym (or-false (fenced ps p q)) ∙ ap (λ (x : Bool). fenced ps p q || x) (sym (pair_off lo hi p q h n))
      ]

-- two different steps below a bound
pub apart_below : (i j n : ℕ) → (i ≡ j → ⊥) → i < n → j < n → (not (eqb i j) && ltb i n && ltb j n) ≡ true
apart_below i j n e a b = simp (ne_eqb i j e, lt-ltb i n a, lt-ltb j n b)

-- the pair of i and j is put into the table, whichever is the higher
pub pair_added : (ps : List ℕ) (i j m : ℕ) → min i j < max i j → max i j < limit → length ps ≡ limit
    → m ≡ inserted (get_or ps (max i j) 0) (min i j) → (p q : ℕ)
    → fenced (set ps (max i j) m) p q ≡ (fenced ps p q || ((not (eqb i j) && ltb i limit && ltb j limit) && is_pair i j p q))
pair_added ps i j m apart room whole more p q =
    pair_put ps (min i j) (max i j) m apart room whole more p q
    ∙ ap₂ (λ (t u : Bool). fenced ps p q || (t && u)) (sym (apart_below i j limit (omega arith) (omega arith) (omega arith)))
    (elim (cases_lt i j) [
      | inl l ↦
          let lo : min i j ≡ i = omega arith in
          let hi : max i j ≡ j = omega arith in
          ap₂ (λ (a b : ℕ). is_pair a b p q) lo hi
      | inr g ↦
          let lo : min i j ≡ j = omega arith in
          let hi : max i j ≡ i = omega arith in
          ap₂ (λ (a b : ℕ). is_pair a b p q) lo hi ∙ pair_swap j i p q
    ])

-- two different steps of a sheet: the table gains the pair, without more ado
pub pair_gained : (ps qs : List ℕ) (i j n : ℕ) → (i ≡ j → ⊥) → i < n → j < n → n ≤ limit
    → ((p q : ℕ) → fenced qs p q ≡ (fenced ps p q || ((not (eqb i j) && ltb i limit && ltb j limit) && is_pair i j p q)))
    → (p q : ℕ) → fenced qs p q ≡ (fenced ps p q || is_pair i j p q)
pair_gained ps qs i j n apart a b few added p q =
    added p q ∙ ap (λ (t : Bool). fenced ps p q || (t && is_pair i j p q)) (apart_below i j limit apart (omega arith) (omega arith))

-- a pair that is fenced adds nothing when it is fenced again
pub pair_again : (ps qs : List ℕ) (i j : ℕ) → ((p q : ℕ) → fenced qs p q ≡ (fenced ps p q || is_pair i j p q))
    → fenced ps i j ≡ true → (p q : ℕ) → fenced qs p q ≡ fenced ps p q
pair_again ps qs i j put old p q =
    put p q
    ∙ elim (cases_Bool (is_pair i j p q)) [
      | inr no_pair ↦ ap (λ (x : Bool). fenced ps p q || x) no_pair ∙ or-false (fenced ps p q)
      | inl pair ↦ let e : fenced ps p q ≡ true = same pair in ap (λ (x : Bool). x || is_pair i j p q) e ∙ sym e
    ]
  where
    same : is_pair i j p q ≡ true → fenced ps p q ≡ true
    same h =
        elim (or_cases (eqb p i && eqb q j) (eqb p j && eqb q i) h) [
          | inl k ↦
              let (a, b) = and_parts (eqb p i) (eqb q j) k in
              ap₂ (fenced ps) (eqb-true p i a) (eqb-true q j b) ∙ old
          | inr k ↦
              let (a, b) = and_parts (eqb p j) (eqb q i) k in
              ap₂ (fenced ps) (eqb-true p j a) (eqb-true q i b) ∙ fenced_swap ps j i ∙ old
        ]

-- ---- the clashes of a fence

-- a fence without pairs has the clashes of the sheet below
pub clash_below : (g : Graph) → Lawful g → (pairs : List ℕ) → ((p q : ℕ) → fenced pairs p q ≡ false)
    → (p q : ℕ) → fence_clash g pairs p q ≡ g.clashes p q
clash_below g laws pairs none p q =
    ap (λ (t : Bool). (ltb p g.steps && ltb q g.steps) && (g.clashes p q || t)) (none p q)
    ∙ ap (λ (t : Bool). (ltb p g.steps && ltb q g.steps) && t) (or-false (g.clashes p q))
    ∙ elim (cases_Bool (g.clashes p q)) [
      | inl t ↦
          let (a, b) = laws.inside p q t in
          ap₂ (λ (x y : Bool). (x && y) && g.clashes p q) (lt-ltb p g.steps a) (lt-ltb q g.steps b)
      | inr f ↦ and_right (ltb p g.steps && ltb q g.steps) (g.clashes p q) f ∙ sym f
    ]

absorb : (a b f t : Bool) → (t ≡ true → a ≡ true) → (a && (b || (f || t))) ≡ ((a && (b || f)) || t)
absorb true true f t h = refl
absorb true false f t h = refl
absorb false b f true h = h refl
absorb false b f false h = refl

-- one pair more: the steps of the pair clash, and all others as before
pub clash_more : (g : Graph) (ps qs : List ℕ) (i j : ℕ) → i < g.steps → j < g.steps
    → ((p q : ℕ) → fenced qs p q ≡ (fenced ps p q || is_pair i j p q))
    → (p q : ℕ) → fence_clash g qs p q ≡ (fence_clash g ps p q || is_pair i j p q)
clash_more g ps qs i j hi hj put p q =
    ap (λ (t : Bool). (ltb p g.steps && ltb q g.steps) && (g.clashes p q || t)) (put p q)
    ∙ absorb (ltb p g.steps && ltb q g.steps) (g.clashes p q) (fenced ps p q) (is_pair i j p q) below
  where
    below : is_pair i j p q ≡ true → (ltb p g.steps && ltb q g.steps) ≡ true
    below h = grind (arith, nat_tests)
