-- One level of the search for a step that rises: its places, and the row that it takes.
-- Assumes nothing.
use Rattle.std.proofs.Common.{◌≡◌, ℕ, suc, ◌+◌, ◌-◌, ◌<◌, ◌≤◌, Bool, true, false, cond, not, ◌&&◌, ◌||◌, eqb, List, ◌∷◌, length, get_or, reverse, Some, None, Option, sym, ap, ◌∙◌, subst, ap₂, inl, inr, arith}
use mathlib.Core.Path.{fun_ext}
use Rattle.std.proofs.lemmas.Bool.{cases_Bool, and_parts, and_from}
use Rattle.bits.specs.Sets.{width, has, mask_of, inserted}
use Rattle.bits.proofs.Searches.{any_alike}
use Rattle.bits.proofs.Sets.{Narrow, has_with, has_all, mask_alike}
use Rattle.sheets.specs.Graphs.{Graph}
use Rattle.orientations.specs.Assignments.{last_zero, raised, closed, rise, W, next_row}
use Rattle.orientations.specs.Rows.{assignment, ancestor, lower_neighbours}
use Rattle.orientations.proofs.Bounds.{ancestor_below}
use Rattle.orientations.proofs.Neighbours.{neighbour_below, later_below}
use Rattle.orientations.proofs.Placed.{places_once}
use Rattle.orientations.proofs.Standing.{In, Once}
use Rattle.rows.specs.declared.successors.Rise.{Rise}
use Rattle.rows.specs.Moves.{rise_of}
use Rattle.rows.specs.Relations.{leads_in, rows_of}
use Rattle.rows.proofs.Held.{length_rows}
use Rattle.rows.proofs.Scanning.{Scan, in_at, next_back, scan_more, scan_found, scan_raised}

-- ---- one level

-- the closure does not ask past the steps that lead anywhere
closed_bound : (R : ℕ → ℕ → Bool) (i w : ℕ) (f : ℕ → Bool) (p : ℕ) → i ≤ w → ((q : ℕ) → R q p ≡ true → q < i) → closed R w f p ≡ closed R i f p
unfolding closed
closed_bound R i w f p h below =
    ap (λ (b : Bool). f p || b)
    (any_alike w i _ _ (λ q l e. (below q (and_parts (f q) (R q p) e).1, e)) (λ q l e. (omega arith, e)))

module _ (g : Graph) (a : ℕ) (o : List ℕ) where
  abbrev f : ℕ → Bool
  f = assignment g (length o) a

  abbrev N : ℕ
  N = lower_neighbours g (length o)

  level_full : last_zero (W g o) (assignment g (length o) a) ≡ None → next_row g o a ≡ None
  unfolding next_row rise
  level_full e =
      ap
      (λ (z : Option ℕ).
      elim z as (λ _. Option ℕ) [
        | None ↦ None
        | Some j ↦ Some (mask_of (length o) (λ p. has N p && closed (ancestor g o) (length o) (raised (W g o) f j) p))
      ])
      e

  -- the row that the code makes at the rightmost 0, from the table t of ancestors and the raised set `ones`
  level_rises : (t : List ℕ) (j ones : ℕ) → length o ≤ width → leads_in t ≡ ancestor g o
      → last_zero (W g o) (assignment g (length o) a) ≡ Some j → ((p : ℕ) → has ones p ≡ raised (W g o) (assignment g (length o) a) j p)
      → next_row g o a ≡ Some (mask_of width (λ p. has (lower_neighbours g (length o)) p && closed (leads_in t) width (has ones) p))
  unfolding next_row rise
  level_rises t j ones few e z is =
      ap
      (λ (z : Option ℕ).
      elim z as (λ _. Option ℕ) [
        | None ↦ None
        | Some j ↦ Some (mask_of (length o) (λ p. has N p && closed (ancestor g o) (length o) (raised (W g o) f j) p))
      ])
      z
      ∙ ap Some
      (mask_alike (length o) width _ _
      (λ p l k. let (n, c) = and_parts (has N p) _ k in (omega arith, and_from (has N p) _ n (sym (same p) ∙ c)))
      (λ p l k. let (n, c) = and_parts (has N p) _ k in (neighbour_below g (length o) p n, and_from (has N p) _ n (same p ∙ c))))
    where
      same : (p : ℕ) → closed (ancestor g o) (length o) (raised (W g o) f j) p ≡ closed (leads_in t) width (has ones) p
      same p =
          sym
          (ap₂ (λ (R : ℕ → ℕ → Bool) (h : ℕ → Bool). closed R width h p) e (fun_ext is)
          ∙ closed_bound (ancestor g o) (length o) width (raised (W g o) f j) p few
          (λ q k. (ancestor_below g o q p k).0))

  rise_here : (b : ℕ) → next_row g o a ≡ Some b → rise_of g (a ∷ o) ≡ Some (record { step = length o; row = record { bits = b } })
  unfolding rise_of
  rise_here b e =
      ap (λ (r : Option ℕ). elim r as (λ _. Option Rise) [ Some b ↦ Some (record { step = length o; row = record { bits = b } }) | None ↦ rise_of g o ]) e

  rise_lower : next_row g o a ≡ None → rise_of g (a ∷ o) ≡ rise_of g o
  unfolding rise_of
  rise_lower e =
      ap (λ (r : Option ℕ). elim r as (λ _. Option Rise) [ Some b ↦ Some (record { step = length o; row = record { bits = b } }) | None ↦ rise_of g o ]) e

-- ---- one level of an array

-- no step stands twice in W, whatever the rows
W_once : (g : Graph) (o : List ℕ) → Once (W g o)
unfolding W
W_once g o p =
    let most = places_once (ancestor g o) (length o) (length o) (lower_neighbours g (length o)) p in
    let one = bit (has (lower_neighbours g (length o)) p) in
    omega arith
  where
    bit : (b : Bool) → cond b 1 0 ≤ 1
    bit true = omega arith
    bit false = omega arith

module _ (g : Graph) (rows : List ℕ) (s : ℕ) (few : s ≤ width) where
  abbrev o : List ℕ
  o = rows_of rows s

  abbrev a : ℕ
  a = get_or rows s 0

  -- the set with which the search along W begins
  pub array_ones : (N ones : ℕ) → N ≡ lower_neighbours g s → ones ≡ mask_of width (λ q. has N q && has (get_or rows s 0) q)
      → (p : ℕ) → has ones p ≡ assignment g s (get_or rows s 0) p
  unfolding assignment
  array_ones N ones is_N is p =
      ap (λ (m : ℕ). has m p) (is ∙ ap (λ (n : ℕ). mask_of width (λ q. has n q && has a q)) is_N)
      ∙ has_all width _ (λ q e. let z = neighbour_below g s q (and_parts _ _ e).0 in omega arith) p

  -- the place k of W is a neighbour, so it has room in a mask
  array_place : (k : ℕ) → k < length (W g (rows_of rows s)) → get_or (W g (rows_of rows s)) k 0 < s
  unfolding W
  array_place k l =
      let p = get_or (W g o) k 0 in
      let there : In (W g o) p = in_at (W g o) k l in
      let most = places_once (ancestor g o) (length o) (length o) (lower_neighbours g (length o)) p in
      elim (cases_Bool (has (lower_neighbours g (length o)) p)) [
        | inl e ↦ let z = neighbour_below g (length o) p e in let long = length_rows rows s in omega arith
        | inr e ↦ let none = rw e at most in absurd (omega arith)
      ]

  -- no place has 0: the level does not rise
  pub array_full : last_zero (W g (rows_of rows s)) (assignment g s (get_or rows s 0)) ≡ None
      → rise_of g (rows_of rows (suc s)) ≡ rise_of g (rows_of rows s)
  unfolding rows_of
  array_full e =
      rise_lower g a o (level_full g a o (subst (λ (k : ℕ). last_zero (W g o) (assignment g k a) ≡ None) (sym (length_rows rows s)) e))

  -- the last n places were passed, and j is the next from the back
  module _ (n j ones : ℕ) (scan : Scan (W g (rows_of rows s)) (assignment g s (get_or rows s 0)) (length (W g (rows_of rows s)) - n) ones)
      (next : (n < length (reverse (W g (rows_of rows s)))) × (j ≡ get_or (reverse (W g (rows_of rows s))) n j)) where
    abbrev w : List ℕ
    w = W g (rows_of rows s)

    abbrev k : ℕ
    k = length w - 1 - n

    at : (k < length w) × (j ≡ get_or w k 0)
    at = let (lt, e) = next_back w n j next.0 next.1 in (omega arith, e)

    here : Scan w (assignment g s (get_or rows s 0)) (suc k) ones
    here =
        let lt = (next_back w n j next.0 next.1).0 in
        let turn : length w - n ≡ suc k = omega arith in
        subst (λ (m : ℕ). Scan w (assignment g s a) m ones) turn scan

    narrow_ones : Narrow ones
    narrow_ones q e =
        let z = later_below g s a q (and_parts (assignment g s a q) _ (sym (here.1 q) ∙ e)).0 in
        omega arith

    pub place_passed : has ones j ≡ true → (rest : ℕ) → rest ≡ mask_of width (λ q. has ones q && not (eqb q j))
        → Scan (W g (rows_of rows s)) (assignment g s (get_or rows s 0)) (length (W g (rows_of rows s)) - (n + 1)) rest
    place_passed on rest is =
        let turn : k ≡ length w - (n + 1) = omega arith in
        subst (λ (m : ℕ). Scan w (assignment g s a) m rest) turn
        (scan_more w (assignment g s a) (W_once g o) k j ones at.0 at.1 here rest on
        (λ p. ap (λ (m : ℕ). has m p) is ∙ has_all width _ (λ q e. narrow_ones q (and_parts (has ones q) _ e).0) p))

    -- the row that the code makes there, from the table t of ancestors and the neighbours N
    pub place_rises : has ones j ≡ false → (t : List ℕ) (more N row : ℕ) → leads_in t ≡ ancestor g (rows_of rows s) → more ≡ inserted ones j
        → N ≡ lower_neighbours g s → row ≡ mask_of width (λ p. has N p && closed (leads_in t) width (has more) p)
        → rise_of g (rows_of rows (suc s)) ≡ Some (record { step = s; row = record { bits = row } })
    unfolding rows_of
    place_rises off t more N row e is_more is_N is_row =
        let long = length_rows rows s in
        let b = mask_of width (λ p. has (lower_neighbours g (length o)) p && closed (leads_in t) width (has more) p) in
        let is : (p : ℕ) → has more p ≡ raised w (assignment g s a) j p =
        scan_raised w (assignment g s a) (W_once g o) k j ones at.0 at.1 here off more
        (λ p. ap (λ (m : ℕ). has m p) is_more ∙ has_with ones j p narrow_ones (let z = array_place k at.0 in omega (arith, at.1))) in
        let risen = level_rises g a o t j more (omega arith) e
        (subst (λ (k : ℕ). last_zero (W g o) (assignment g k a) ≡ Some j) (sym long)
        (scan_found w (assignment g s a) (W_once g o) k j ones at.0 at.1 here off))
        (subst (λ (k : ℕ). (p : ℕ) → has more p ≡ raised (W g o) (assignment g k a) j p) (sym long) is) in
        rise_here g a o b risen
        ∙ ap₂ (λ (x y : ℕ). Some (record { step = x; row = record { bits = y } })) long
        (ap (λ (n : ℕ). mask_of width (λ p. has n p && closed (leads_in t) width (has more) p)) (ap (lower_neighbours g) long ∙ sym is_N) ∙ sym is_row)
