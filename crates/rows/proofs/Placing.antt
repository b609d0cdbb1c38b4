-- One place more of a list of places, and one byte more of a buffer that they are written to.
-- Assumes nothing.
use Rattle.std.proofs.Common.{◌≡◌, ℕ, zero, suc, ◌+◌, ◌<◌, ◌≤◌, Bool, true, not, ◌&&◌, eqb, ltb, List, [], ◌∷◌, ◌++◌, length, get_or, take, drop, set, Some, None, Option, sym, refl, ap, ◌∙◌, subst, inl, inr, arith, length-drop, length-take-le, take_all}
use Rattle.std.proofs.lemmas.List.{drop_more, set_at, append_assoc, take_at, take_more}
use Rattle.std.proofs.lemmas.Bool.{cases_lt, lt-ltb, ltb-true}
use Rattle.bits.specs.Sets.{width, has, mask_of}
use Rattle.bits.proofs.Sets.{has_mask}
use Rattle.orientations.specs.Assignments.{W}
use Rattle.orientations.specs.Orders.{order, EachOnce, Follows}
use Rattle.orientations.specs.Placing.{lowest_candidate_of, places}
use Rattle.orientations.specs.Rows.{arrow, ancestor, Orients, lower_neighbours}
use Rattle.orientations.proofs.Bounds.{places_alike, places_same, places_bound, places_enough, places_room}
use Rattle.orientations.proofs.Counting.{each_length}
use Rattle.orientations.proofs.Oriented.{orders_follow}
use Rattle.orientations.proofs.Neighbours.{neighbour_below, neighbour_clashes}
use Rattle.sheets.specs.Graphs.{Graph, Lawful}
use Rattle.sheets.specs.Limits.{limit}

-- ---- places

-- one place more, where sets have room for numbers below w
module _ (R : ℕ → ℕ → Bool) (w i U : ℕ) (wide : i ≤ w) where
  abbrev pub left : ℕ → ℕ
  left p = mask_of w (λ q. has U q && not (eqb q p))

  abbrev next : ℕ → Option ℕ → List ℕ
  next f o = elim o [ None ↦ [] | Some p ↦ p ∷ places R i f (mask_of i (λ q. has U q && not (eqb q p))) ]

  pub place_some : (p f : ℕ) → Some p ≡ lowest_candidate_of R i U → places R i (suc f) U ≡ p ∷ places R i f (left p)
  unfolding places
  place_some p f e =
      ap (next f) (sym e) ∙ ap (λ l. p ∷ l) (places_same R i f _ _ (λ q l. has_mask i _ q l ∙ sym (has_mask w _ q (omega arith))))

  pub place_none : (f : ℕ) → None ≡ lowest_candidate_of R i U → places R i f U ≡ []
  unfolding places
  place_none zero e = refl
  place_none (suc f) e = ap (next f) (sym e)

-- ---- whole lists

-- the neighbours of a step, placed by their ancestors below it
pub W_placed : (g : Graph) → Lawful g → (o : List ℕ) → places (ancestor g o) limit limit (lower_neighbours g (length o)) ≡ W g o
unfolding W
W_placed g laws o =
    elim (cases_lt limit (length o)) [
      | inl h ↦
          sym (places_enough R limit (length o) N (omega arith))
          ∙ sym (places_bound R limit (length o) (length o) N (omega arith) (λ q e. let z = laws.inside (length o) q (neighbour_clashes g (length o) q e) in omega (arith, laws.few, z)))
      | inr h ↦ places_bound R (length o) limit limit N h (neighbour_below g (length o)) ∙ places_enough R (length o) limit N h
    ]
  where
    R : ℕ → ℕ → Bool
    R = ancestor g o

    N : ℕ
    N = lower_neighbours g (length o)

-- the steps that have rows, placed by their arrows
pub order_placed : (g : Graph) (o : List ℕ) (k U : ℕ) → length o ≤ limit → ((q : ℕ) → q < width → has U q ≡ ltb q (length o))
    → places (arrow g o) limit k U ≡ take k (order g o)
unfolding order
order_placed g o k U few members =
    places_alike (arrow g o) limit (length o) k U (mask_of (length o) (λ p. true))
    (λ q l e. let low = ltb-true q (length o) (sym (members q (omega arith)) ∙ e) in (low, has_mask (length o) _ q low))
    (λ q l e. (omega arith, members q (omega arith) ∙ lt-ltb q (length o) l))
    ∙ sym (places_room (arrow g o) (length o) k _)

-- ---- the buffer

-- what is left of a list tells its next element and what comes after it
more_of : (xs ys : List ℕ) (i x : ℕ) → drop i xs ≡ x ∷ ys → i < length xs
more_of xs ys i x e = let z = ap length e in let y = length-drop i xs in omega arith

head_of : (xs ys : List ℕ) (i x : ℕ) → drop i xs ≡ x ∷ ys → get_or xs i 0 ≡ x
head_of xs ys i x e = ap (λ t. get_or t 0 0) (sym (drop_more xs i 0 (more_of xs ys i x e)) ∙ e)

pub tail_of : (xs ys : List ℕ) (i x : ℕ) → drop i xs ≡ x ∷ ys → drop (i + 1) xs ≡ ys
tail_of xs ys i x e = ap (drop 1) (sym (drop_more xs i x (more_of xs ys i x e)) ∙ e)

none_of : (xs : List ℕ) (i : ℕ) → drop i xs ≡ [] → i ≤ length xs → i ≡ length xs
none_of xs i e h = let z = ap length e in let y = length-drop i xs in omega arith

-- one byte more after the front xs, which has k bytes
write_next : (xs buf : List ℕ) (k v : ℕ) → length xs ≡ k → k < length buf → set (xs ++ drop k buf) k v ≡ (xs ++ (v ∷ [])) ++ drop (k + 1) buf
write_next xs buf k v e h =
    ap (λ t. set (xs ++ t) k v) (drop_more buf k v h) ∙ set_at xs (get_or buf k v) (drop (k + 1) buf) v k e
    ∙ sym (append_assoc xs (v ∷ []) (drop (k + 1) buf))

-- the first k places of W are written to the buffer, which is as it was past them
abbrev pub Written : List ℕ → List ℕ → List ℕ → ℕ → Type 0
Written W buf out k = (k ≤ length W) × (out ≡ take k W ++ drop k buf)

pub written_more : (W buf out : List ℕ) (k v : ℕ) (ys : List ℕ) → k < length buf → drop k W ≡ v ∷ ys → Written W buf out k
    → Written W buf (set out k v) (k + 1)
written_more W buf out k v ys room e h =
    let lt = more_of W ys k v e in (
      omega arith,
      ap (λ x. set x k v) h.1 ∙ write_next (take k W) buf k v (length-take-le k W (omega arith)) room
          ∙ ap (λ t. t ++ drop (k + 1) buf)
          (ap (λ (x : ℕ). take k W ++ (x ∷ [])) (sym (head_of W ys k v e)) ∙ sym (take_more W k 0 lt)),
    )

pub written_all : (W buf out : List ℕ) (k : ℕ) → drop k W ≡ [] → Written W buf out k → (k ≡ length W) × (out ≡ W ++ drop k buf)
written_all W buf out k e h =
    let end = none_of W k e h.0 in
    (end, h.1 ∙ ap (λ t. t ++ drop k buf) (take_all k W (omega arith)))

-- what `place` tells, where the list P that it placed is W
module _ (P W buf out : List ℕ) (k : ℕ) (is : P ≡ W) (long : k ≡ length P) (after : out ≡ P ++ drop k buf) where
  pub placed_size : k ≡ length W
  placed_size = long ∙ ap length is

  pub placed_buffer : out ≡ W ++ drop k buf
  placed_buffer = after ∙ ap (λ w. w ++ drop k buf) is

-- a buffer with room for all steps gets the whole order of an orientation
pub order_written : (g : Graph) (o buf out : List ℕ) (k : ℕ) → k ≡ length (take (length buf) (order g o))
    → out ≡ take (length buf) (order g o) ++ drop k buf → Orients g o → g.steps ≤ length buf
    → EachOnce g.steps (take k out) × Follows g o (take k out)
order_written g o buf out k size after holds room =
    let (once, follows) = (orders_follow g).0 o holds in
    let long = each_length g.steps (order g o) once in
    let written : take k out ≡ order g o =
    ap (take k) after ∙ take_at (take (length buf) (order g o)) (drop k buf) k (sym size) ∙ take_all (length buf) (order g o) (omega arith) in
    (subst (EachOnce g.steps) (sym written) once, subst (Follows g o) (sym written) follows)
