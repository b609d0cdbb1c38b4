-- Rows and orientations correspond one to one.
-- Assumes nothing.
use Rattle.std.proofs.Common.{◌≡◌, ℕ, zero, suc, ◌<◌, Bool, true, false, not, ◌&&◌, ◌⊎◌, List, [], ◌∷◌, length, sym, refl, ap, ◌∙◌, inl, inr, not-suc-le-zero, arith}
use Rattle.std.proofs.lemmas.Bool.{false≢true, both_ways, not_from_true, not_from_false, cases_Bool, cases_eq, and_parts, and_from}
use Rattle.bits.specs.Sets.{has, mask_of}
use Rattle.bits.proofs.Sets.{has_all}
use Rattle.bits.proofs.Tests.{same_tests}
use Rattle.sheets.specs.Graphs.{Graph, Lawful}
use Rattle.orientations.specs.Arrows.{Orientation}
use Rattle.orientations.specs.Arrows.Chain.{last, link}
use Rattle.orientations.specs.Rows.{arrow, AllWithin, Orients, lower_neighbours}
use Rattle.orientations.specs.Orders.{order, of_order}
use Rattle.orientations.specs.Theorems.{RowsCorrespond}
use Rattle.orientations.proofs.Neighbours.{neighbour_below, neighbour_clashes, clash_neighbour, later_parts, later_from, earlier_parts, earlier_from}
use Rattle.orientations.proofs.Chains.{carry, shot, shot_back, Shot}
use Rattle.orientations.proofs.Chains.Shot.{old, off, onto}
use Rattle.orientations.proofs.Oriented.{arrow_clashes, arrow_either, order_once, order_follows, of_unique}

module _ (g : Graph) (laws : Lawful g) where
  -- the arrows of rows that hold an orientation are one
  arrows_orient : (o : List ℕ) → Orients g o → Orientation g (arrow g o)
  arrows_orient o s = record {
    one = λ q p c. one q p c (cases_Bool (arrow g o q p));
    nothing_else = λ q p c.
        elim (cases_Bool (arrow g o q p)) [ inl e ↦ absurd (both_ways (g.clashes q p) c (arrow_clashes g laws o q p e)) | inr e ↦ e ];
    acyclic = s.sound.1;
  }
    where
      -- two arrows between one pair would be a circle
      not_both : (q p : ℕ) → arrow g o q p ≡ true → arrow g o p q ≡ true → ⊥
      not_both q p e h = s.sound.1 q (link e (last h))

      one : (q p : ℕ) → g.clashes q p ≡ true → (arrow g o q p ≡ true) ⊎ (arrow g o q p ≡ false) → arrow g o p q ≡ not (arrow g o q p)
      one q p c (inl e) =
          elim (cases_Bool (arrow g o p q)) [ inl h ↦ absurd (not_both q p e h) | inr h ↦ h ∙ sym (not_from_true (arrow g o q p) e) ]
      one q p c (inr e) =
          let (x, y) = laws.inside q p c in
          elim (arrow_either g laws o q p (rw s.full x) (rw s.full y) c)
          [ inl h ↦ absurd (both_ways (arrow g o q p) e h) | inr h ↦ h ∙ sym (not_from_false (arrow g o q p) e) ]

  -- rows with the same arrows are equal: the order of one follows both
  rows_alike : (o p : List ℕ) → Orients g o → Orients g p → ((q r : ℕ) → arrow g o q r ≡ arrow g p q r) → o ≡ p
  rows_alike o p s t e =
      let l = order g o in
      let d = order_once g o s.sound in
      let f = order_follows g o s.sound in
      of_unique g (length o) l d o s.sound.0 f ∙ ap (of_order g l) (s.full ∙ sym t.full)
      ∙ sym (of_unique g (length o) l d p t.sound.0 (λ q r h. f q r (e q r ∙ h)))

  module _ (R : ℕ → ℕ → Bool) (r : Orientation g R) where
    -- the rows that hold R
    top : ℕ → ℕ
    top m = mask_of m (λ p. has (lower_neighbours g m) p && R m p)

    held : ℕ → List ℕ
    held zero = []
    held (suc m) = top m ∷ held m

    held_length : (m : ℕ) → length (held m) ≡ m
    unfolding held
    held_length zero = refl
    held_length (suc m) = ap suc (held_length m)

    top_has : (m p : ℕ) → has (top m) p ≡ (has (lower_neighbours g m) p && R m p)
    unfolding top
    top_has m p = has_all m (λ p. has (lower_neighbours g m) p && R m p) (λ q e. neighbour_below g m q (and_parts _ _ e).0) p

    held_rows : (m : ℕ) → AllWithin g (held m)
    unfolding held AllWithin
    held_rows zero = tt
    held_rows (suc m) = (held_rows m, λ p e. rw (held_length m) (and_parts _ _ (sym (top_has m p) ∙ e)).0)

    arrow_clash : (q p : ℕ) → R q p ≡ true → g.clashes q p ≡ true
    arrow_clash q p e =
        elim (cases_Bool (g.clashes q p)) [ inl c ↦ c | inr c ↦ absurd (both_ways (R q p) (r.nothing_else q p c) e) ]

    -- each of their arrows is one of R
    held_sound : (m q p : ℕ) → arrow g (held m) q p ≡ true → R q p ≡ true
    unfolding held arrow
    held_sound zero q p e = absurd (false≢true e)
    held_sound (suc m) q p e = go (shot g (top m) (held m) q p e) (held_sound m q p)
      where
        go : Shot g (top m) (held m) q p → (arrow g (held m) q p ≡ true → R q p ≡ true) → R q p ≡ true
        go (old k) h = h k
        go (off x y) h =
            rw (x, held_length m) (and_parts (has (lower_neighbours g m) p) (R m p) (sym (top_has m p) ∙ (later_parts g (length (held m)) (top m) p y).1)).1
        go (onto x y) h =
            let (u, v) = earlier_parts g (length (held m)) (top m) q y in
            let n : has (lower_neighbours g m) q ≡ true = rw (held_length m) at u in
            let zero_there : R m q ≡ false =
            elim (cases_Bool (R m q)) [ inl e ↦ absurd (both_ways (has (top m) q) v (top_has m q ∙ and_from _ _ n e)) | inr e ↦ e ] in
            rw (x, held_length m) (r.one m q (neighbour_clashes g m q n) ∙ not_from_false (R m q) zero_there)

    -- and each arrow of R between their steps is one of theirs
    held_full : (m q p : ℕ) → q < m → p < m → R q p ≡ true → arrow g (held m) q p ≡ true
    unfolding held
    held_full zero q p x y e = absurd (not-suc-le-zero x)
    held_full (suc m) q p x y e = shot_back g (top m) (held m) q p (go (cases_eq q m) (cases_eq p m) (held_full m q p))
      where
        go : (q ≡ m) ⊎ (q ≡ m → ⊥) → (p ≡ m) ⊎ (p ≡ m → ⊥) → (q < m → p < m → R q p ≡ true → arrow g (held m) q p ≡ true)
            → Shot g (top m) (held m) q p
        go (inl s) (inl t) h =
            absurd (both_ways (g.clashes q q) (laws.irreflexive q) (arrow_clash q q (let z : p ≡ q = t ∙ sym s in rw z at e)))
        go (inl s) (inr t) h =
            let em : R m p ≡ true = rw s at e in
            let n = clash_neighbour g m p (omega arith) (arrow_clash m p em) in
            off (s ∙ sym (held_length m))
            (later_from g (length (held m)) (top m) p (rw (held_length m) n) (top_has m p ∙ and_from _ _ n em))
        go (inr s) (inl t) h =
            let em : R q m ≡ true = rw t at e in
            let c = laws.symmetric m q ∙ arrow_clash q m em in
            let n = clash_neighbour g m q (omega arith) c in
            let none : has (top m) q ≡ false =
            elim (cases_Bool (has (top m) q)) [
              | inl k ↦
                  let back = (and_parts (has (lower_neighbours g m) q) (R m q) (sym (top_has m q) ∙ k)).1 in
                  absurd (both_ways (R q m) (r.one m q c ∙ not_from_true (R m q) back) em)
              | inr k ↦ k
            ] in
            onto (t ∙ sym (held_length m)) (earlier_from g (length (held m)) (top m) q (rw (held_length m) n) none)
        go (inr s) (inr t) h = old (h (omega arith) (omega arith) e)

    held_arrows : (q p : ℕ) → arrow g (held g.steps) q p ≡ R q p
    held_arrows q p =
        same_tests _ _ (held_sound g.steps q p)
        (λ e. let (x, y) = laws.inside q p (arrow_clash q p e) in held_full g.steps q p x y e)

    held_orients : Orients g (held g.steps)
    held_orients = record {
      full = held_length g.steps;
      sound = (held_rows g.steps, λ p c. r.acyclic p (carry (held_sound g.steps) c));
    }

pub rows_correspond : RowsCorrespond
rows_correspond g laws =
    (arrows_orient g laws, λ R r. (held g laws R r g.steps, held_orients g laws R r, held_arrows g laws R r), rows_alike g laws)
