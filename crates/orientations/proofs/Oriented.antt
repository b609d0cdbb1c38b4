-- Orders and orientations: the order of an orientation, and the orientation of an order.
-- Assumes nothing.
use Rattle.std.proofs.Common.{◌≡◌, ℕ, zero, suc, ◌<◌, ◌≤◌, Bool, true, cond, ◌&&◌, ltb, ◌⊎◌, List, [], ◌∷◌, length, sym, refl, ap, ◌∙◌, subst, ap₂, inl, inr, not-suc-le-zero, arith}
use Rattle.std.proofs.lemmas.Bool.{false≢true, both_ways, lt-ltb, le-ltb, ltb-true, cases_Bool, cases_eq, cases_lt, and_parts, and_from}
use Rattle.bits.specs.Sets.{has, mask_of}
use Rattle.bits.proofs.Sets.{has_mask, has_past, has_all, mask_ext}
use Rattle.bits.proofs.Tests.{same_tests}
use Rattle.sheets.specs.Graphs.{Graph, Lawful}
use Rattle.orientations.specs.Arrows.{Chain}
use Rattle.orientations.specs.Arrows.Chain.{last, link}
use Rattle.orientations.specs.Placing.{before}
use Rattle.orientations.specs.Rows.{arrow, ancestor, AllWithin, Sound, Orients, lower_neighbours}
use Rattle.orientations.specs.Orders.{EachOnce, order, Follows, Agrees, of_order}
use Rattle.orientations.specs.Theorems.{OrdersFollow, OrdersOriented}
use Rattle.orientations.proofs.Neighbours.{neighbour_below, neighbour_clashes, clash_neighbour, later_parts, later_from, earlier_parts, earlier_from}
use Rattle.orientations.proofs.Standing.{In, before_tra, before_self, before_asym, before_tri}
use Rattle.orientations.proofs.Chains.{ancestor_is, arrow_below, shot, shot_back, Shot}
use Rattle.orientations.proofs.Chains.Shot.{old, off, onto}
use Rattle.orientations.proofs.Counts.{count_le}
use Rattle.orientations.proofs.Placed.{Rooted, rooted, candidate_in, candidate_free, candidate_of, places_placed, Placed}
use Rattle.orientations.proofs.Levels.{irr, tra}

-- the set of all steps below n
all_has : (n p : ℕ) → has (mask_of n (λ q. true)) p ≡ ltb p n
all_has n p =
    elim (cases_lt p n)
    [ inl h ↦ has_mask n (λ q. true) p h ∙ sym (lt-ltb p n h) | inr h ↦ has_past n (λ q. true) p h ∙ sym (le-ltb p n h) ]

module _ (g : Graph) (o : List ℕ) (s : Sound g o) where
  -- a step that has no unplaced ancestor has no arrow from an unplaced step
  arrow_rooted : Rooted (arrow g o) (length o)
  arrow_rooted U p b h =
      let (m, l) = rooted (ancestor g o) (length o) (irr g o s) (tra g o s) U p b h in (
        m,
        candidate_of (arrow g o) (length o) U m (candidate_in (ancestor g o) (length o) U m l)
            (λ q lt u e. candidate_free (ancestor g o) (length o) U m l q lt u ((ancestor_is g o q m).1 (last e))),
      )

  order_placed : Placed (arrow g o) (mask_of (length o) (λ q. true)) (order g o)
  unfolding order
  order_placed =
      places_placed (arrow g o) (length o) arrow_rooted (length o) (mask_of (length o) (λ q. true))
      (λ p e. ltb-true p (length o) (sym (all_has (length o) p) ∙ e)) (count_le (length o) _)

  pub order_once : EachOnce (length o) (order g o)
  order_once p = order_placed.once p ∙ ap (λ (b : Bool). cond b 1 0) (all_has (length o) p)

  pub order_follows : Follows g o (order g o)
  order_follows q p e =
      let (x, y) = arrow_below g o q p e in
      order_placed.after q p (all_has (length o) q ∙ lt-ltb q _ x) (all_has (length o) p ∙ lt-ltb p _ y) e

-- ---- the orientation of an order

module _ (g : Graph) (n : ℕ) (l : List ℕ) (d : EachOnce n l) where
  in_order : (p : ℕ) → p < n → In l p
  in_order p h = let z = rw (lt-ltb p n h) at (d p) in omega arith

  pub of_length : (m : ℕ) → length (of_order g l m) ≡ m
  unfolding of_order
  of_length zero = refl
  of_length (suc m) = ap suc (of_length m)

  -- the top row of the orientation of l
  abbrev top : ℕ → ℕ
  top m = mask_of m (λ p. has (lower_neighbours g m) p && before p l m)

  top_has : (m p : ℕ) → has (top m) p ≡ (has (lower_neighbours g m) p && before p l m)
  top_has m p =
      has_all m (λ p. has (lower_neighbours g m) p && before p l m) (λ q e. neighbour_below g m q (and_parts _ _ e).0) p

  of_rows : (m : ℕ) → AllWithin g (of_order g l m)
  unfolding of_order AllWithin
  of_rows zero = tt
  of_rows (suc m) = (of_rows m, λ p e. rw (of_length m) (and_parts _ _ (sym (top_has m p) ∙ e)).0)

  pub of_follows : (m : ℕ) → m ≤ n → Follows g (of_order g l m) l
  unfolding of_order arrow
  of_follows zero h q p e = absurd (false≢true e)
  of_follows (suc m) h q p e = go (shot g (top m) (of_order g l m) q p e) (of_follows m (omega arith) q p)
    where
      go : Shot g (top m) (of_order g l m) q p → (arrow g (of_order g l m) q p ≡ true → before p l q ≡ true) → before p l q ≡ true
      go (old k) r = r k
      go (off x y) r =
          rw (x, of_length m) (and_parts _ _ (sym (top_has m p) ∙ (later_parts g (length (of_order g l m)) (top m) p y).1)).1
      go (onto x y) r =
          let (u, v) = earlier_parts g (length (of_order g l m)) (top m) q y in
          let u' : has (lower_neighbours g m) q ≡ true = rw (of_length m) at u in
          let lt = neighbour_below g m q u' in
          elim (before_tri l q p (in_order q (omega arith)) (in_order p (let z = of_length m in omega arith)) (let z = of_length m in omega arith)) [
            | inl b ↦ b
            | inr b ↦
                let b' : before q l m ≡ true = rw (x, of_length m) at b in
                absurd (both_ways _ v (top_has m q ∙ and_from _ _ u' b'))
          ]

  chain_before : {q p : ℕ} → Chain (arrow g (of_order g l n)) q p → before p l q ≡ true
  chain_before (last e) = of_follows n (omega arith) _ _ e
  chain_before (link {q = q} {r = r} {p = p} e c) = before_tra l p r q (chain_before c) (of_follows n (omega arith) q r e)

  pub of_sound : Sound g (of_order g l n)
  of_sound = (of_rows n, λ p c. before_self l p (chain_before c))

  -- rows that l follows are those of l
  pub of_unique : (o : List ℕ) → AllWithin g o → Follows g o l → o ≡ of_order g l (length o)
  unfolding of_order AllWithin
  of_unique [] s f = refl
  of_unique (a ∷ o) s f =
      ap₂ (λ (x : ℕ) (y : List ℕ). x ∷ y)
      (mask_ext a (top (length o))
      (λ p.
      same_tests _ _
      (λ e.
      let np = s.1 p e in
      top_has (length o) p ∙ and_from _ _ np (f (length o) p (shot_back g a o _ _ (off refl (later_from g (length o) a p np e)))))
      (λ e.
      let (x, y) = and_parts (has (lower_neighbours g (length o)) p) (before p l (length o)) (sym (top_has (length o) p) ∙ e) in
      elim (cases_Bool (has a p)) [
        | inl k ↦ k
        | inr k ↦ absurd (before_asym l _ _ y (f p (length o) (shot_back g a o _ _ (onto refl (earlier_from g (length o) a p x k)))))
      ])))
      (of_unique o s.0 (λ q p e. f q p (shot_back g a o q p (old e))))

-- ---- arrows between clashing steps

module _ (g : Graph) (laws : Lawful g) where
  pub arrow_clashes : (o : List ℕ) (q p : ℕ) → arrow g o q p ≡ true → g.clashes q p ≡ true
  unfolding arrow
  arrow_clashes [] q p e = absurd (false≢true e)
  arrow_clashes (a ∷ o) q p e = go (shot g a o q p e) (arrow_clashes o q p)
    where
      go : Shot g a o q p → (arrow g o q p ≡ true → g.clashes q p ≡ true) → g.clashes q p ≡ true
      go (old k) r = r k
      go (off x y) r = rw x (neighbour_clashes g (length o) p (later_parts g (length o) a p y).0)
      go (onto x y) r = rw x (laws.symmetric q (length o) ∙ neighbour_clashes g (length o) q (earlier_parts g (length o) a q y).0)

  -- two steps of o that clash have an arrow, one way or the other
  pub arrow_either : (o : List ℕ) (q p : ℕ) → q < length o → p < length o → g.clashes q p ≡ true
      → (arrow g o q p ≡ true) ⊎ (arrow g o p q ≡ true)
  arrow_either [] q p x y c = absurd (not-suc-le-zero x)
  arrow_either (a ∷ o) q p x y c = go (cases_eq q (length o)) (cases_eq p (length o)) (arrow_either o q p)
    where
      Arrow : ℕ → ℕ → Type 0
      Arrow q p = (arrow g (a ∷ o) q p ≡ true) ⊎ (arrow g (a ∷ o) p q ≡ true)

      -- the top step has one to or from each neighbour
      at_top : (p : ℕ) → has (lower_neighbours g (length o)) p ≡ true → Arrow (length o) p
      at_top p n =
          elim (cases_Bool (has a p)) [
            | inl k ↦ inl (shot_back g a o (length o) p (off refl (later_from g (length o) a p n k)))
            | inr k ↦ inr (shot_back g a o p (length o) (onto refl (earlier_from g (length o) a p n k)))
          ]

      turned : (q p : ℕ) → Arrow q p → Arrow p q
      turned q p (inl h) = inr h
      turned q p (inr h) = inl h

      go : (q ≡ length o) ⊎ (q ≡ length o → ⊥) → (p ≡ length o) ⊎ (p ≡ length o → ⊥)
          → (q < length o → p < length o → g.clashes q p ≡ true → (arrow g o q p ≡ true) ⊎ (arrow g o p q ≡ true)) → Arrow q p
      go (inl e) (inl h) r = absurd (both_ways (g.clashes q q) (laws.irreflexive q) (rw (e ∙ sym h) (rw (← h) at (rw e at c))))
      go (inl e) (inr h) r = rw e (at_top p (clash_neighbour g (length o) p (omega arith) (rw e at c)))
      go (inr e) (inl h) r = rw h (turned (length o) q (at_top q (clash_neighbour g (length o) q (omega arith) (laws.symmetric (length o) q ∙ (rw h at c)))))
      go (inr e) (inr h) r =
          elim (r (omega arith) (omega arith) c)
          [ inl k ↦ inl (shot_back g a o q p (old k)) | inr k ↦ inr (shot_back g a o p q (old k)) ]

  -- an order that follows every arrow puts every clashing pair as the orientation does, and the reverse
  pub follows_agrees : (o l : List ℕ) → Orients g o → Follows g o l → Agrees g o l
  follows_agrees o l s f q p c =
      let (x, y) = laws.inside q p c in
      same_tests (arrow g o q p) (before p l q) (f q p)
      (λ b.
      elim (arrow_either o q p (rw s.full x) (rw s.full y) c)
      [ inl e ↦ e | inr e ↦ absurd (before_asym l q p b (f p q e)) ])

  pub agrees_follows : (o l : List ℕ) → Agrees g o l → Follows g o l
  agrees_follows o l h q p e = sym (h q p (arrow_clashes o q p e)) ∙ e

  pub of_orients : (l : List ℕ) → EachOnce g.steps l → Orients g (of_order g l g.steps)
  of_orients l d = record { full = of_length g g.steps l d g.steps; sound = of_sound g g.steps l d }

pub orders_follow : OrdersFollow
orders_follow g = (
  λ o s. (subst (λ (n : ℕ). EachOnce n (order g o)) s.full (order_once g o s.sound), order_follows g o s.sound),
  λ o p s t e.
      let l = order g o in
      let d = order_once g o s.sound in
      let f : Follows g p l = rw e (order_follows g p t.sound) in
      of_unique g (length o) l d o s.sound.0 (order_follows g o s.sound)
      ∙ ap (of_order g l) (s.full ∙ sym t.full)
      ∙ sym (of_unique g (length o) l d p t.sound.0 f),
)

pub orders_oriented : OrdersOriented
orders_oriented g laws = (
  λ o s. follows_agrees g laws o (order g o) s (order_follows g o s.sound),
  λ l d. (
    of_orients g laws l d,
    follows_agrees g laws (of_order g l g.steps) l (of_orients g laws l d) (of_follows g g.steps l d g.steps (omega arith)),
    λ o s h. of_unique g g.steps l d o s.sound.0 (agrees_follows g laws o l h) ∙ ap (of_order g l) s.full,
  ),
)
