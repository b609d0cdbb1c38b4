-- Chains over one step more: which orientations stay acyclic, and the ancestors computed.
-- Assumes nothing.
use Rattle.std.proofs.Common.{◌≡◌, ℕ, ◌<◌, Bool, true, ◌&&◌, ◌||◌, eqb, ◌⊎◌, ◌↔◌, List, [], ◌∷◌, length, refl, inl, inr, arith}
use Rattle.std.proofs.lemmas.Bool.{false≢true, both_ways, eqb-true, eq-eqb, cases_Bool, and_parts, and_from, or_cases, or_left, or_right}
use Rattle.bits.specs.Sets.{has, any}
use Rattle.bits.proofs.Sets.{any_some, any_of}
use Rattle.sheets.specs.Graphs.{Graph}
use Rattle.orientations.specs.Arrows.{Chain, Acyclic}
use Rattle.orientations.specs.Arrows.Chain.{last, link}
use Rattle.orientations.specs.Rows.{grown, pointed, assignment, earlier, arrow, ancestor, Within, Legal}
use Rattle.orientations.specs.Theorems.{AncestorsTell}
use Rattle.orientations.proofs.Neighbours.{later_parts, later_from, later_below, earlier_parts, earlier_from, earlier_below}

-- chains, one after the other
pub join : {R : ℕ → ℕ → Bool} {q r p : ℕ} → Chain R q r → Chain R r p → Chain R q p
join (last e) d = link e d
join (link e c) d = link e (join c d)

-- where each arrow of one relation is one of another, so is each chain
pub carry : {R S : ℕ → ℕ → Bool} → ((q p : ℕ) → R q p ≡ true → S q p ≡ true) → {q p : ℕ} → Chain R q p → Chain S q p
carry f (last e) = last (f _ _ e)
carry f (link e c) = link (f _ _ e) (carry f c)

module _ (g : Graph) where
  -- q is p, or a chain leads from it to p
  abbrev Reach : List ℕ → ℕ → ℕ → Type 0
  Reach o q p = (q ≡ p) ⊎ Chain (arrow g o) q p

  -- q leads to the step after o, with the row a
  abbrev Into : ℕ → List ℕ → ℕ → Type 0
  Into a o q = (r : ℕ) × (earlier g (length o) a r ≡ true) × Reach o q r

  -- the step after o, with the row a, leads to p
  abbrev Out : ℕ → List ℕ → ℕ → Type 0
  Out a o p = (r : ℕ) × (assignment g (length o) a r ≡ true) × Reach o r p

  -- the ways of an arrow over a ∷ o
  pub data Shot (a : ℕ) (o : List ℕ) (q p : ℕ) : Type 0 where
    old : arrow g o q p ≡ true → Shot a o q p
    off : q ≡ length o → assignment g (length o) a p ≡ true → Shot a o q p
    onto : p ≡ length o → earlier g (length o) a q ≡ true → Shot a o q p

  -- the ways of a chain over a ∷ o
  data Way (a : ℕ) (o : List ℕ) (q p : ℕ) : Type 0 where
    under : Chain (arrow g o) q p → Way a o q p
    over : Into a o q → Out a o p → Way a o q p
    down : q ≡ length o → Out a o p → Way a o q p
    up : p ≡ length o → Into a o q → Way a o q p
    round : q ≡ length o → p ≡ length o → (r : ℕ) → assignment g (length o) a r ≡ true → Into a o r → Way a o q p

  pub shot : (a : ℕ) (o : List ℕ) (q p : ℕ) → arrow g (a ∷ o) q p ≡ true → Shot a o q p
  unfolding arrow pointed
  shot a o q p e =
      elim (or_cases _ _ e) [
        | inl h ↦ elim (or_cases _ _ h) [ inl k ↦ old k | inr k ↦ let (x, y) = and_parts _ _ k in off (eqb-true _ _ x) y ]
        | inr h ↦ let (x, y) = and_parts _ _ h in onto (eqb-true _ _ x) y
      ]

  pub shot_back : (a : ℕ) (o : List ℕ) (q p : ℕ) → Shot a o q p → arrow g (a ∷ o) q p ≡ true
  unfolding arrow pointed
  shot_back a o q p (old k) = or_left _ _ (or_left _ _ k)
  shot_back a o q p (off x y) = or_left _ _ (or_right _ _ (and_from _ _ (eq-eqb _ _ x) y))
  shot_back a o q p (onto x y) = or_right _ _ (and_from _ _ (eq-eqb _ _ x) y)

  grow : (a : ℕ) (o : List ℕ) {q p : ℕ} → Chain (arrow g o) q p → Chain (arrow g (a ∷ o)) q p
  grow a o c = carry (λ q p e. shot_back a o q p (old e)) c

  pub arrow_below : (o : List ℕ) (q p : ℕ) → arrow g o q p ≡ true → (q < length o) × (p < length o)
  unfolding arrow
  arrow_below [] q p e = absurd (false≢true e)
  arrow_below (a ∷ o) q p e =
      elim (shot a o q p e) [
        | old k ↦ let (x, y) = arrow_below o q p k in (omega arith, omega arith)
        | off x y ↦ let z = later_below g (length o) a p y in (omega arith, omega arith)
        | onto x y ↦ let z = earlier_below g (length o) a q y in (omega arith, omega arith)
      ]

  pub chain_below : (o : List ℕ) {q p : ℕ} → Chain (arrow g o) q p → (q < length o) × (p < length o)
  chain_below o (last e) = arrow_below o _ _ e
  chain_below o (link e c) = ((arrow_below o _ _ e).0, (chain_below o c).1)

  module _ (a : ℕ) (o : List ℕ) where
    before_into : {q r : ℕ} → arrow g o q r ≡ true → Into a o r → Into a o q
    before_into {q} {r} e (t, n, h) = (t, n, inr (elim h [ inl k ↦ last (rw k at e) | inr c ↦ link e c ]))

    way_last : (q p : ℕ) → Shot a o q p → Way a o q p
    way_last q p (old k) = under (last k)
    way_last q p (off x y) = down x (p, y, inl refl)
    way_last q p (onto x y) = up x (q, y, inl refl)

    way_link : (q r p : ℕ) → Shot a o q r → Way a o r p → Way a o q p
    way_link q r p (old k) (under c) = under (link k c)
    way_link q r p (old k) (over i t) = over (before_into k i) t
    way_link q r p (old k) (down x t) = let z = (arrow_below o q r k).1 in absurd (omega arith)
    way_link q r p (old k) (up x i) = up x (before_into k i)
    way_link q r p (old k) (round x y j n i) = let z = (arrow_below o q r k).1 in absurd (omega arith)
    way_link q r p (off x y) (under c) = down x (r, y, inr c)
    way_link q r p (off x y) (over i t) = down x t
    way_link q r p (off x y) (down z t) = down x t
    way_link q r p (off x y) (up z i) = round x z r y i
    way_link q r p (off x y) (round z z' j n i) = round x z' j n i
    way_link q r p (onto x y) (under c) = let z = (chain_below o c).0 in absurd (omega arith)
    way_link q r p (onto x y) (over i t) = over (q, y, inl refl) t
    way_link q r p (onto x y) (down z t) = over (q, y, inl refl) t
    way_link q r p (onto x y) (up z i) = up z (q, y, inl refl)
    way_link q r p (onto x y) (round z z' j n i) = up z' (q, y, inl refl)

    way : {q p : ℕ} → Chain (arrow g (a ∷ o)) q p → Way a o q p
    way (last e) = way_last _ _ (shot a o _ _ e)
    way (link e c) = way_link _ _ _ (shot a o _ _ e) (way c)

    from_into : {q : ℕ} → Into a o q → Chain (arrow g (a ∷ o)) q (length o)
    from_into {q} (r, n, h) =
        let e = shot_back a o r (length o) (onto refl n) in
        elim h [ inl k ↦ rw k (last e) | inr c ↦ join (grow a o c) (last e) ]

    from_out : {p : ℕ} → Out a o p → Chain (arrow g (a ∷ o)) (length o) p
    from_out {p} (r, n, h) =
        let e = shot_back a o (length o) r (off refl n) in
        let c : Chain (arrow g (a ∷ o)) (length o) r = last e in
        elim h [ inl k ↦ rw k at c | inr d ↦ link e (grow a o d) ]

    way_back : (q p : ℕ) → Way a o q p → Chain (arrow g (a ∷ o)) q p
    way_back q p (under c) = grow a o c
    way_back q p (over i t) = join (from_into i) (from_out t)
    way_back q p (down x t) = rw x (from_out t)
    way_back q p (up x i) = rw x (from_into i)
    way_back q p (round x y j n i) = rw (x, y) (join (from_out (j, n, inl refl)) (from_into i))

    -- over an acyclic orientation the rows that keep it acyclic are legal
    legal_of : Within g (length o) a → Acyclic (arrow g (a ∷ o)) → Legal g o a
    legal_of w h = (
      w,
      λ q p nq np c e.
          elim (cases_Bool (has a p)) [
            | inl y ↦ y
            | inr y ↦
                absurd
                (h (length o) (way_back _ _ (round refl refl q (later_from g (length o) a q nq e) (p, earlier_from g (length o) a p np y, inr c))))
          ],
    )

    reach_join : {r p t : ℕ} → Reach o r p → Reach o p t → Reach o r t
    reach_join (inl x) k = rw x k
    reach_join (inr c) (inl x) = inr (rw x at c)
    reach_join (inr c) (inr d) = inr (join c d)

    -- no way leads from a place with 1 to a place with 0
    legal_no : Legal g o a → {r t p : ℕ} → assignment g (length o) a r ≡ true → Reach o r p → earlier g (length o) a t ≡ true → Reach o p t → ⊥
    legal_no l {r} {t} {p} y h z k =
        let (nr, ar) = later_parts g (length o) a r y in
        let (nt, at) = earlier_parts g (length o) a t z in
        both_ways (has a t) at (elim (reach_join h k) [ inl x ↦ rw x at ar | inr c ↦ l.1 r t nr nt c ar ])

    acyclic_of : Acyclic (arrow g o) → Legal g o a → Acyclic (arrow g (a ∷ o))
    acyclic_of h l p c = go (way c)
      where
        go : Way a o p p → ⊥
        go (under c) = h p c
        go (over (t, n, k) (r, y, k')) = legal_no l y k' n k
        go (down x (r, y, inl k)) = let z = later_below g (length o) a r y in omega arith
        go (down x (r, y, inr c)) = let z = (chain_below o c).1 in omega arith
        go (up x (r, n, inl k)) = let v = earlier_below g (length o) a r n in omega arith
        go (up x (r, n, inr c)) = let v = (chain_below o c).0 in omega arith
        go (round x x' r y (t, n, k)) = legal_no l y (inl refl) n k

    -- one row more keeps an orientation acyclic exactly when it is legal
    pub acyclic_more : Within g (length o) a → Acyclic (arrow g (a ∷ o)) ↔ (Acyclic (arrow g o) × Legal g o a)
    acyclic_more w = (λ h. (λ p c. h p (grow a o c), legal_of w h), λ h. acyclic_of h.0 h.1)

    -- `ancestor` over a ∷ o answers whether there is a chain, where it does over o
    module _ (ih : (q p : ℕ) → (ancestor g o q p ≡ true) ↔ Chain (arrow g o) q p) where
      abbrev into : ℕ → Bool
      into q = any (length o) (λ r. earlier g (length o) a r && (eqb q r || ancestor g o q r))

      abbrev out : ℕ → Bool
      out p = any (length o) (λ r. assignment g (length o) a r && (eqb r p || ancestor g o r p))

      to_reach : (q p : ℕ) → (eqb q p || ancestor g o q p) ≡ true → Reach o q p
      to_reach q p e = elim (or_cases _ _ e) [ inl h ↦ inl (eqb-true q p h) | inr h ↦ inr ((ih q p).0 h) ]

      reach_to : (q p : ℕ) → Reach o q p → (eqb q p || ancestor g o q p) ≡ true
      reach_to q p (inl h) = or_left _ _ (eq-eqb q p h)
      reach_to q p (inr c) = or_right _ _ ((ih q p).1 c)

      into_is : (q : ℕ) → into q ≡ true → Into a o q
      into_is q e =
          let (r, l, h) = any_some _ _ e in
          let (x, y) = and_parts _ _ h in
          (r, x, to_reach q r y)

      into_of : (q : ℕ) → Into a o q → into q ≡ true
      into_of q (r, n, h) = any_of _ _ r (earlier_below g (length o) a r n) (and_from _ _ n (reach_to q r h))

      out_is : (p : ℕ) → out p ≡ true → Out a o p
      out_is p e =
          let (r, l, h) = any_some _ _ e in
          let (x, y) = and_parts _ _ h in
          (r, x, to_reach r p y)

      out_of : (p : ℕ) → Out a o p → out p ≡ true
      out_of p (r, n, h) = any_of _ _ r (later_below g (length o) a r n) (and_from _ _ n (reach_to r p h))

      ancestor_way : (q p : ℕ) → ancestor g (a ∷ o) q p ≡ true → Way a o q p
      unfolding ancestor grown
      ancestor_way q p e =
          elim (or_cases _ _ e) [
            | inl h ↦
                elim (or_cases _ _ h) [
                  | inl k ↦ under ((ih q p).0 k)
                  | inr k ↦
                      let (x, y) = and_parts _ _ k in
                      elim (or_cases _ _ x) [ inl z ↦ down (eqb-true _ _ z) (out_is p y) | inr z ↦ over (into_is q z) (out_is p y) ]
                ]
            | inr h ↦
                let (x, y) = and_parts _ _ h in
                elim (or_cases _ _ y) [
                  | inl z ↦ up (eqb-true _ _ x) (into_is q z)
                  | inr z ↦
                      let (u, v) = and_parts _ _ z in
                      let (r, l, t) = any_some _ _ v in
                      let (m, n) = and_parts _ _ t in
                      round (eqb-true _ _ u) (eqb-true _ _ x) r m (into_is r n)
                ]
          ]

      way_ancestor : (q p : ℕ) → Way a o q p → ancestor g (a ∷ o) q p ≡ true
      unfolding ancestor grown
      way_ancestor q p (under c) = or_left _ _ (or_left _ _ ((ih q p).1 c))
      way_ancestor q p (over i t) =
          or_left _ _ (or_right (ancestor g o q p) _ (and_from _ _ (or_right (eqb q (length o)) _ (into_of q i)) (out_of p t)))
      way_ancestor q p (down x t) = or_left _ _ (or_right _ _ (and_from _ _ (or_left _ _ (eq-eqb _ _ x)) (out_of p t)))
      way_ancestor q p (up x i) = or_right _ _ (and_from _ _ (eq-eqb _ _ x) (or_left _ _ (into_of q i)))
      way_ancestor q p (round x y r n i) =
          or_right _ _
          (and_from _ _ (eq-eqb _ _ y)
          (or_right _ _ (and_from _ _ (eq-eqb _ _ x) (any_of _ _ r (later_below g (length o) a r n) (and_from _ _ n (into_of r i))))))

  pub no_chain : {q p : ℕ} → Chain (arrow g []) q p → ⊥
  unfolding arrow
  no_chain (last e) = false≢true e
  no_chain (link e c) = false≢true e

  pub ancestor_is : (o : List ℕ) (q p : ℕ) → (ancestor g o q p ≡ true) ↔ Chain (arrow g o) q p
  unfolding ancestor
  ancestor_is [] q p = (λ e. absurd (false≢true e), λ c. absurd (no_chain c))
  ancestor_is (a ∷ o) q p =
      let ih = ancestor_is o in
      (λ e. way_back a o q p (ancestor_way a o ih q p e), λ c. way_ancestor a o ih q p (way a o c))

pub ancestors_tell : AncestorsTell
ancestors_tell g o q p = ancestor_is g o q p
