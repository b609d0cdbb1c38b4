-- The list of the next orientations from a place holds the lowest ones after it, and no other list does.
-- Assumes nothing.
use Rattle.std.proofs.Common.{◌≡◌, ℕ, zero, suc, ◌<◌, ◌⊎◌, List, [], ◌∷◌, length, get_or, Some, None, Option, sym, refl, ap₂, inl, inr, arith}
use Rattle.sheets.specs.Graphs.{Graph}
use Rattle.orientations.specs.Rows.{Orients}
use Rattle.orientations.specs.Successors.{Place, lowest, Lower, Next, successor, following, upcoming}
use Rattle.orientations.specs.Successors.Place.{fresh, standing, finished}
use Rattle.orientations.specs.Lists.{Listed, Rising, Apart, After, Possible, Coming}

-- in a rising list nothing stands twice
pub rising_apart : (g : Graph) → ((o : List ℕ) → Lower g o o → ⊥) → (os : List (List ℕ)) → Rising g os → Apart os
rising_apart g irr os r j k l h e = irr (get_or os k []) (rw e at (r j k l h))

module _ (g : Graph)
    (irr : (o : List ℕ) → Lower g o o → ⊥)
    (tra : (o p q : List ℕ) → Lower g o p → Lower g p q → Lower g o q)
    (nxt : (o : List ℕ) → Orients g o → Next g o (successor g o))
    (low : Orients g (lowest g.steps))
    (first : (c : List ℕ) → Orients g c → (lowest g.steps ≡ c) ⊎ Lower g (lowest g.steps) c) where
  -- what is above something after s is after s
  after_more : (s : Place) (p c : List ℕ) → After g s p → Lower g p c → After g s c
  after_more fresh p c a l = tt
  after_more (standing o) p c a l = tra o p c a l
  after_more finished p c a l = a

  -- no orientations are wanted, or none are left
  empty_coming : (k : ℕ) (s : Place) → ((o : List ℕ) → Orients g o → After g s o → 0 ≡ k) → Coming g k s []
  empty_coming k s h = record {
    most = omega arith;
    members = λ j l. absurd (omega arith);
    rising = λ i j l m. absurd (omega arith);
    others = λ o x y. inr (h o x y, λ j l. absurd (omega arith));
  }

  -- the lowest after s, with what comes after it, is what comes after s
  more_coming : (k : ℕ) (s : Place) (p : List ℕ) (os : List (List ℕ)) → Orients g p → After g s p
      → ((c : List ℕ) → Orients g c → After g s c → (p ≡ c) ⊎ Lower g p c) → Coming g k (standing p) os → Coming g (suc k) s (p ∷ os)
  more_coming k s p os x y least h = record {
    most = omega (arith, h.most);
    members = members;
    rising = rising;
    others = λ c u v. elim (least c u v) [ inl e ↦ inl (0, omega arith, e) | inr l ↦ later c (h.others c u l) l ];
  }
    where
      members : (j : ℕ) → j < suc (length os) → Orients g (get_or (p ∷ os) j []) × After g s (get_or (p ∷ os) j [])
      members zero l = (x, y)
      members (suc j) l = let (u, v) = h.members j (omega arith) in (u, after_more s p _ y v)

      rising : Rising g (p ∷ os)
      rising i zero l m = absurd (omega arith)
      rising zero (suc j) l m = (h.members j (omega arith)).1
      rising (suc i) (suc j) l m = h.rising i j (omega arith) (omega arith)

      Put : List (List ℕ) → ℕ → List ℕ → Type 0
      Put os k c = Listed os c ⊎ ((length os ≡ k) × ((j : ℕ) → j < length os → Lower g (get_or os j []) c))

      below : (c : List ℕ) → ((j : ℕ) → j < length os → Lower g (get_or os j []) c) → Lower g p c
          → (j : ℕ) → j < suc (length os) → Lower g (get_or (p ∷ os) j []) c
      below c f l zero m = l
      below c f l (suc j) m = f j (omega arith)

      later : (c : List ℕ) → Put os k c → Lower g p c → Put (p ∷ os) (suc k) c
      later c (inl (j, m, e)) l = inl (suc j, omega arith, e)
      later c (inr (e, f)) l = inr (omega arith, below c f l)

  -- `following` gives what comes after o
  following_coming : (k : ℕ) (o : List ℕ) → Orients g o → Coming g k (standing o) (following g k o)
  unfolding following
  following_coming zero o s = empty_coming 0 (standing o) (λ c x y. refl)
  following_coming (suc k) o s = go (successor g o) (nxt o s) (following_coming k)
    where
      go : (n : Option (List ℕ)) → Next g o n → ((p : List ℕ) → Orients g p → Coming g k (standing p) (following g k p))
          → Coming g (suc k) (standing o) (elim n [ Some p ↦ p ∷ following g k p | None ↦ [] ])
      go None h r = empty_coming (suc k) (standing o) (λ c x y. absurd (h c x y))
      go (Some p) h r = more_coming k (standing o) p (following g k p) h.orients h.above h.least (r p h.orients)

  -- `upcoming` gives what comes
  pub upcoming_coming : (k : ℕ) (s : Place) → Possible g s → Coming g k s (upcoming g k s)
  unfolding upcoming
  upcoming_coming zero s t = empty_coming 0 s (λ c x y. refl)
  upcoming_coming (suc k) fresh t =
      more_coming k fresh (lowest g.steps) (following g k (lowest g.steps)) low tt (λ c x y. first c x) (following_coming k (lowest g.steps) low)
  upcoming_coming (suc k) (standing o) t = following_coming (suc k) o t
  upcoming_coming (suc k) finished t = empty_coming (suc k) finished (λ c x y. absurd y)

  -- the head of what comes is the lowest after s
  head_least : (k : ℕ) (s : Place) (p : List ℕ) (os : List (List ℕ)) → Coming g k s (p ∷ os)
      → (c : List ℕ) → Orients g c → After g s c → (p ≡ c) ⊎ Lower g p c
  head_least k s p os h c x y =
      elim (h.others c x y) [
        | inl (zero, l, e) ↦ inl e
        | inl (suc j, l, e) ↦ inr (rw e at (h.rising 0 (suc j) (omega arith) l))
        | inr (e, f) ↦ inr (f 0 (omega arith))
      ]

  -- the rest of what comes after s is what comes after the head
  tail_coming : (k : ℕ) (s : Place) (p : List ℕ) (os : List (List ℕ)) → Coming g (suc k) s (p ∷ os) → Coming g k (standing p) os
  tail_coming k s p os h = record {
    most = omega (arith, h.most);
    members = λ j l. ((h.members (suc j) (omega arith)).0, h.rising 0 (suc j) (omega arith) (omega arith));
    rising = λ i j l m. h.rising (suc i) (suc j) (omega arith) (omega arith);
    others = λ c x l.
        elim (h.others c x (after_more s p c (h.members 0 (omega arith)).1 l)) [
          | inl (zero, m, e) ↦ absurd (irr p (rw (← e) at l))
          | inl (suc j, m, e) ↦ inl (j, omega arith, e)
          | inr (e, f) ↦ inr (omega arith, λ j m. f (suc j) (omega arith))
        ];
  }

  -- where something comes, no list without it will do
  none_coming : (k : ℕ) (s : Place) (p : List ℕ) (ps : List (List ℕ)) → Coming g k s [] → Coming g k s (p ∷ ps) → ⊥
  none_coming k s p ps h i =
      let (x, y) = i.members 0 (omega arith) in
      elim (h.others p x y) [ inl (j, l, e) ↦ omega arith | inr (e, f) ↦ omega (arith, i.most) ]

  -- the two heads are each the lowest after s
  same_heads : (k : ℕ) (s : Place) (o p : List ℕ) (os ps : List (List ℕ)) → Coming g k s (o ∷ os) → Coming g k s (p ∷ ps) → o ≡ p
  same_heads k s o p os ps h i =
      let (x, y) = h.members 0 (omega arith) in
      let (u, v) = i.members 0 (omega arith) in
      elim (head_least k s o os h p u v)
      [ inl e ↦ e | inr l ↦ elim (head_least k s p ps i o x y) [ inl e ↦ sym e | inr m ↦ absurd (irr o (tra o p o l m)) ] ]

  -- no two lists hold what comes
  pub coming_unique : (k : ℕ) (s : Place) (os ps : List (List ℕ)) → Coming g k s os → Coming g k s ps → os ≡ ps
  coming_unique k s [] [] h i = refl
  coming_unique k s [] (p ∷ ps) h i = absurd (none_coming k s p ps h i)
  coming_unique k s (o ∷ os) [] h i = absurd (none_coming k s o os i h)
  coming_unique zero s (o ∷ os) (p ∷ ps) h i = absurd (omega (arith, h.most))
  coming_unique (suc k) s (o ∷ os) (p ∷ ps) h i =
      let e = same_heads (suc k) s o p os ps h i in
      let j : Coming g k (standing o) ps = rw (← e) at (tail_coming k s p ps i) in
      ap₂ (λ (x : List ℕ) (xs : List (List ℕ)). x ∷ xs) e
      (coming_unique k (standing o) os ps (tail_coming k s o os h) j)

  -- both at once, as `UpcomingStand` has them
  pub upcoming_stands : (k : ℕ) (s : Place) → Possible g s
      → Coming g k s (upcoming g k s) × ((os : List (List ℕ)) → Coming g k s os → os ≡ upcoming g k s)
  upcoming_stands k s t =
      let h = upcoming_coming k s t in
      (h, λ os i. coming_unique k s os (upcoming g k s) i h)
