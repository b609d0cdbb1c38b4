-- Lists without repeats are no longer than the lists that hold their members, and there are at most n! orders of n steps.
-- Assumes nothing.
use Rattle.std.proofs.Common.{◌≡◌, ℕ, zero, suc, ◌+◌, ◌*◌, ◌<◌, ◌≤◌, cond, eqb, ltb, ◌⊎◌, List, [], ◌∷◌, ◌++◌, map, length, get_or, sym, refl, ap, ◌∙◌, inl, inr, le_antisymm, mul-suc, arith}
use Rattle.std.specs.List.{flat_map}
use Rattle.std.proofs.lemmas.List.{length-append, length-map, get_or-map, get_or_append_left, get_or-append-add}
use Rattle.std.proofs.lemmas.Bool.{cases_eq, cases_lt, cases_order, eq-eqb, ne_eqb, lt-ltb, le-ltb}
use Rattle.orientations.specs.Placing.{times}
use Rattle.orientations.specs.Successors.{factorial}
use Rattle.orientations.specs.Orders.{EachOnce}
use Rattle.orientations.specs.Lists.{Listed, Apart}
use Rattle.orientations.specs.Theorems.{ListsAlike}

-- ---- lists that hold the same

-- ps without what stands at place k
without : List (List ℕ) → ℕ → List (List ℕ)
without [] k = []
without (p ∷ ps) zero = ps
without (p ∷ ps) (suc k) = p ∷ without ps k

without_length : (ps : List (List ℕ)) (k : ℕ) → k < length ps → suc (length (without ps k)) ≡ length ps
unfolding without
without_length [] k l = absurd (omega arith)
without_length (p ∷ ps) zero l = refl
without_length (p ∷ ps) (suc k) l = ap suc (without_length ps k (omega arith))

-- what stands in ps, and is not what stands at k, is left
without_listed : (ps : List (List ℕ)) (k : ℕ) (o : List ℕ) → Listed ps o → (get_or ps k [] ≡ o → ⊥) → Listed (without ps k) o
unfolding without
without_listed [] k o (j, l, e) n = absurd (omega arith)
without_listed (p ∷ ps) zero o (zero, l, e) n = absurd (n e)
without_listed (p ∷ ps) zero o (suc j, l, e) n = (j, omega arith, e)
without_listed (p ∷ ps) (suc k) o (zero, l, e) n = (0, omega arith, e)
without_listed (p ∷ ps) (suc k) o (suc j, l, e) n =
    let (i, m, d) = without_listed ps k o (j, omega arith, e) n in
    (suc i, omega arith, d)

-- a list without repeats is no longer than a list that holds all of it
pub fewer : (os ps : List (List ℕ)) → Apart os → ((o : List ℕ) → Listed os o → Listed ps o) → length os ≤ length ps
fewer [] ps a f = omega arith
fewer (o ∷ os) ps a f =
    let (k, l, e) = f o (0, omega arith, refl) in
    let rest = fewer os (without ps k) (λ i j m n d. a (suc i) (suc j) (omega arith) (omega arith) d) (left k e) in
    omega (arith, without_length ps k l)
  where
    left : (k : ℕ) → get_or ps k [] ≡ o → (p : List ℕ) → Listed os p → Listed (without ps k) p
    left k e p (j, m, d) = without_listed ps k p (f p (suc j, omega arith, d)) (λ z. a 0 (suc j) (omega arith) (omega arith) (cc (e, d, z)))

-- lists without repeats that hold the same have equal length
pub lists_alike : ListsAlike
lists_alike g os ps a b f h =
    le_antisymm (fewer os ps a (λ o l. (h o).1 ((f o).0 l))) (fewer ps os b (λ o l. (f o).1 ((h o).0 l)))

-- ---- maps

-- what a map has at a place
pub at_map : (f : List ℕ → List ℕ) (os : List (List ℕ)) (k : ℕ) → k < length os → get_or (map f os) k [] ≡ f (get_or os k [])
at_map f os k l = get_or-map f os k [] [] l

-- what holds of f at each member holds of each member of the map
pub all_map : (P : List ℕ → Type 0) (f : List ℕ → List ℕ) (os : List (List ℕ)) → ((k : ℕ) → k < length os → P (f (get_or os k [])))
    → (k : ℕ) → k < length (map f os) → P (get_or (map f os) k [])
all_map P f os h k l = let m : k < length os = omega (arith, length-map os f) in rw (at_map f os k m) (h k m)

-- a map that keeps members apart gives no repeats
pub apart_map : (f : List ℕ → List ℕ) (os : List (List ℕ)) → Apart os
    → ((j k : ℕ) → j < length os → k < length os → f (get_or os j []) ≡ f (get_or os k []) → get_or os j [] ≡ get_or os k []) → Apart (map f os)
apart_map f os a inj j k l m e =
    let n : k < length os = omega (arith, length-map os f) in
    let i : j < length os = omega arith in
    a j k l n (inj j k i n (sym (at_map f os j i) ∙ e ∙ at_map f os k n))

-- ---- all orders of n steps

-- x put into l at place k, or at the end where l is shorter
put : ℕ → ℕ → List ℕ → List ℕ
put x zero l = x ∷ l
put x (suc k) [] = x ∷ []
put x (suc k) (q ∷ l) = q ∷ put x k l

-- x put into l at each place below k
puts : ℕ → ℕ → List ℕ → List (List ℕ)
puts x zero l = []
puts x (suc k) l = put x k l ∷ puts x k l

-- all orders of the steps below n
pub all_orders : ℕ → List (List ℕ)
all_orders zero = [] ∷ []
all_orders (suc n) = flat_map (puts n (suc n)) (all_orders n)

puts_length : (x k : ℕ) (l : List ℕ) → length (puts x k l) ≡ k
unfolding puts
puts_length x zero l = refl
puts_length x (suc k) l = ap suc (puts_length x k l)

-- lists of c members each, joined, have c times as many members as there are lists
joined_length : (f : List ℕ → List (List ℕ)) (c : ℕ) → ((x : List ℕ) → length (f x) ≡ c)
    → (xs : List (List ℕ)) → length (flat_map f xs) ≡ c * length xs
joined_length f c h [] = omega arith
joined_length f c h (x ∷ xs) = omega (arith, length-append (f x) (flat_map f xs), h x, joined_length f c h xs, mul-suc c (length xs))

-- the list of all orders is n! long
pub orders_count : (n : ℕ) → length (all_orders n) ≡ factorial n
unfolding all_orders factorial
orders_count zero = refl
orders_count (suc n) = joined_length (puts n (suc n)) (suc n) (puts_length n (suc n)) (all_orders n) ∙ ap (λ (m : ℕ). suc n * m) (orders_count n)

-- x put in at a place below k is among those
puts_listed : (x : ℕ) (l : List ℕ) (k j : ℕ) → j < k → Listed (puts x k l) (put x j l)
unfolding puts
puts_listed x l zero j h = absurd (omega arith)
puts_listed x l (suc k) j h =
    elim (cases_lt j k) [
      | inl m ↦ let (i, n, e) = puts_listed x l k j m in (suc i, omega arith, e)
      | inr m ↦ let e : k ≡ j = omega arith in (0, omega arith, ap (λ (i : ℕ). put x i l) e)
    ]

listed_left : (xs ys : List (List ℕ)) (o : List ℕ) → Listed xs o → Listed (xs ++ ys) o
listed_left xs ys o (k, l, e) = (k, omega (arith, length-append xs ys), get_or_append_left xs ys [] k l ∙ e)

listed_right : (xs ys : List (List ℕ)) (o : List ℕ) → Listed ys o → Listed (xs ++ ys) o
listed_right xs ys o (k, l, e) = (length xs + k, omega (arith, length-append xs ys), get_or-append-add xs ys k [] ∙ e)

-- what stands in one of the lists stands in them joined
joined_listed : (f : List ℕ → List (List ℕ)) (xs : List (List ℕ)) (x y : List ℕ) → Listed xs x → Listed (f x) y → Listed (flat_map f xs) y
joined_listed f [] x y (k, l, e) h = absurd (omega arith)
joined_listed f (z ∷ xs) x y (zero, l, e) h = listed_left (f z) (flat_map f xs) y (rw (← e) at h)
joined_listed f (z ∷ xs) x y (suc k, l, e) h = listed_right (f z) (flat_map f xs) y (joined_listed f xs x y (k, omega arith, e) h)

-- x can be taken out of l: put into the rest at its place it gives l, which has it once more than the rest
record Taken (x : ℕ) (l : List ℕ) : Type 0 where
  rest : List ℕ
  place : ℕ
  back : put x place rest ≡ l
  within : place ≤ length rest
  longer : length l ≡ suc (length rest)
  counted : (p : ℕ) → times l p ≡ cond (eqb x p) 1 0 + times rest p

-- what stands in a list can be taken out of it
taken : (x : ℕ) (l : List ℕ) → 0 < times l x → Taken x l
unfolding times put
taken x [] h = absurd (omega arith)
taken x (q ∷ l) h = go (cases_eq q x) (taken x l)
  where
    go : (q ≡ x) ⊎ (q ≡ x → ⊥) → (0 < times l x → Taken x l) → Taken x (q ∷ l)
    go (inl e) r = record {
      rest = l;
      place = 0;
      back = ap (λ (y : ℕ). y ∷ l) (sym e);
      within = omega arith;
      longer = refl;
      counted = λ p. rw e refl;
    }
    go (inr n) r =
        let z : 0 < 0 + times l x = rw (ne_eqb q x n) at h in
        let t = r (omega arith) in
        record {
          rest = q ∷ t.rest;
          place = suc t.place;
          back = ap (λ (w : List ℕ). q ∷ w) t.back;
          within = omega arith;
          longer = ap suc t.longer;
          counted = λ p. omega (arith, t.counted p);
        }

-- the highest step of an order can be taken out of it
top_taken : (n : ℕ) (l : List ℕ) → EachOnce (suc n) l → Taken n l
top_taken n l h = taken n l (rw (h n, lt-ltb n (suc n) (omega arith)) (omega arith))

-- what is left of an order of the steps up to n, without n, is an order of those below n
rest_once : (n : ℕ) (l : List ℕ) → EachOnce (suc n) l → (t : Taken n l) → EachOnce n t.rest
rest_once n l h t p = go (cases_order p n)
  where
    e : cond (ltb p (suc n)) 1 0 ≡ cond (eqb n p) 1 0 + times t.rest p
    e = sym (h p) ∙ t.counted p

    go : (p ≡ n) ⊎ ((p < n) ⊎ (n < p)) → times t.rest p ≡ cond (ltb p n) 1 0
    go (inl d) = rw (le-ltb p n (omega arith)) (let z = rw (lt-ltb p (suc n) (omega arith), eq-eqb n p (sym d)) at e in omega arith)
    go (inr (inl d)) = rw (lt-ltb p n d) (let z = rw (lt-ltb p (suc n) (omega arith), ne_eqb n p (omega arith)) at e in omega arith)
    go (inr (inr d)) = rw (le-ltb p n (omega arith)) (let z = rw (le-ltb p (suc n) (omega arith), ne_eqb n p (omega arith)) at e in omega arith)

-- an order of no steps is empty
none_once : (l : List ℕ) → EachOnce 0 l → l ≡ []
unfolding times
none_once [] h = refl
none_once (q ∷ l) h = absurd (let z = rw (eq-eqb q q refl, le-ltb q 0 (omega arith)) at (h q) in omega arith)

-- an order of n steps has n of them
pub each_length : (n : ℕ) (l : List ℕ) → EachOnce n l → length l ≡ n
each_length zero l h = ap length (none_once l h)
each_length (suc n) l h = let t = top_taken n l h in t.longer ∙ ap suc (each_length n t.rest (rest_once n l h t))

-- every order of n steps is in that list
pub orders_listed : (n : ℕ) (l : List ℕ) → EachOnce n l → Listed (all_orders n) l
unfolding all_orders
orders_listed zero l h = (0, omega arith, sym (none_once l h))
orders_listed (suc n) l h =
    let t = top_taken n l h in
    let r = rest_once n l h t in
    let w = each_length n t.rest r in
    let m : t.place < suc n = omega (arith, t.within) in
    joined_listed (puts n (suc n)) (all_orders n) t.rest l (orders_listed n t.rest r) (rw t.back at (puts_listed n t.rest (suc n) t.place m))

-- no list without repeats has more than n! orders of n steps
pub at_most : (n : ℕ) (ls : List (List ℕ)) → Apart ls → ((k : ℕ) → k < length ls → EachOnce n (get_or ls k [])) → length ls ≤ factorial n
at_most n ls a h = rw (← orders_count n) (fewer ls (all_orders n) a (λ o (k, l, e). orders_listed n o (rw e at (h k l))))
