-- The rows after the move to the successor.
-- Assumes nothing.
use Rattle.std.proofs.Common.{◌≡◌, ℕ, zero, suc, ◌+◌, ◌<◌, ◌≤◌, cond, ◌&&◌, ltb, leb, List, [], ◌∷◌, length, get_or, set, Some, None, Option, sym, refl, ap, ◌∙◌, ap₂, subst₂, arith, get_or-set_other, get_or-set_same}
use Rattle.std.proofs.lemmas.Bool.Decides.{nat_tests}
use Rattle.sheets.specs.Graphs.{Graph}
use Rattle.orientations.specs.Assignments.{next_row}
use Rattle.orientations.specs.Rows.{Orients}
use Rattle.orientations.specs.Successors.{lowest, successor, changed, Next}
use Rattle.orientations.proofs.Listing.{successors_stand}
use Rattle.rows.specs.declared.successors.Rise.{Rise}
use Rattle.rows.specs.Moves.{rise_of, told_by, moved_to, Moved}
use Rattle.rows.specs.Relations.{rows_of}
use Rattle.rows.proofs.Held.{length_rows, rows_same}

pub zero_rows : (xs : List ℕ) (n : ℕ) → ((k : ℕ) → k < n → get_or xs k 0 ≡ 0) → rows_of xs n ≡ lowest n
unfolding rows_of lowest
zero_rows xs zero h = refl
zero_rows xs (suc n) h = ap₂ (λ (x : ℕ) (o : List ℕ). x ∷ o) (h n (omega arith)) (zero_rows xs n (λ k l. h k (omega arith)))

-- where no level rises there is no successor
pub none_rises : (g : Graph) (o : List ℕ) → rise_of g o ≡ None → successor g o ≡ None
unfolding rise_of successor
none_rises g [] e = refl
none_rises g (a ∷ o) e = go (next_row g o a) e (none_rises g o)
  where
    go : (r : Option ℕ)
        → ◌≡◌ {A = Option Rise} (elim r [ Some b ↦ Some (record { step = length o; row = record { bits = b } }) | None ↦ rise_of g o ]) None
        → (rise_of g o ≡ None → successor g o ≡ None)
        → ◌≡◌ {A = Option (List ℕ)} (elim r [ Some b ↦ Some (b ∷ o) | None ↦ elim (successor g o) [ Some p ↦ Some (0 ∷ p) | None ↦ None ] ]) None
    go (Some b) e ih = absurd (let z : ◌≡◌ {A = ℕ} 0 1 = cc in omega arith)
    go None e ih = ap (λ (m : Option (List ℕ)). elim m as (λ _. Option (List ℕ)) [ Some p ↦ Some (0 ∷ p) | None ↦ None ]) (ih e)

-- ys are the rows xs after the level of r rose: as before below it, its new row, and zeros above
pub record Risen (xs ys : List ℕ) (n : ℕ) (r : Rise) : Type 0 where
  pub kept : (k : ℕ) → k < r.step → get_or ys k 0 ≡ get_or xs k 0
  pub here : get_or ys r.step 0 ≡ r.row.bits
  pub gone : (k : ℕ) → r.step < k → k < n → get_or ys k 0 ≡ 0

-- they are the successor's, and the level is the first that changed
pub one_rises : (g : Graph) (xs ys : List ℕ) (n : ℕ) (r : Rise) → rise_of g (rows_of xs n) ≡ Some r → Risen xs ys n r
    → (successor g (rows_of xs n) ≡ Some (rows_of ys n)) × (changed g (rows_of xs n) ≡ r.step) × (r.step < n)
unfolding rows_of rise_of successor changed
one_rises g xs ys zero r e h = absurd (let z : ◌≡◌ {A = ℕ} 0 1 = cc in omega arith)
one_rises g xs ys (suc n) r e h = go (next_row g (rows_of xs n) (get_or xs n 0)) e (one_rises g xs ys n r)
  where
    o : List ℕ
    o = rows_of xs n

    long : length o ≡ n
    long = length_rows xs n

    go : (q : Option ℕ)
        → ◌≡◌ {A = Option Rise} (elim q [ Some b ↦ Some (record { step = length o; row = record { bits = b } }) | None ↦ rise_of g o ]) (Some r)
        → (rise_of g o ≡ Some r → Risen xs ys n r → (successor g o ≡ Some (rows_of ys n)) × (changed g o ≡ r.step) × (r.step < n))
        → (◌≡◌ {A = Option (List ℕ)} (elim q [ Some b ↦ Some (b ∷ o) | None ↦ elim (successor g o) [ Some p ↦ Some (0 ∷ p) | None ↦ None ] ])
        (Some (get_or ys n 0 ∷ rows_of ys n)))
        × (elim q as (λ _. ℕ) [ Some b ↦ length o | None ↦ changed g o ] ≡ r.step)
        × (r.step < suc n)
    go (Some b) e ih =
        let top : record { step = length o; row = record { bits = b } } ≡ r = cc in
        let level : length o ≡ r.step = ap (λ (x : Rise). x.step) top in
        let row : b ≡ r.row.bits = ap (λ (x : Rise). x.row.bits) top in
        let there : get_or ys n 0 ≡ b = ap (λ (k : ℕ). get_or ys k 0) (sym long ∙ level) ∙ h.here ∙ sym row in (
          ap₂ (λ (x : ℕ) (p : List ℕ). Some (x ∷ p)) (sym there) (rows_same xs ys n (λ k l. sym (h.kept k (omega (arith, level, long))))),
          level,
          omega (arith, level, long),
        )
    go None e ih =
        let (s, c, lt) = ih e (record { kept = h.kept; here = h.here; gone = λ k l m. h.gone k l (omega arith) }) in (
          ap (λ (m : Option (List ℕ)). elim m as (λ _. Option (List ℕ)) [ Some p ↦ Some (0 ∷ p) | None ↦ None ]) s
              ∙ ap (λ (x : ℕ). Some (x ∷ rows_of ys n)) (sym (h.gone n lt (omega arith))),
          c,
          omega arith,
        )

-- what `clear` leaves: zeros from one row up to another, and all others as they were
pub cut_in : (from to k x : ℕ) → from ≤ k → k < to → cond (leb from k && ltb k to) 0 x ≡ 0
cut_in from to k x h l = grind (arith, nat_tests)

pub cut_below : (from to k x : ℕ) → k < from → cond (leb from k && ltb k to) 0 x ≡ x
cut_below from to k x h = grind (arith, nat_tests)

pub cut_past : (from to k x : ℕ) → to ≤ k → cond (leb from k && ltb k to) 0 x ≡ x
cut_past from to k x h = grind (arith, nat_tests)

-- xs with the new row was cleared above it
pub cleared : (xs ys : List ℕ) (n : ℕ) (r : Rise) → r.step < n → r.step < length xs
    → ((k : ℕ) → get_or ys k 0 ≡ cond (leb (r.step + 1) k && ltb k n) 0 (get_or (set xs r.step r.row.bits) k 0))
    → Risen xs ys n r × ((k : ℕ) → n ≤ k → get_or ys k 0 ≡ get_or xs k 0)
cleared xs ys n r below room is = (
  record {
    kept = λ k l. is k ∙ cut_below (r.step + 1) n k _ (omega arith) ∙ get_or-set_other xs r.step k r.row.bits 0 (omega arith);
    here = is r.step ∙ cut_below (r.step + 1) n r.step _ (omega arith) ∙ get_or-set_same xs r.step r.row.bits 0 room;
    gone = λ k l m. is k ∙ cut_in (r.step + 1) n k _ (omega arith) m;
  },
  λ k l. is k ∙ cut_past (r.step + 1) n k _ l ∙ get_or-set_other xs r.step k r.row.bits 0 (omega arith),
)

-- xs was cleared from the first row on
pub cleared_all : (xs ys : List ℕ) (n : ℕ) → ((k : ℕ) → get_or ys k 0 ≡ cond (leb 0 k && ltb k n) 0 (get_or xs k 0))
    → (rows_of ys n ≡ lowest n) × ((k : ℕ) → n ≤ k → get_or ys k 0 ≡ get_or xs k 0)
cleared_all xs ys n is = (zero_rows ys n (λ k l. is k ∙ cut_in 0 n k _ (omega arith) l), λ k l. is k ∙ cut_past 0 n k _ l)

-- ---- the move in the subject's words

moved : (g : Graph) (o : List ℕ) → Orients g o → Moved g o (told_by g o) (moved_to g o)
moved g o s = go (successor g o) refl (successors_stand g o s).0
  where
    go : (n : Option (List ℕ)) → successor g o ≡ n → Next g o n
        → Moved g o (elim n as (λ _. Option ℕ) [ Some p ↦ Some (changed g o) | None ↦ None ])
        (elim n as (λ _. List ℕ) [ Some p ↦ p | None ↦ lowest (length o) ])
    go (Some p) e h = (h, (successors_stand g o s).2 p e)
    go None e h = (h, ap lowest s.full)

-- what is told and where it led, as computed, are so in the subject's words
pub moved_as : (g : Graph) (o : List ℕ) (r : Option ℕ) (p : List ℕ) → r ≡ told_by g o → p ≡ moved_to g o → Orients g o → Moved g o r p
moved_as g o r p e d s = subst₂ (Moved g o) (sym e) (sym d) (moved g o s)

-- where the successor is p
pub told_some : (g : Graph) (o p : List ℕ) (k : ℕ) → successor g o ≡ Some p → changed g o ≡ k → Some k ≡ told_by g o
told_some g o p k e c =
    ap Some (sym c)
    ∙ sym (ap (λ (n : Option (List ℕ)). elim n as (λ _. Option ℕ) [ Some p ↦ Some (changed g o) | None ↦ None ]) e)

pub led_some : (g : Graph) (o p : List ℕ) → successor g o ≡ Some p → p ≡ moved_to g o
led_some g o p e = sym (ap (λ (n : Option (List ℕ)). elim n as (λ _. List ℕ) [ Some p ↦ p | None ↦ lowest (length o) ]) e)

-- where there is none
pub told_none : (g : Graph) (o : List ℕ) → successor g o ≡ None → None ≡ told_by g o
told_none g o e = sym (ap (λ (n : Option (List ℕ)). elim n as (λ _. Option ℕ) [ Some p ↦ Some (changed g o) | None ↦ None ]) e)

pub led_none : (g : Graph) (o : List ℕ) → successor g o ≡ None → lowest (length o) ≡ moved_to g o
led_none g o e = sym (ap (λ (n : Option (List ℕ)). elim n as (λ _. List ℕ) [ Some p ↦ p | None ↦ lowest (length o) ]) e)
