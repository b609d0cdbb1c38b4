-- The successor and the ends of the order, and that successors from the lowest on list every orientation.
-- Assumes nothing.
use Rattle.std.proofs.Common.{ℕ, suc, ◌<◌, ◌≤◌, List, [], map, length, get_or, Some, None, Option, sym, ap, ◌∙◌, inl, inr, arith}
use Rattle.std.proofs.lemmas.List.{length-map}
use Rattle.std.proofs.lemmas.Bool.{cases_order}
use Rattle.sheets.specs.Graphs.{Graph}
use Rattle.orientations.specs.Rows.{arrow, Orients}
use Rattle.orientations.specs.Successors.{lowest, highest, factorial, Lower, Next, successor, upcoming, all_orientations}
use Rattle.orientations.specs.Successors.Place.{fresh}
use Rattle.orientations.specs.Lists.{Apart}
use Rattle.orientations.specs.Orders.{EachOnce, order}
use Rattle.orientations.specs.Theorems.{LowerOrders, EndsStand, SuccessorsStand, UpcomingStand, AllListed, NoneLost}
use Rattle.orientations.proofs.Comparing.{irreflexive, transitive, total, Then, then_of, lowest_sound, lowest_length, lowest_least, highest_sound, highest_length, highest_none, none_highest}
use Rattle.orientations.proofs.Changes.{changed_lowest}
use Rattle.orientations.proofs.Corresponding.{rows_correspond}
use Rattle.orientations.proofs.Counting.{at_most, apart_map, all_map}
use Rattle.orientations.proofs.Oriented.{orders_follow}
use Rattle.orientations.proofs.Upcoming.{rising_apart, upcoming_stands}

pub lower_orders : LowerOrders
lower_orders g = (irreflexive g, transitive g, λ o p s t. total g o p s.sound t.sound (s.full ∙ sym t.full))

module _ (g : Graph) where
  lowest_orients : Orients g (lowest g.steps)
  lowest_orients = record { full = lowest_length g g.steps; sound = lowest_sound g g.steps }

  highest_orients : Orients g (highest g g.steps)
  highest_orients = record { full = highest_length g g.steps; sound = highest_sound g g.steps }

  -- of a graph's own orientations: the lowest above, or none above
  next_of : (o : List ℕ) → Orients g o → Next g o (successor g o)
  next_of o s = go (successor g o) (then_of g o s.sound)
    where
      go : (n : Option (List ℕ)) → Then g o n → Next g o n
      go None h = λ c t k. h c t.sound k
      go (Some p) (sp, len, op, none) =
          let t : Orients g p = record { full = len ∙ s.full; sound = sp } in
          record {
            orients = t;
            above = op;
            least = λ c u k.
                elim ((lower_orders g).2 p c t u) [
                  | inl e ↦ inl e
                  | inr (inl l) ↦ inr l
                  | inr (inr l) ↦ absurd (none c u.sound k l)
                ];
          }

pub ends_stand : EndsStand
ends_stand g = (
  (
    lowest_orients g,
    λ c s.
        elim ((lower_orders g).2 (lowest g.steps) c (lowest_orients g) s) [
          | inl e ↦ inl e
          | inr (inl l) ↦ inr l
          | inr (inr l) ↦ absurd (lowest_least g g.steps c s.sound l)
        ],
  ),
  (
    highest_orients g,
    λ c s.
        elim ((lower_orders g).2 (highest g g.steps) c (highest_orients g) s) [
          | inl e ↦ inl e
          | inr (inl l) ↦ absurd (top c s l)
          | inr (inr l) ↦ inr l
        ],
  ),
)
  where
    top : (c : List ℕ) → Orients g c → Lower g (highest g g.steps) c → ⊥
    top c s l = (rw (highest_none g g.steps) at (next_of g (highest g g.steps) (highest_orients g))) c s l

pub successors_stand : SuccessorsStand
successors_stand g o s = (
  next_of g o s,
  (
    λ e. none_highest g o s.sound e ∙ ap (highest g) s.full,
    λ e. ap (successor g) e ∙ highest_none g g.steps,
  ),
  λ p e. changed_lowest g o p s.sound e,
)

pub upcoming_stand : UpcomingStand
upcoming_stand g k s t =
    let (first_orients, first_below) = (ends_stand g).0 in
    upcoming_stands g (irreflexive g) (transitive g) (next_of g) first_orients first_below k s t

-- ---- all of them

-- orders tell orientations apart, so no list without repeats has more than n! of them
few : (g : Graph) (os : List (List ℕ)) → Apart os → ((k : ℕ) → k < length os → Orients g (get_or os k [])) → length os ≤ factorial g.steps
few g os a m =
    let (ordered, told_apart) = orders_follow g in
    rw (← length-map os (order g))
    (at_most g.steps (map (order g) os) (apart_map (order g) os a (λ j k l n e. told_apart _ _ (m j l) (m k n) e))
    (all_map (EachOnce g.steps) (order g) os (λ k l. (ordered _ (m k l)).0)))

pub all_listed : AllListed
unfolding all_orientations
all_listed g =
    let coming = (upcoming_stand g (suc (factorial g.steps)) fresh tt).0 in
    let apart = rising_apart g (irreflexive g) _ coming.rising in
    let most = few g (upcoming g (suc (factorial g.steps)) fresh) apart (λ k l. (coming.members k l).0) in (
      λ k l. (coming.members k l).0,
      λ o s. elim (coming.others o s tt) [ inl h ↦ h | inr h ↦ absurd (omega (arith, h.0, most)) ],
      coming.rising,
      apart,
      most,
    )

-- rows hold every orientation, one list of rows each, and every list of rows that holds one stands in the list once
pub none_lost : NoneLost
none_lost g laws R r =
    let (orients, held, alike) = rows_correspond g laws in
    let (o, s, e) = held R r in
    let (members, listed, rising, apart, most) = all_listed g in
    let (k, l, is) = listed o s in (
      k,
      l,
      λ q p. ap (λ (x : List ℕ). arrow g x q p) is ∙ e q p,
      λ j m same.
          let one = alike _ _ (members j m) (members k l) (λ q p. same q p ∙ sym (ap (λ (x : List ℕ). arrow g x q p) is ∙ e q p)) in
          elim (cases_order j k) [
            | inl d ↦ d
            | inr (inl lt) ↦ absurd (apart j k lt l one)
            | inr (inr lt) ↦ absurd (apart k j lt m (sym one))
          ],
    )
