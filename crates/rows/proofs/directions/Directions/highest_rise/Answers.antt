-- Along W from its last place: a place with 1 is passed, and the first with 0 rises.
use Rattle.std.proofs.Common.{◌≡◌, ℕ, suc, ◌-◌, ◌<◌, ◌&&◌, List, ◌++◌, length, get_or, take, drop, replicate, reverse, sym, ap, ◌∙◌, subst, Some, None, Option, Bor, Iter, arith}
use Rattle.std.specs.declared.iter.Rev.{Rev}
use Rattle.std.specs.Iterator.{Yields}
use Rattle.std.specs.Iterator.Adapters.{rev_source, rev_steps}
use Rattle.std.specs.Slice.Iter.{iter_rest, iter_steps_back}
use Rattle.std.proofs.lemmas.Iterator.{YieldsList}
use Rattle.std.proofs.lemmas.Iterator.Adapters.{YieldsList-from_rev_slice}
use Rattle.std.proofs.lemmas.Iterator.Consumers.{YieldsList-turn, YieldsList-end}
use Rattle.std.proofs.lemmas.List.{take_at, length_push, length-reverse}
use Rattle.bits.specs.Sets.{width, has, mask_of}
use Rattle.bits.specs.Tables.{words}
use Rattle.orientations.specs.Assignments.{W}
use Rattle.orientations.specs.Rows.{assignment}
use Rattle.sheets.specs.Limits.{limit}
use Rattle.rows.specs.Conflicts.{graph_of}
use Rattle.rows.specs.Directions.{held_to}
use Rattle.rows.specs.Moves.{rise_of}
use Rattle.rows.specs.Relations.{rows_of}
use Rattle.rows.proofs.Searching.{array_ones, array_full, place_passed, place_rises}
use Rattle.rows.proofs.Scanning.{Scan, scan_start}
use Rattle.rows.proofs.directions.Directions.highest_rise.Goals as goal

-- s goes through the places of w, without the zeros behind them, from the last
module _ (s : Rev (Iter ℕ)) (w places : List ℕ) (size : ℕ) (rest : iter_rest (rev_source s) ≡ take size places)
    (is : places ≡ w ++ drop size (replicate limit 0)) (long : size ≡ length w) where
  from_back : YieldsList (rev_steps iter_steps_back) (λ y. y.now) s (reverse w)
  from_back =
      YieldsList-from_rev_slice w (rest ∙ ap (take size) is ∙ take_at w (drop size (replicate limit 0)) size (sym long))

  module _ (ys : List (Bor ℕ)) (t : Rev (Iter ℕ)) (yielded : Yields (rev_steps iter_steps_back) s ys t) (r : Option (Bor ℕ)) (u : Rev (Iter ℕ)) where
    -- the next is j
    next_place : (x : Bor ℕ) → r ≡ Some x → rev_steps iter_steps_back t r u → (j : ℕ) → x.now ≡ j
        → (length ys < length (reverse w)) × (j ≡ get_or (reverse w) (length ys) j)
    next_place x some step j e =
        subst (λ (j : ℕ). (length ys < length (reverse w)) × (j ≡ get_or (reverse w) (length ys) j)) e
        (YieldsList-turn from_back ys t yielded r u x some step)

    -- there is none
    no_place : r ≡ None → rev_steps iter_steps_back t r u → length w - length ys ≡ 0
    no_place none step = let end = (YieldsList-end from_back ys t yielded r u none step).1 in omega (arith, length-reverse w)

pub loop-step-init : goal.loop-step-init
loop-step-init c = ap (λ n. rise_of (graph_of c.args.self.now.conflicts) (held_to c.args.self.now n)) (sym c.count-step.ensures)

pub loop-place-init : goal.loop-place-init
loop-place-init c =
    let d = c.args.self.now in
    let g = graph_of d.conflicts in
    let few = d.conflicts.few in
    let rows = words d.rows in
    let s = c.loop-step.step - 1 in
    let N = c.of-level.result.neighbours.bits in
    scan_start (W g (held_to d s)) (assignment g s (get_or rows s 0)) (length (W g (held_to d s)) - 0) c.intersection-ones.result.bits (omega arith)
    (array_ones g rows s (omega (arith, c.count-step.ensures)) N c.intersection-ones.result.bits c.of-level.ensures.neighbours
    (c.intersection-ones.ensures.answer ∙ ap (λ (a : ℕ). mask_of width (λ q. has N q && has a q)) c.row.ensures))

pub loop-place-preserved : goal.loop-place-preserved
loop-place-preserved c =
    let d = c.args.self.now in
    let g = graph_of d.conflicts in
    let few = d.conflicts.few in
    let rows = words d.rows in
    let s = c.loop-step.step - 1 in
    let w = W g (held_to d s) in
    let level = c.of-level.ensures in
    let n = length c.loop-place.yielded in
    let ones = c.loop-place.ones.bits in
    let next =
    next_place _ w c.of-level.result.places c.of-level.result.size (cc) level.places level.size c.loop-place.yielded _ c.loop-place.yielded_by _ _
    c.in-Some.field-0 c.in-Some.is c.next.ensures.steps c.from-neighbour.result cc in
    subst (λ (m : ℕ). Scan w (assignment g s (get_or rows s 0)) (length w - m) c.without-ones.result.bits)
    (sym (length_push c.loop-place.yielded c.in-Some.field-0))
    (place_passed g rows s (omega (arith, c.count-step.ensures)) n c.from-neighbour.result ones c.loop-place.invariant next
    (sym c.contains.ensures ∙ c.if-not-contains.false) c.without-ones.result.bits c.without-ones.ensures.answer)

pub returns-then-not-contains-clause-answer : goal.returns-then-not-contains-clause-answer
returns-then-not-contains-clause-answer c =
    let d = c.args.self.now in
    let g = graph_of d.conflicts in
    let few = d.conflicts.few in
    let rows = words d.rows in
    let s = c.loop-step.step - 1 in
    let w = W g (held_to d s) in
    let level = c.of-level.ensures in
    let n = length c.loop-place.yielded in
    let ones = c.loop-place.ones.bits in
    let next =
    next_place _ w c.of-level.result.places c.of-level.result.size (cc) level.places level.size c.loop-place.yielded _ c.loop-place.yielded_by _ _
    c.in-Some.field-0 c.in-Some.is c.next.ensures.steps c.from-neighbour.result cc in
    let up : c.loop-step.step ≡ suc s = omega arith in
    sym
    (c.loop-step.invariant ∙ ap (λ n. rise_of g (held_to d n)) up
    ∙ place_rises g rows s (omega (arith, c.count-step.ensures)) n c.from-neighbour.result ones c.loop-place.invariant next
    (sym c.contains.ensures ∙ c.if-not-contains.true) (words c.of-level.result.ancestors.sources) c.with.result.bits
    c.of-level.result.neighbours.bits c.closed-row.result.bits level.ancestors c.with.ensures.answer level.neighbours c.closed-row.ensures)

pub loop-step-preserved : goal.loop-step-preserved
loop-step-preserved c =
    let d = c.args.self.now in
    let g = graph_of d.conflicts in
    let few = d.conflicts.few in
    let rows = words d.rows in
    let s = c.loop-step.step - 1 in
    let w = W g (held_to d s) in
    let level = c.of-level.ensures in
    let none =
    no_place _ w c.of-level.result.places c.of-level.result.size (cc) level.places level.size c.loop-place.yielded _ c.loop-place.yielded_by _ _
    c.in-None.is c.next.ensures.steps in
    let up : c.loop-step.step ≡ suc s = omega arith in
    c.loop-step.invariant ∙ ap (λ n. rise_of g (held_to d n)) up
    ∙ array_full g rows s (omega (arith, c.count-step.ensures))
    (subst (λ (m : ℕ). Scan w (assignment g s (get_or rows s 0)) m c.loop-place.ones.bits) none c.loop-place.invariant).0

pub returns-after-loop-step-clause-answer : goal.returns-after-loop-step-clause-answer
unfolding rise_of rows_of
returns-after-loop-step-clause-answer c =
    let d = c.args.self.now in
    let none : c.loop-step.step ≡ 0 = omega arith in
    sym (c.loop-step.invariant ∙ ap (λ n. rise_of (graph_of d.conflicts) (held_to d n)) none)
