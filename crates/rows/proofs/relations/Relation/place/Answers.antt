-- Each turn writes the lowest candidate and takes it from what is left.
use Rattle.std.proofs.Common.{◌≡◌, suc, ◌+◌, ◌-◌, ◌++◌, length, drop, sym, refl, ap, ◌∙◌, arith}
use Rattle.std.proofs.lemmas.List.{set-get_or}
use Rattle.bits.specs.Sets.{width}
use Rattle.orientations.specs.Placing.{places}
use Rattle.sheets.specs.Limits.{limit}
use Rattle.rows.specs.Relations.{leads}
use Rattle.rows.proofs.Placing.{place_some, place_none, tail_of, written_more, written_all}
use Rattle.rows.proofs.relations.Relation.place.Goals as goal

pub loop-k-init : goal.loop-k-init
loop-k-init c =
    let n = length c.args.out.now in
    ((omega arith, refl), ap (λ k. places (leads c.args.self.now) limit k c.args.set.bits) (let z : n ≡ n - 0 = omega arith in z))

pub loop-k-preserved : goal.loop-k-preserved
loop-k-preserved c =
    let R = leads c.args.self.now in
    let n = length c.args.out.now in
    let k = c.loop-k.k in
    let U = c.loop-k.unplaced.bits in
    let p = c.in-Some.step in
    let W = places R limit n c.args.set.bits in
    let inv = c.loop-k.invariant in
    let turn : n - k ≡ suc (n - (k + 1)) = omega arith in
    let rest = inv.1 ∙ ap (λ f. places R limit f U) turn ∙ place_some R width limit U (omega arith) p (n - (k + 1)) c.in-Some.ensures.answer in (
      written_more W c.args.out.now c.loop-k.out k p _ (omega arith) rest inv.0,
      tail_of W _ k p rest ∙ ap (places R limit (n - (k + 1))) (sym c.without-unplaced.ensures.answer),
    )

pub returns-in-None : goal.returns-in-None
returns-in-None c =
    let R = leads c.args.self.now in
    let n = length c.args.out.now in
    let k = c.loop-k.k in
    let U = c.loop-k.unplaced.bits in
    let W = places R limit n c.args.set.bits in
    let inv = c.loop-k.invariant in
    let end = written_all W c.args.out.now c.loop-k.out k (inv.1 ∙ place_none R width limit U (omega arith) (n - k) c.in-None.ensures.answer) inv.0 in
    record { answer = end.0; buffer = set-get_or c.loop-k.out k 0 ∙ end.1 }

pub returns : goal.returns
unfolding places
returns c =
    let R = leads c.args.self.now in
    let out = c.args.out.now in
    let n = length out in
    let k = c.loop-k.k in
    let W = places R limit n c.args.set.bits in
    let inv = c.loop-k.invariant in
    let full : k ≡ length c.loop-k.out = omega arith in
    let end = written_all W out c.loop-k.out k (inv.1 ∙ ap (λ f. places R limit f c.loop-k.unplaced.bits) (let z : n - k ≡ 0 = omega arith in z)) inv.0 in
    record { answer = sym full ∙ end.0; buffer = end.1 ∙ ap (λ x. W ++ drop x out) full }
