-- A chain leads from a step back to itself exactly where the step is its own ancestor.
use Rattle.std.proofs.Common.{◌≡◌, ℕ, ◌<◌, Bool, false, ◌↔◌, IsTrue, List, length, refl, subst, arith, rules, tests}
use Rattle.std.proofs.lemmas.Bool.{both_ways}
use Rattle.std.proofs.lemmas.Bool.{false_from_ne_true}
use Rattle.bits.specs.Tables.{words}
use Rattle.orientations.specs.Arrows.{Chain, Acyclic}
use Rattle.orientations.specs.Rows.{arrow}
use Rattle.orientations.proofs.Chains.{chain_below}
use Rattle.sheets.specs.Graphs.{Graph}
use Rattle.rows.specs.Conflicts.{graph_of}
use Rattle.rows.specs.Directions.{held_to}
use Rattle.rows.specs.Relations.{leads}
use Rattle.rows.proofs.Held.{length_rows}
use Rattle.rows.proofs.Ranging.{all_below}
use Rattle.rows.proofs.directions.Directions.is_acyclic.Goals as goal

-- where t tells the ancestors of the n steps of o, and r whether none is its own
none_own : (g : Graph) (o : List ℕ) (n : ℕ) (t : ℕ → ℕ → Bool) (r : Bool) → length o ≡ n
    → ((q p : ℕ) → IsTrue (t q p) ↔ Chain (arrow g o) q p)
    → IsTrue r ↔ ((k : ℕ) → k < n → t k k ≡ false) → IsTrue r ↔ Acyclic (arrow g o)
none_own g o n t r long tells each = (
  λ holds p chain. let low = (chain_below g o chain).0 in both_ways (t p p) (each.0 holds p (omega arith)) ((tells p p).1 chain),
  λ none. each.1 (λ k l. false_from_ne_true (t k k) (λ e. none k ((tells k k).0 e))),
)

pub returns : goal.returns
returns c =
    let d = c.args.self.now in
    let n = c.count-count.result in
    let t = leads c.ancestors-ancestors.result in
    subst (λ m. IsTrue c.all.result ↔ Acyclic (arrow (graph_of d.conflicts) (held_to d m))) c.count-count.ensures
    (none_own (graph_of d.conflicts) (held_to d n) n t c.all.result (length_rows (words d.rows) n) c.ancestors-ancestors.ensures.chains
    (all_below (λ p. t p p ≡ false) n _ _ c.all.result c.all.ensures.ran refl (λ x q k. search (rules, tests)) (λ x q k. search (rules, tests))))
