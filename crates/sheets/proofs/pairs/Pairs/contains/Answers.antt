-- The higher step of a pair has the lower one in its set.
use Rattle.std.proofs.Common.{ℕ, max, min, Bool, not, ◌&&◌, get_or, sym, ap, ◌∙◌, ap₂}
use Rattle.std.proofs.lemmas.Bool.{ne_eqb}
use Rattle.bits.specs.Sets.{has}
use Rattle.bits.specs.Tables.{words}
use Rattle.sheets.proofs.pairs.Pairs.contains.Goals as goal

pub returns-then-i-j : goal.returns-then-i-j
returns-then-i-j c =
    let i = c.args.i in
    let j = c.args.j in
    c.contains.ensures
    ∙ ap₂ has (c.lower_of.ensures ∙ ap (λ (k : ℕ). get_or (words c.args.self.now.lower) k 0) c.max.ensures) c.min.ensures
    ∙ sym (ap (λ (b : Bool). not b && has (get_or (words c.args.self.now.lower) (max i j) 0) (min i j)) (ne_eqb i j c.if-i-j.true))
