-- Equal masks have the same members, and no others.
use Rattle.std.proofs.Common.{ℕ, ap, ◌∙◌, sym}
use Rattle.std.proofs.lemmas.Bool.{eqb-true, eq-eqb}
use Rattle.bits.specs.Sets.{has}
use Rattle.bits.proofs.Sets.{mask_ext}
use Rattle.bits.proofs.Mask.same.Goals as goal

pub returns : goal.returns
returns c =
    let a = c.args.self.bits in
    let b = c.args.other.bits in
    (λ e q. ap (λ (m : ℕ). has m q) (eqb-true a b (sym c.eq.ensures ∙ e)), λ e. c.eq.ensures ∙ eq-eqb a b (mask_ext a b e))
