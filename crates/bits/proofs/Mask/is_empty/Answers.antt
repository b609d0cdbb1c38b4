-- The word 0 has no members, and no other word has none.
use Rattle.std.proofs.Common.{ap, sym, ◌∙◌}
use Rattle.std.proofs.lemmas.Bool.{eqb-true, eq-eqb}
use Rattle.bits.specs.Sets.{has}
use Rattle.bits.proofs.Sets.{has_none, mask_ext}
use Rattle.bits.proofs.Mask.is_empty.Goals as goal

pub returns-clause-members : goal.returns-clause-members
returns-clause-members c =
    let m = c.args.self.bits in
    (λ e q. ap (λ m. has m q) (eqb-true m 0 e) ∙ has_none q, λ none. eq-eqb m 0 (mask_ext m 0 (λ q. none q ∙ sym (has_none q))))
