-- The lowest member is the first of those that are left.
use Rattle.std.proofs.Common.{ℕ, List, ◌∷◌, length, ap, sym, ◌∙◌, arith}
use Rattle.bits.specs.Sets.{width, has, members_of}
use Rattle.bits.proofs.Sets.{listed_none, members_step}
use Rattle.bits.proofs.IntoIterIterator.next.Goals as goal

pub returns-in_err-lowest-clause-steps : goal.returns-in_err-lowest-clause-steps
returns-in_err-lowest-clause-steps c =
    let none = listed_none width (has c.args.self.now.left.bits) c.in_err-lowest.ensures.lowest in
    rw c.from_residual.ensures (none, none)

pub returns-clause-steps : goal.returns-clause-steps
returns-clause-steps c =
    members_step _ _ c.in_ok-lowest.ensures.lowest ∙ ap (λ (m : ℕ). c.in_ok-lowest.lowest ∷ members_of m) (sym (c.rest-self.ensures.lowest _ c.in_ok-lowest.ensures.lowest))

pub returns-clause-goes : goal.returns-clause-goes
returns-clause-goes c =
    let e = ap (λ (l : List ℕ). length l) (returns-clause-steps c) in
    record { on = λ h. (h, h, omega (arith, e)); keeps = tt; rests = λ h. tt }
