-- The neighbours below the step that is asked next.
use Rattle.std.proofs.Common.{◌≡◌}
use Rattle.bits.specs.Sets.{mask_of}
use Rattle.sheets.proofs.interface.neighbours.Given as goal

abbrev pub invariant-loop-other : goal.invariant-loop-other
invariant-loop-other g l = l.found.bits ≡ mask_of l.other ((g.S.Sheet.graph l.sheet).clashes l.step)
