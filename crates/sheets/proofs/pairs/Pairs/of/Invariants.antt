-- The steps that were asked for have their neighbours, and the others nothing.
use Rattle.std.proofs.Common.{◌≡◌, ℕ, ◌<◌, ◌≤◌, length, get_or}
use Rattle.bits.specs.Tables.{words}
use Rattle.sheets.specs.Graphs.{neighbours_of}
use Rattle.sheets.specs.Limits.{limit}
use Rattle.sheets.proofs.pairs.Pairs.of.Given as goal

abbrev pub invariant-loop-step : goal.invariant-loop-step
invariant-loop-step g l =
    let table = words l.set-items in
    (length table ≡ limit)
    × ((k : ℕ) → k < l.step → get_or table k 0 ≡ neighbours_of (g.S.Sheet.graph l.sheet) k)
    × ((k : ℕ) → l.step ≤ k → get_or table k 0 ≡ 0)
