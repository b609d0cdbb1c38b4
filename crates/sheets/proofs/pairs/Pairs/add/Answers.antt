-- The higher step of the pair gets the lower one, whichever was named first.
use Rattle.std.proofs.Common.{ℕ, List, get_or, set, ap, ◌∙◌, ap₂, arith}
use Rattle.bits.specs.Sets.{inserted}
use Rattle.bits.specs.Tables.{words}
use Rattle.bits.proofs.Tables.{word_at, words_long, words_set}
use Rattle.sheets.specs.Fences.{fenced}
use Rattle.sheets.proofs.FencePairs.{pair_added}
use Rattle.sheets.proofs.pairs.Pairs.add.Goals as goal

pub returns-then-high-lt-LIMIT : goal.returns-then-high-lt-LIMIT
returns-then-high-lt-LIMIT c p q =
    let i = c.args.i in
    let j = c.args.j in
    let lower = c.args.self.now.lower in
    let low = c.min-low.ensures in
    let high = c.max-high.ensures in
    let e = c.with.ensures.answer in
    ap (λ (ps : List ℕ). fenced ps p q) (words_set lower c.max-high.result c.with.result ∙ ap (λ (k : ℕ). set (words lower) k c.with.result.bits) high)
    ∙ pair_added (words lower) i j c.with.result.bits (omega arith) (omega arith) (words_long lower _ (omega arith))
    (e ∙ ap₂ inserted (word_at lower c.max-high.result ∙ ap (λ (k : ℕ). get_or (words lower) k 0) high) low) p q
