-- Each step has its neighbours, and a number that is no step has none.
use Rattle.std.proofs.Common.{◌<◌, ◌≢◌, length, refl, sym, ◌∙◌, inl, inr, not-suc-le-zero, arith, length-set, get_or-set_other, get_or-set_same}
use Rattle.std.proofs.lemmas.Bool.{cases_eq, cases_lt}
use Rattle.std.proofs.lemmas.List.{set-get_or}
use Rattle.bits.specs.Tables.{words}
use Rattle.bits.proofs.Tables.{words_set, blank_at}
use Rattle.sheets.specs.Limits.{limit}
use Rattle.sheets.proofs.ClashTables.{table_clashes, neighbours_past}
use Rattle.sheets.proofs.pairs.Pairs.of.Goals as goal

pub loop-step-init : goal.loop-step-init
loop-step-init g c = (refl, λ k h. absurd (not-suc-le-zero h), λ k h. blank_at limit k)

pub loop-step-preserved : goal.loop-step-preserved
loop-step-preserved g c =
    let items = c.loop-step.set-items in
    let step = c.loop-step.step in
    let (long, asked, blank) = c.loop-step.invariant in
    let is = words_set items step c.neighbours.result in
    let room : step < length (words items) = omega (arith, long) in (
      rw is (simp length-set long),
      λ k h.
          rw is
          (elim (cases_eq k step) [
            | inl e ↦ rw e (rw get_or-set_same c.neighbours.ensures)
            | inr e ↦ let ne : k ≢ step = e in rw get_or-set_other (asked k (omega arith))
          ]),
      λ k h. rw is (let ne : k ≢ step = omega arith in rw get_or-set_other (blank k (omega arith))),
    )

pub returns-after-loop-step : goal.returns-after-loop-step
returns-after-loop-step g c =
    let sheet = c.args.sheet.now in
    let (long, asked, blank) = c.loop-step.invariant in
    table_clashes (g.S.Sheet.graph sheet) (g.S.Sheet.laws sheet) (words c.loop-step.set-items) long (λ k h. asked k (omega arith))

pub returns-then-step-count : goal.returns-then-step-count
returns-then-step-count g c =
    let sheet = c.args.sheet.now in
    let graph = g.S.Sheet.graph sheet in
    let laws = g.S.Sheet.laws sheet in
    let items = c.loop-step.set-items in
    let (long, asked, blank) = c.loop-step.invariant in
    rw (set-get_or items c.loop-step.step (record { bits = 0 }))
    (table_clashes graph laws (words items) long
    (λ k h.
    elim (cases_lt k c.loop-step.step) [
      | inl l ↦ asked k l
      | inr l ↦ blank k l ∙ sym (neighbours_past graph laws k (omega (arith, c.count-count.ensures)))
    ]))
