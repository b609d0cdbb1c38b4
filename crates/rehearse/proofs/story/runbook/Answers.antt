-- The clashes follow from the footprints by computation.
use Rattle.std.proofs.Common.{◌≡◌, refl, ap, ◌∙◌, rules}
use Rattle.bits.specs.Sets.{has, mask_of, any}
use Rattle.sheets.specs.Columns.{footprints, column_graph}
use Rattle.rehearse.specs.Story.{story, ring, lower_pairs, pairs_below, clashing_pairs}
use Rattle.rehearse.proofs.story.runbook.Goals as goal

story_clashes : clashing_pairs (column_graph story) ≡ ring
unfolding has mask_of any lower_pairs pairs_below
story_clashes = refl

pub returns-clause-clashes : goal.returns-clause-clashes
returns-clause-clashes c =
    let steps : footprints c.unwrap.result ≡ story = search rules in
    ap (λ fs. clashing_pairs (column_graph fs)) steps ∙ story_clashes
