-- The part of the rows that is filled holds empty sets, and what stands before and after it stays.
use Rattle.std.proofs.Common.{◌≡◌, ℕ, ◌-◌, ◌<◌, ◌≤◌, cond, ◌&&◌, ltb, leb, List, length, get_or, replicate, refl, sym, ap, ◌∙◌, inl, inr, arith, rules}
use borrow.Rule.Slice.PartMut.{put_mid, mid_of}
use Rattle.std.proofs.lemmas.Bool.{cases_lt}
use Rattle.std.proofs.lemmas.List.{places}
use Rattle.bits.specs.declared.Mask.{Mask}
use Rattle.bits.specs.Tables.{words}
use Rattle.bits.proofs.Tables.{word_at}
use Rattle.rows.proofs.Rising.{cut_in, cut_below, cut_past}
use Rattle.rows.proofs.directions.Directions.clear.Goals as goal

module _ (xs : List Mask) (from to k : ℕ) (order : from ≤ to) (room : to ≤ length xs) where
  abbrev empty : Mask
  empty = record { bits = 0 }

  abbrev filled : List Mask
  filled = put_mid from (to - from) xs (replicate (length (mid_of from (to - from) xs)) empty)

  below : k < from → get_or filled k empty ≡ get_or xs k empty
  below h = search (rules, places)

  inside : from ≤ k → k < to → get_or filled k empty ≡ empty
  inside h l = search (rules, places)

  above : to ≤ k → get_or filled k empty ≡ get_or xs k empty
  above h = search (rules, places)

  filled_at : get_or (words filled) k 0 ≡ cond (leb from k && ltb k to) 0 (get_or (words xs) k 0)
  filled_at =
      sym (word_at filled k)
      ∙ elim (cases_lt k from) [
        | inl h ↦ ap (λ (m : Mask). m.bits) (below h) ∙ word_at xs k ∙ sym (cut_below from to k (get_or (words xs) k 0) h)
        | inr h ↦
            elim (cases_lt k to) [
              | inl l ↦ ap (λ (m : Mask). m.bits) (inside h l) ∙ sym (cut_in from to k (get_or (words xs) k 0) h l)
              | inr l ↦ ap (λ (m : Mask). m.bits) (above l) ∙ word_at xs k ∙ sym (cut_past from to k (get_or (words xs) k 0) l)
            ]
      ]

pub returns : goal.returns
returns c =
    let xs = c.args.self.now.rows in
    let from = c.args.from in
    let to = c.args.to in
    record {
      conflicts = refl;
      rows = λ k.
          ap (λ ys. get_or (words (put_mid from (to - from) xs ys)) k 0) (c.fill.ensures.after (search rules))
          ∙ filled_at xs from to k c.requires.from (omega arith);
    }
