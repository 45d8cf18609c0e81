use Rattle.std.proofs.Common.{Option, ap, ◌∙◌, arith}
use Rattle.std.specs.Prelude.{option_map}
use Rattle.std.specs.BTreeMap.{get}
use Rattle.std.specs.Option.{option_or}
use Rattle.code_ranges.specs.Spans.{place_cmp}
use Rattle.thumb_table.specs.Layouts.{Placed, part_of}
use Rattle.flat_link.specs.Lots.{placed_of}
use Rattle.std.proofs.Common.{[], ◌∷◌}
use Rattle.flat_link.proofs.LayoutFacts.{part_more}
use Rattle.flat_link.proofs.layout.note_lots.Goals as goal

pub loop-l-preserved : goal.loop-l-preserved
loop-l-preserved c = λ i j.
    let l = c.l-item.result in
    part_more c.args.lots.now c.loop-l.l-index l i j (option_map placed_of (get place_cmp c.args.table.now (i, j))) _ (omega arith) c.l-item.is
    (c.in_ok-note_lot.ensures i j ∙ ap (λ (o : Option Placed). option_or o (part_of (placed_of l ∷ []) i j)) (c.loop-l.invariant i j))
