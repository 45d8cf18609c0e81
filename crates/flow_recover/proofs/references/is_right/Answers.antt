use Rattle.std.proofs.Common.{sym}
use Rattle.std.specs.BTreeMap.{get}
use Rattle.code_ranges.specs.Spans.{place_cmp}
use Rattle.flow_recover.proofs.RightRelocs.{placed_there, placed_right}
use Rattle.flow_recover.proofs.references.is_right.Goals as goal

pub returns-in-None : goal.returns-in-None
returns-in-None c =
    absurd (placed_there c.args.o.now c.sound.ensures (λ j x. get place_cmp c.args.chart.now.relocs (j, x)) c.requires.chart.relocs c.args.r.now c.requires.there.0 c.requires.there.1 (sym c.in-None.ensures.value))

pub returns-in-Some : goal.returns-in-Some
returns-in-Some c =
    placed_right c.args.o.now c.sound.ensures (λ j x. get place_cmp c.args.chart.now.relocs (j, x)) c.requires.chart.relocs c.args.r.now c.requires.there c.in-Some.placed.now (sym c.in-Some.ensures.value)
