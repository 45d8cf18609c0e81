use Rattle.std.specs.BTreeMap.{get}
use Rattle.code_ranges.specs.Spans.{place_cmp}
use Rattle.flow_recover.proofs.AimFacts.{placed_right, aim_by_symbol, aim_far}
use Rattle.flow_recover.proofs.aims.aim_of.Goals as goal

pub symbol_aim-requires-clause-right : goal.symbol_aim-requires-clause-right
symbol_aim-requires-clause-right c =
    placed_right c.args.o.now (λ j x. get place_cmp c.args.chart.now.relocs (j, x)) c.requires.chart.relocs c.args.n.section c.args.n.offset c.in-Some.p.now c.in-Some.ensures.value c.if-p.true

pub returns-then-p : goal.returns-then-p
returns-then-p c =
    aim_by_symbol c.args.o.now (λ j x. get place_cmp c.args.chart.now.relocs (j, x)) c.requires.chart.relocs c.args.n.section c.args.n.offset c.in-Some.p.now c.in-Some.ensures.value c.sound.ensures
    c.args.i.now c.symbol_aim.result c.if-p.true c.symbol_aim.ensures

pub returns-else-p : goal.returns-else-p
returns-else-p c =
    aim_far c.args.o.now (λ j x. get place_cmp c.args.chart.now.relocs (j, x)) c.requires.chart.relocs c.args.n.section c.args.n.offset c.in-Some.p.now c.in-Some.ensures.value c.args.i.now c.if-p.false
