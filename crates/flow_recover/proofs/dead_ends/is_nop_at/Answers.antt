use Rattle.std.proofs.Common.{sym, ◌∙◌, arith, ap, length}
use Rattle.std.specs.BTreeMap.{get}
use Rattle.std.proofs.lemmas.Bool.Decides.{nat_tests}
use Rattle.code_ranges.specs.Spans.{place_cmp}
use Rattle.reloc_places.proofs.StartFacts.{start_inside}
use Rattle.flow_recover.proofs.DeadEndFacts.{no_start_nop, cut_nop, whole_nop}
use Rattle.flow_recover.proofs.dead_ends.is_nop_at.Goals as goal

pub overflow_add-offset : goal.overflow_add-offset
overflow_add-offset c =
    let start = (c.requires.chart.starts c.args.section c.args.offset c.in-Some.end).0 (sym c.end_at.ensures ∙ c.in-Some.is) in
    let inside = start_inside c.args.o.now c.args.section c.args.offset c.in-Some.end c.sound.ensures c.requires.within start in
    omega arith

pub half_at-requires : goal.half_at-requires
half_at-requires c =
    let start = (c.requires.chart.starts c.args.section c.args.offset c.in-Some.end).0 (sym c.end_at.ensures ∙ c.in-Some.is) in
    let inside = start_inside c.args.o.now c.args.section c.args.offset c.in-Some.end c.sound.ensures c.requires.within start in
    let same = ap length c.bytes_of.ensures in
    omega arith

pub returns-in-None : goal.returns-in-None
returns-in-None c = no_start_nop c.args.o.now (λ j x. get place_cmp c.args.chart.now.starts (j, x)) c.args.section c.args.offset c.requires.chart.starts (sym c.end_at.ensures ∙ c.in-None.is)

pub returns-else-offset-end : goal.returns-else-offset-end
returns-else-offset-end c =
    cut_nop c.args.o.now (λ j x. get place_cmp c.args.chart.now.starts (j, x)) c.args.section c.args.offset c.in-Some.end _ c.requires.chart.starts (sym c.end_at.ensures ∙ c.in-Some.is)
    (grind (arith, nat_tests)) (λ h. let no = c.if-offset-end.false in omega arith)

pub returns-then-offset-end : goal.returns-then-offset-end
returns-then-offset-end c =
    whole_nop c.args.o.now (λ j x. get place_cmp c.args.chart.now.starts (j, x)) c.args.section c.args.offset c.in-Some.end c.half_at.result c.bytes_of.result.now c.is_nop.result
    c.requires.chart.starts (sym c.end_at.ensures ∙ c.in-Some.is) c.if-offset-end.true c.bytes_of.ensures c.half_at.ensures c.is_nop.ensures
