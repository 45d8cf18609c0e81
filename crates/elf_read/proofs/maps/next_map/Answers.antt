use Rattle.std.proofs.Common.{refl, sym, ◌∙◌, arith}
use Rattle.elf_read.proofs.FoundMaps.{next_here, next_more, next_none}
use Rattle.elf_read.proofs.maps.next_map.Goals as goal

pub loop-i-init : goal.loop-i-init
loop-i-init c = refl

pub returns-then-is_named : goal.returns-then-is_named
returns-then-is_named c =
    next_here c.args.sections.now c.args.first c.loop-i.i c.index-sections-i.result c.loop-i-test.true c.index-sections-i.is (sym c.is_named.ensures ∙ c.if-is_named.true) c.loop-i.invariant

pub loop-i-preserved : goal.loop-i-preserved
loop-i-preserved c =
    next_more c.args.sections.now c.args.first c.loop-i.i c.index-sections-i.result c.loop-i-test.true c.index-sections-i.is (sym c.is_named.ensures ∙ c.if-is_named.false) c.loop-i.invariant

pub returns : goal.returns
returns c = next_none c.args.sections.now c.args.first c.loop-i.i (omega arith) c.loop-i.invariant
