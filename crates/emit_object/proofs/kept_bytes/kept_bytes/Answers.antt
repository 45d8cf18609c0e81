use Rattle.emit_object.proofs.KeptFacts.{kept_first, reloc_there, reloc_section, kept_next}
use Rattle.emit_object.proofs.kept_bytes.kept_bytes.Goals as goal

pub loop-r-init : goal.loop-r-init
loop-r-init c = kept_first c.args.o.now c.in_ok-all.all.items c.in_ok-all.ensures

pub clear_turned-requires-clause-there : goal.clear_turned-requires-clause-there
clear_turned-requires-clause-there c =
    reloc_section c.args.o.now c.relocs-r-items.result.now c.relocs-r-items.ensures c.loop-r.r-index _ c.loop-r-test.true c.sound.ensures c.loop-r.all.items c.loop-r.invariant.count

pub clear_turned-requires-clause-readable : goal.clear_turned-requires-clause-readable
clear_turned-requires-clause-readable c =
    c.requires c.loop-r.r-index _ (reloc_there c.args.o.now c.relocs-r-items.result.now c.relocs-r-items.ensures c.loop-r.r-index _ c.loop-r-test.true)

pub loop-r-preserved : goal.loop-r-preserved
loop-r-preserved c =
    kept_next c.args.o.now c.relocs-r-items.result.now c.relocs-r-items.ensures c.loop-r.r-index _ c.loop-r-test.true c.loop-r.all.items c.clear_turned.new.all.items c.loop-r.invariant c.clear_turned.ensures
