use Rattle.std.proofs.Common.{arith}
use Rattle.std.proofs.lemmas.Grind.{common_steps}
use Rattle.elf_model.specs.Fits.{RelocFits}
use Rattle.elf_write.proofs.Rows.{all_more}
use Rattle.elf_write.proofs.relocs.reloc_rows.Goals as goal

pub loop-r-preserved : goal.loop-r-preserved
loop-r-preserved c = record {
  rows = grind (arith, common_steps);
  fit = all_more RelocFits c.args.relocs.now c.loop-r.r-index _ c.loop-r-test.true c.put_reloc.ensures.fits c.loop-r.invariant.fit;
}
