use Rattle.std.proofs.Common.{arith}
use Rattle.elf_model.specs.Files.{is_kept, section_of}
use Rattle.elf_read.proofs.BuiltLists.{push_header}
use Rattle.elf_read.proofs.building.sections.Goals as goal

pub loop-h-preserved : goal.loop-h-preserved
loop-h-preserved c = record {
  done = push_header (is_kept c.args.bytes.now) (section_of c.args.bytes.now) c.loop-h.h _ _ c.loop-h.auto.h c.in_ok-push_section.ensures c.loop-h.invariant.done;
  near = omega arith;
}
