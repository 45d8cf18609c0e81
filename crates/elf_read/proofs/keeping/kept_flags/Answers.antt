use Rattle.std.proofs.Common.{◌∷◌, [], false, arith}
use Rattle.elf_model.specs.Files.{is_kept}
use Rattle.elf_read.proofs.Flags.{push_made}
use Rattle.elf_read.proofs.keeping.kept_flags.Goals as goal

pub loop-h-preserved : goal.loop-h-preserved
loop-h-preserved c = record {
  done = push_made (is_kept c.args.bytes.now) c.loop-h.h (false ∷ []) _ _ _ c.loop-h.auto.h c.in_ok-push-2.ensures.items c.loop-h.invariant.done c.is_kept.ensures;
  near = omega arith;
}
