use Rattle.std.proofs.Common.{◌≡◌, ◌≤◌, ◌-◌, ◌∷◌, map, false}
use Rattle.elf_model.specs.Files.{is_kept, from}
use Rattle.elf_read.proofs.keeping.kept_flags.Given as goal

abbrev pub invariant-loop-h : goal.invariant-loop-h
invariant-loop-h l = record {
  done : l.flags.items ≡ false ∷ map (is_kept l.bytes) (from 1 (l.h - 1));
  near : l.h - 1 ≤ l.h-end - 1;
}
