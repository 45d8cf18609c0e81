use Rattle.std.proofs.Common.{◌≡◌, ◌≤◌, ◌==◌, take}
use Rattle.std.specs.Prelude.{count_by}
use Rattle.elf_model.specs.Constants.{local}
use Rattle.elf_write.proofs.symbols.locals.Given as goal

abbrev pub invariant-loop-s : goal.invariant-loop-s
invariant-loop-s l = record { counted : l.n ≡ count_by (λ s. s.bind == local) (take l.s-index l.symbols); few : l.n ≤ l.s-index }
