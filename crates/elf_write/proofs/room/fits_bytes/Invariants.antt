use Rattle.std.proofs.Common.{◌≡◌, ◌+◌, length, take}
use Rattle.std.specs.List.{sum_by}
use Rattle.elf_write.proofs.room.fits_bytes.Given as goal

abbrev pub invariant-loop-s : goal.invariant-loop-s
invariant-loop-s l = sum_by (λ s. length s.bytes) (take l.s-index l.sections) + l.room ≡ 1073741823
