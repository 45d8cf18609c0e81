-- No fault has a refusal with a number from 9 on.
use Rattle.std.proofs.Common.{◌<◌, ℕ, List, refl, arith}
use Rattle.elf_model.specs.declared.refusals.Refusal.{Refusal}
use Rattle.elf_model.specs.declared.refusals.Refusal.TheVariants.{BadReloc, TooMany, SectionKind}
use Rattle.elf_model.specs.declared.refusals.Limit.{Limit}
use Rattle.elf_model.specs.Refusals.{number_of}
use Rattle.elf_read.specs.FirstFaults.{IsFaultlessBelow}
use Rattle.elf_read.specs.Faults.{Fault, IsFaultless}
use Rattle.elf_read.specs.Faults.Fault.{too_short, other_magic, other_class, other_order, other_type, other_machine, other_version}
use Rattle.elf_read.proofs.FirstFaults.{IsOnly}

pub only_reloc : IsOnly BadReloc
only_reloc BadReloc e = refl
only_reloc _ e = absurd (omega (arith, e))

pub only_many : IsOnly TooMany
only_many TooMany e = refl
only_many _ e = absurd (omega (arith, e))

pub only_kind : IsOnly SectionKind
only_kind SectionKind e = refl
only_kind _ e = absurd (omega (arith, e))

low : (b : List ℕ) (l : Limit) (r : Refusal) (s o : ℕ) → Fault b l r s o → number_of r < 9
low b l r s o (too_short _) = omega arith
low b l r s o (other_magic _) = omega arith
low b l r s o (other_class _) = omega arith
low b l r s o (other_order _) = omega arith
low b l r s o (other_type _) = omega arith
low b l r s o (other_machine _) = omega arith
low b l r s o (other_version _) = omega arith
low b l r s o _ = omega arith

pub all_faultless : (b : List ℕ) (l : Limit) → IsFaultlessBelow b l 9 → IsFaultless b l
all_faultless b l none r s o f = none r s o (low b l r s o f) f
