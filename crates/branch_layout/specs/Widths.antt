-- The long layout: which width each copy has.
use Rattle.std.specs.Prelude.{◌≡◌, List}
use Rattle.std.specs.List.{AllZip}
use Rattle.thumb_instr.specs.declared.instructions.Instr.{Instr}
use Rattle.thumb_instr.specs.declared.instructions.Instr.TheVariants as instr
use Rattle.thumb_encode.specs.declared.codes.Code.{Code}
use Rattle.thumb_encode.specs.declared.codes.Width.{Width}
use Rattle.thumb_encode.specs.declared.codes.Width.TheVariants.{Half, Full}
use Rattle.thumb_encode.specs.Encoding.{IsCodeOf}
use Rattle.seq_core.specs.declared.steps.Step.{Step}
use Rattle.seq_core.specs.declared.units.Unit.{Unit as SeqUnit}
use Rattle.branch_layout.specs.Copies.{copies_of}
use Rattle.branch_layout.specs.Placings.{Stretch}

-- one halfword where it has such a code, else two
abbrev pub IsShortest : Instr → Width → Type 0
IsShortest i Half = (c : Code) × IsCodeOf i Half c
IsShortest i Full = (c : Code) → ¬ IsCodeOf i Half c

-- Branches and literal loads have two, so that they reach; but CBZ and CBNZ have no such code.
abbrev pub IsLong : Instr → Width → Type 0
IsLong (instr.Branch i) w = w ≡ Full
IsLong (instr.Literal i) w = w ≡ Full
IsLong i w = IsShortest i w

abbrev pub AreLong : List Step → List Width → Type 0
AreLong copies widths = AllZip (λ (s : Step) (w : Width). IsLong s.instr w) copies widths

abbrev pub AllLong : List SeqUnit → List Stretch → Type 0
AllLong units stretches = AllZip (λ (u : SeqUnit) (s : Stretch). AreLong (copies_of u.seq.steps) s.widths) units stretches
