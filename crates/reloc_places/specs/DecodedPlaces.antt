-- What the table of instructions says of the places of relocations.
use Rattle.std.specs.Prelude.{ℕ, ◌≡◌, true, false, List, Ok}
use Rattle.elf_model.specs.declared.objects.RelocKind.{RelocKind}
use Rattle.elf_model.specs.Fields.{half_at}
use Rattle.elf_model.specs.Ranges.{is_long}
use Rattle.thumb_instr.specs.declared.instructions.Instr.{Instr}
use Rattle.thumb_instr.specs.Numbers.{renumbered}
use Rattle.reloc_places.specs.Starts.{decoded_at}
use Rattle.reloc_places.specs.Relocations.{is_bl, is_mov, fits_kind}

-- One halfword alone is never BL, MOVW or MOVT.
abbrev pub LongAlone : Type 0
LongAlone = (bytes : List ℕ) (x : ℕ) (i : Instr) → decoded_at bytes x 0 ≡ Ok i → is_long (half_at bytes x) ≡ false → (is_bl i ≡ false) × (is_mov false i ≡ false) × (is_mov true i ≡ false)

-- A number that is right outside of IT blocks is right in each IT state that takes the instruction.
abbrev pub NumberAlone : Type 0
NumberAlone =
    (old new : List ℕ) (x y n it : ℕ) (kind : RelocKind) (i j : Instr) → decoded_at old x 0 ≡ Ok i → fits_kind kind (is_long (half_at old x)) i ≡ true
    → decoded_at old x it ≡ Ok j → decoded_at new y 0 ≡ Ok (renumbered n i) → decoded_at new y it ≡ Ok (renumbered n j)
