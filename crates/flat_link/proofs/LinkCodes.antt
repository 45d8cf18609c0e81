-- The instruction in the place of a link in range has halfwords with the number that linking makes.
use Rattle.std.proofs.Common.{◌≡◌, ◌<◌, ℕ, ◌+◌, ◌^◌, Bool, true, false, List, refl, sym, ap, ◌∙◌, arith, Some, None, Ok}
use Rattle.std.specs.Prelude.{if◌then◌else◌}
use Rattle.elf_model.specs.Fields.{half_at}
use Rattle.elf_model.specs.Objects.{ObjectParts}
use Rattle.elf_model.specs.Ranges.{is_long}
use Rattle.thumb_instr.specs.declared.instructions.Instr.{Instr}
use Rattle.thumb_instr.specs.declared.instructions.Instr.TheVariants as instr
use Rattle.thumb_instr.specs.declared.refusals.ItPlace.TheVariants.{Outside}
use Rattle.thumb_instr.specs.Numbers.{renumbered}
use Rattle.thumb_instr.specs.Formed.{IsFormed, NamesRegisters, TakesFields}
use Rattle.thumb_instr.specs.Rows.{decode_given}
use Rattle.thumb_instr.proofs.Decoded.{decode_formed}
use Rattle.thumb_encode.specs.declared.codes.Code.{Code}
use Rattle.thumb_encode.specs.declared.codes.Code.TheVariants as code
use Rattle.thumb_encode.proofs.TellsCodes.{tells_codes}
use Rattle.reloc_places.specs.Relocations.{is_word}
use Rattle.thumb_table.specs.declared.placements.Placement.{Placement}
use Rattle.thumb_table.specs.Layouts.{Placed}
use Rattle.thumb_table.specs.Links.{Link, value_of, is_in_range}
use Rattle.flat_link.specs.Ties.{IsTied}
use Rattle.flat_link.specs.Patches.{IsNumberOf, width_if, IsPlaceCode}
use Rattle.flat_link.proofs.NumberCodes.{near_even}
use Rattle.flat_link.proofs.WrittenFacts.{HasInstr, has_instr}
use Rattle.flat_link.proofs.PlaceCodes.{CanCode, value_fits, number_may}

record Given (i : Instr) : Type 0 where
  pub registers : NamesRegisters i
  pub fields : TakesFields i

given : (i : Instr) (n : ℕ) → n < 2 ^ 32 → IsFormed i → IsNumberOf i n → Given (renumbered n i)
given (instr.Half a) n small formed number = record { registers = formed.registers; fields = tt }
given (instr.Branch a) n small formed number = record { registers = tt; fields = near_even n small number }
given (instr.Call a) n small formed number = record { registers = tt; fields = near_even n small number }
given i n small formed number = absurd number

module _ (objects : List ObjectParts) (at : Placement) (k : Link) (tie : IsTied objects at k) (none : is_word k.reloc.kind ≡ false) (parts : List Placed) (range : is_in_range parts k ≡ true) where
  pub has_place_code : (c : Code) × IsPlaceCode k (value_of parts k) c
  has_place_code =
      let h = has_instr objects at k tie none in
      go h (is_long (half_at k.part.section.bytes k.reloc.offset)) refl (number_may objects at k tie none parts range h.instr h.is)
    where
      go : (h : HasInstr k) (b : Bool) → is_long (half_at k.part.section.bytes k.reloc.offset) ≡ b → CanCode h.instr (value_of parts k) b → (c : Code) × IsPlaceCode k (value_of parts k) c
      go h false e can =
          let f = can.in_half refl in
          (code.Half f.0, record { instr = h.instr; was = h.is; stands = f.1; width = sym (ap width_if e) })
      go h true e can =
          let first = half_at k.part.section.bytes k.reloc.offset in
          let second = half_at k.part.section.bytes (k.reloc.offset + 2) in
          let formed = decode_formed Outside first second h.instr (sym (ap (λ (b : Bool). decode_given Outside first (if b then Some second else None)) e) ∙ h.is) in
          let g = given h.instr (value_of parts k) (value_fits parts k range).1 formed can.number in
          let f = (tells_codes (renumbered (value_of parts k) h.instr) g.registers g.fields).0 (can.in_full refl) in
          (code.Full f.0 f.1, record { instr = h.instr; was = h.is; stands = f.2; width = sym (ap width_if e) })
