-- What holds of each section, symbol and relocation of an object.
use Rattle.std.proofs.Common.{◌≡◌, ℕ, true, false, length, ap, ◌∙◌, Some}
use Rattle.std.specs.Prelude.{◌==◌, ◌&&◌, slice_get, if◌then◌else◌}
use Rattle.std.proofs.lemmas.Bool.{and_parts, eqb-true, cond-false}
use Rattle.elf_model.specs.declared.objects.Section.{Section}
use Rattle.elf_model.specs.declared.objects.Symbol.{Symbol}
use Rattle.elf_model.specs.declared.objects.Reloc.{Reloc}
use Rattle.elf_model.specs.Constants.{progbits, nobits}
use Rattle.elf_model.specs.Objects.{ObjectParts, is_object, is_section, is_symbol, is_reloc, rise, is_code, is_alloc, is_exec, has_bytes}
use Rattle.elf_model.proofs.Elements.{all_at}

pub section_sound : (o : ObjectParts) (j : ℕ) (s : Section) → is_object o ≡ true → slice_get o.sections j ≡ Some s → is_section s ≡ true
section_sound o j s h at =
    let a = and_parts _ _ h in
    let b = and_parts _ _ a.0 in
    let c = and_parts _ _ b.0 in
    let d = and_parts _ _ c.0 in
    let e = and_parts _ _ d.0 in
    all_at is_section o.sections j s e.0 at

pub symbol_sound : (o : ObjectParts) (k : ℕ) (s : Symbol) → is_object o ≡ true → slice_get o.symbols k ≡ Some s → is_symbol o.sections s ≡ true
symbol_sound o k s h at =
    let a = and_parts _ _ h in
    let b = and_parts _ _ a.0 in
    let c = and_parts _ _ b.0 in
    let d = and_parts _ _ c.0 in
    let e = and_parts _ _ d.0 in
    all_at (is_symbol o.sections) o.symbols k s e.1 at

pub reloc_sound : (o : ObjectParts) (k : ℕ) (r : Reloc) → is_object o ≡ true → slice_get o.relocs k ≡ Some r → is_reloc o.sections o.symbols r ≡ true
reloc_sound o k r sound at =
    let a = and_parts _ _ sound in
    let b = and_parts _ _ a.0 in
    all_at (is_reloc o.sections o.symbols) o.relocs k r (and_parts _ _ b.0).1 at

pub relocs_rise : (o : ObjectParts) → is_object o ≡ true → rise o.relocs ≡ true
relocs_rise o sound =
    let a = and_parts _ _ sound in
    (and_parts _ _ a.0).1

-- a section that is not of type NOBITS has as many bytes as its size says
pub section_length : (s : Section) → is_section s ≡ true → (s.kind == nobits) ≡ false → length s.bytes ≡ s.size
section_length s h k =
    let a = and_parts _ (has_bytes s) h in
    eqb-true (length s.bytes) (if s.kind == nobits then 0 else s.size) a.1 ∙ cond-false (s.kind == nobits) 0 s.size k

-- nor is a section of code
pub code_length : (s : Section) → is_section s ≡ true → is_code s ≡ true → length s.bytes ≡ s.size
code_length s h code =
    let k : s.kind ≡ progbits = eqb-true s.kind progbits (and_parts (s.kind == progbits) (is_alloc s.flags) (and_parts ((s.kind == progbits) && is_alloc s.flags) (is_exec s.flags) code).0).0 in
    section_length s h (ap (λ (n : ℕ). n == nobits) k)
