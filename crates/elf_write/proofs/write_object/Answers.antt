use Rattle.std.proofs.Common.{◌≡◌, ◌<◌, ◌^◌, ◌∙◌, sym, subst, arith, List, ℕ, length}
use Rattle.std.specs.Prelude.{All}
use Rattle.elf_model.specs.declared.objects.Section.{Section}
use Rattle.elf_model.specs.declared.objects.Reloc.{Reloc}
use Rattle.elf_model.specs.Objects.{ObjectParts}
use Rattle.elf_model.specs.Files.{StandsFor}
use Rattle.elf_model.specs.Fits.{RelocFits}
use Rattle.elf_model.proofs.Stands.{stands}
use Rattle.elf_write.proofs.Sound.{all_placed}
use Rattle.elf_write.proofs.Bounds.{small, fits}
use Rattle.elf_write.proofs.Whole.{whole_is}
use Rattle.elf_write.proofs.write_object.Goals as goal

pub reloc_tables-requires-clause-placed : goal.reloc_tables-requires-clause-placed
reloc_tables-requires-clause-placed c =
    subst (λ (rs : List Reloc). All (λ (r : Reloc). r.section < length c.sections.result.now) rs) (sym c.relocs.ensures)
    (subst (λ (ss : List Section). All (λ (r : Reloc). r.section < length ss) c.args.o.now.relocs) (sym c.sections.ensures) (all_placed c.args.o.now c.sound.ensures))

pub returns-clause-file : goal.returns-clause-file
returns-clause-file c =
    c.in_ok-file.ensures ∙ whole_is c.args.o.now c.in_ok-layout.layout c.symtab_number-symtab.result c.flags.result c.in_ok-layout.ensures.laid c.symtab_number-symtab.ensures.number c.flags.ensures

pub returns-clause-fits : goal.returns-clause-fits
returns-clause-fits c =
    let o : ObjectParts = c.args.o.now in
    let same : c.flags.result ≡ o.flags = c.flags.ensures in
    let flags : o.flags < 2 ^ 32 = omega (arith, same, c.flags.type_inv) in
    let relocs : All RelocFits o.relocs = subst (All RelocFits) c.relocs.ensures c.in_ok-tables.ensures.fit in
    fits o c.sound.ensures (small o c.requires.room c.requires.bytes) flags c.in_ok-layout.ensures.sections c.in_ok-layout.ensures.symbols relocs

pub returns-clause-stands : goal.returns-clause-stands
returns-clause-stands c =
    let o : ObjectParts = c.args.o.now in
    subst (λ (b : List ℕ). StandsFor b o) (sym (returns-clause-file c)) (stands o c.sound.ensures (returns-clause-fits c))
