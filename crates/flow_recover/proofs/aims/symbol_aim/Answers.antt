use Rattle.std.proofs.Common.{◌≡◌, ◌<◌, List, length, get_or, sym, subst, ◌∙◌}
use Rattle.std.proofs.lemmas.Option.{same_Some}
use Rattle.elf_model.specs.declared.objects.Reloc.{Reloc}
use Rattle.elf_model.specs.declared.objects.RelocKind.TheVariants.{Abs32}
use Rattle.elf_model.specs.declared.objects.Symbol.{Symbol}
use Rattle.reloc_places.specs.Relocations.{IsRight}
use Rattle.flow_recover.proofs.AimFacts.{symbol_below, read_reloc, read_symbol, read_aim}
use Rattle.flow_recover.proofs.aims.symbol_aim.Goals as goal

abbrev no_reloc : Reloc
no_reloc = record { section = 0; offset = 0; kind = Abs32; symbol = 0 }

pub bounds-symbols-r : goal.bounds-symbols-r
bounds-symbols-r c =
    let q : Reloc = get_or c.relocs.result.now c.args.index no_reloc in
    let same : c.requires.right.0 ≡ q = read_reloc c.args.o.now c.args.index c.relocs.result.now no_reloc c.requires.right c.relocs.ensures in
    subst (λ (l : List Symbol). q.symbol < length l) (sym c.symbols.ensures)
    (subst (λ (z : Reloc). z.symbol < length c.args.o.now.symbols) same (symbol_below c.args.o.now c.args.index c.requires.right.0 c.sound.ensures c.requires.right.1))

pub target_of-requires-clause-right : goal.target_of-requires-clause-right
target_of-requires-clause-right c =
    let same : c.requires.right.0 ≡ get_or c.relocs.result.now c.args.index no_reloc = read_reloc c.args.o.now c.args.index c.relocs.result.now no_reloc c.requires.right c.relocs.ensures in
    (c.args.index, subst (λ (z : Reloc). IsRight c.args.o.now c.args.index z) same c.requires.right.1)

pub returns : goal.returns
returns c = λ r s at there.
    let q : Reloc = get_or c.relocs.result.now c.args.index no_reloc in
    let same : c.requires.right.0 ≡ q = read_reloc c.args.o.now c.args.index c.relocs.result.now no_reloc c.requires.right c.relocs.ensures in
    let reloc : q ≡ r = sym same ∙ same_Some c.requires.right.0 r (sym c.requires.right.1.is_there ∙ at) in
    read_aim c.args.o.now c.args.section c.target_of.result c.aim_at.result q r s c.index-symbols-r.result c.aim_at.ensures c.target_of.ensures reloc
    (read_symbol c.args.o.now c.symbols.result.now q r s c.index-symbols-r.result c.symbols.ensures reloc c.index-symbols-r.is there)
