use Rattle.std.proofs.Common.{◌<◌, ◌-◌, ◌^◌, List, Bool, length, sym, ap, ◌∙◌, subst, arith}
use Rattle.std.specs.Prelude.{is_some}
use Rattle.elf_model.specs.Files.{header_count, is_kept}
use Rattle.elf_read.proofs.KeptSymbols.{length_made, few_symbol_flags}
use Rattle.elf_read.proofs.SoundObject.{made_good, made_stands}
use Rattle.elf_read.proofs.whole.object.Goals as goal

pub counts-requires : goal.counts-requires
counts-requires c =
    let b = c.args.bytes.now in
    omega (arith, ap length c.requires.kept, length_made (is_kept b) 1 (header_count b - 1), c.count-n.ensures.number, c.count-n.ensures.small)

pub counts-requires-2 : goal.counts-requires-2
counts-requires-2 c = subst (λ (f : List Bool). length f < 2 ^ 32) (sym c.requires.symbols) (few_symbol_flags c.args.bytes.now c.requires.tabled c.requires.small)

pub unwrap-requires : goal.unwrap-requires
unwrap-requires c =
    let made = made_good c.args.bytes.now c.args._limit.now c.requires.faultless _ _ _ _ c.in_ok-sections.ensures c.in_ok-symbols.ensures c.in_ok-relocs.ensures.same c.in_ok-relocs.ensures.sorted c.word.ensures in
    ap is_some (c.object.ensures ∙ made)

pub returns : goal.returns
returns c = made_stands c.args.bytes.now c.args._limit.now c.requires.faultless _ _ _ _ c.in_ok-sections.ensures c.in_ok-symbols.ensures c.in_ok-relocs.ensures.same c.in_ok-relocs.ensures.sorted c.word.ensures _ (sym c.object.ensures ∙ c.unwrap.ensures)
