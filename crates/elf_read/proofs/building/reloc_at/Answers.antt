use Rattle.std.proofs.Common.{◌≡◌, ◌+◌, ◌/◌, ◌%◌, ℕ, ap, ◌∙◌}
use Rattle.std.specs.Prelude.{slice_index}
use Rattle.elf_model.specs.Fields.{word_at}
use Rattle.elf_model.specs.Files.{Header, header, section_number, symbol_number, symbol_table, reloc_kind}
use Rattle.elf_read.proofs.BuiltLists.{section_number_is, symbol_number_is}
use Rattle.elf_read.proofs.building.reloc_at.Goals as goal

pub returns : goal.returns
returns c =
    let b = c.args.bytes.now in
    let r = c.args.r in
    let at = c.requires.stands in
    let info = ap (λ (f : Header). f.info) c.header_at.ensures in
    let target = c.requires.tabled.targets c.args.h at.1.table in
    let section : c.number_at.result ≡ section_number b (header b c.args.h).info =
    c.number_at.ensures ∙ ap (λ (k : ℕ). slice_index c.args.numbers.now k) info ∙ section_number_is b c.args.numbers.now (header b c.args.h).info c.requires.numbers target.listed in
    let kind : c.of_code.result ≡ reloc_kind (word_at b (r + 4) % 256) = c.of_code.ensures ∙ ap (λ (w : ℕ). reloc_kind (w % 256)) c.word-info.ensures in
    let symbol : c.number_at-2.result ≡ symbol_number b (symbol_table b) (word_at b (r + 4) / 256) =
    c.number_at-2.ensures ∙ ap (λ (w : ℕ). slice_index c.args.symbols.now (w / 256)) c.word-info.ensures
    ∙ symbol_number_is b c.args.symbols.now (word_at b (r + 4) / 256) c.requires.tabled c.requires.symbols (c.requires.named c.args.h at.0 r at.1 c.requires.some) in
    λ i. record { section = section i; offset = c.word.ensures i; kind = kind i; symbol = symbol i }
