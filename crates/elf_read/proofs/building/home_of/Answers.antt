use Rattle.std.proofs.Common.{◌≡◌, ◌≢◌, ◌+◌, ℕ, ap, ◌∙◌}
use Rattle.std.specs.Prelude.{slice_index}
use Rattle.elf_model.specs.Constants.{undefined_index, absolute_index}
use Rattle.elf_model.specs.Fields.{half_at}
use Rattle.elf_read.proofs.KeptSymbols.{kept_home}
use Rattle.elf_read.proofs.BuiltLists.{section_number_is, home_section}
use Rattle.elf_read.proofs.building.home_of.Goals as goal

pub returns-else-index : goal.returns-else-index
returns-else-index c =
    let b = c.args.bytes.now in
    let i : ℕ = half_at b (c.args.e + 14) in
    let same : c.half-index.result ≡ i = c.half-index.ensures in
    let other : i ≢ undefined_index = λ e. c.if-index-eq-UNDEFINED_INDEX.false (same ∙ e) in
    let far : i ≢ absolute_index = λ e. c.if-index.false (same ∙ e) in
    let there = kept_home b c.args.e c.requires.stays other far in
    home_section b i c.number_at.result other far (c.number_at.ensures ∙ ap (λ (k : ℕ). slice_index c.args.numbers.now k) same ∙ section_number_is b c.args.numbers.now i c.requires.numbers there.0)
