use Rattle.std.proofs.Common.{inl, inr, rules, arith, sym, ◌∙◌}
use Rattle.elf_read.proofs.Formats.{elf_faultless, no_elf, elf_lowest}
use Rattle.std.proofs.lemmas.Bool.{false≢true}
use Rattle.elf_read.proofs.format.first_not_elf.Goals as goal

pub returns-then-is_elf : goal.returns-then-is_elf
returns-then-is_elf c = λ l. elf_faultless _ l (c.is_elf.ensures.0 (search rules))

pub returns : goal.returns
returns c = λ l. (
  no_elf _ l (λ e. false≢true (sym c.if-is_elf.false ∙ c.is_elf.ensures.1 e)),
  λ s o f below. elim below [ inl lt ↦ omega arith | inr same ↦ omega (arith, (elf_lowest _ l s o f).1) ],
)
