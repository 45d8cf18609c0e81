use Rattle.std.proofs.Common.{List, filter, ap, ◌∙◌}
use Rattle.std.specs.Prelude.{find}
use Rattle.elf_model.specs.Fields.{same_name}
use Rattle.thumb_table.specs.Names.{Defined}
use Rattle.flat_link.specs.declared.names.Binding.TheVariants.{Global, Weak}
use Rattle.flat_link.specs.Known.{is_bound}
use Rattle.flat_link.proofs.names.names_of.Goals as goal

pub returns-clause-names : goal.returns-clause-names
returns-clause-names c = record {
  globals = λ n. c.in_ok-globals.ensures n ∙ ap (λ (l : List Defined). find (λ (d : Defined). same_name d.symbol.name n) (filter (λ (d : Defined). is_bound Global d.symbol) l)) c.requires;
  weaks = λ n. c.in_ok-weaks.ensures n ∙ ap (λ (l : List Defined). find (λ (d : Defined). same_name d.symbol.name n) (filter (λ (d : Defined). is_bound Weak d.symbol) l)) c.requires;
}
