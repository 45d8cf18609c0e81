use Rattle.std.proofs.Common.{◌≡◌, ℕ, List, map, filter, take}
use Rattle.std.specs.Prelude.{find, option_map}
use Rattle.elf_model.specs.Fields.{same_name}
use Rattle.flat_link.specs.Known.{defined_of, is_bound, named}
use Rattle.flat_link.proofs.names.first_named.Given as goal

abbrev pub invariant-loop-known : goal.invariant-loop-known
invariant-loop-known l =
    (n : List ℕ) → option_map defined_of (named n l.names) ≡ find (λ d. same_name d.symbol.name n) (filter (λ d. is_bound l.binding d.symbol) (map defined_of (take l.known-index l.all)))
