use Rattle.std.proofs.Common.{◌≡◌, ◌++◌, map, take, replicate}
use Rattle.std.specs.Prelude.{All}
use Rattle.elf_model.specs.Fits.{SymbolFits}
use Rattle.std.specs.List.{flat_map}
use Rattle.elf_model.specs.Canonical.{symbol_row}
use Rattle.elf_write.specs.Writing.{IsTable}
use Rattle.elf_write.proofs.symbols.symbol_rows.Given as goal

abbrev pub invariant-loop-s : goal.invariant-loop-s
invariant-loop-s l = record {
  rows : l.rows.items ≡ replicate 16 0 ++ flat_map (symbol_row (map (λ s. s.name) (take l.s-index l.symbols))) (take l.s-index l.symbols);
  fit : All SymbolFits (take l.s-index l.symbols);
  names : IsTable l.names (map (λ s. s.name) (take l.s-index l.symbols));
}
