-- The number of the symbol that a relocation names now, by the numbers of symbols and of targets.
use Rattle.std.specs.Prelude.{◌≡◌, ℕ, ◌+◌, List, Some, slice_get}
use Rattle.elf_model.specs.declared.objects.Symbol.{Symbol}
use Rattle.elf_model.specs.declared.objects.Reloc.{Reloc}
use Rattle.elf_model.specs.Objects.{ObjectParts}
use Rattle.emit_object.specs.TurnedPlaces.{turned_place}

-- of the function at the place that it turns to
pub record HasFunction (o : ObjectParts) (r : Reloc) (places : List (ℕ × ℕ)) (begin m : ℕ) : Type 0 where
  pub place : ℕ × ℕ
  pub turned : turned_place o r ≡ Some place
  pub index : ℕ
  pub there : slice_get places index ≡ Some place
  pub number : m ≡ begin + index

-- of its symbol
pub record HasNumber (o : ObjectParts) (r : Reloc) (numbers : List ℕ) (m : ℕ) : Type 0 where
  pub symbol : Symbol
  pub named : slice_get o.symbols r.symbol ≡ Some symbol
  pub number : slice_get numbers r.symbol ≡ Some m
