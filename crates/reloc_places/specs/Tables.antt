-- Tables of an object: by section and offset its instruction starts, words of data, functions and relocations.
use Rattle.std.specs.Prelude.{◌≡◌, ◌↔◌, ℕ, Bool, true, Option, Some}
use Rattle.std.specs.Option.{option_map}
use Rattle.elf_model.specs.declared.objects.Reloc.{Reloc}
use Rattle.elf_model.specs.Objects.{ObjectParts}
use Rattle.reloc_places.specs.declared.relocations.Placed.{Placed}
use Rattle.reloc_places.specs.Starts.{bytes_of, IsCodeStart, IsDataWord, is_function_at}
use Rattle.reloc_places.specs.Relocations.{IsRight, reloc_at}

-- each start with the end of its range, the words of data, functions, and relocations by their places
abbrev pub AreStarts : ObjectParts → (ℕ → ℕ → Option ℕ) → Type 0
AreStarts o end_at = (j x end : ℕ) → (end_at j x ≡ Some end) ↔ IsCodeStart o j (bytes_of o j) x end

abbrev pub AreWords : ObjectParts → (ℕ → ℕ → Bool) → Type 0
AreWords o is_in = (j w : ℕ) → (is_in j w ≡ true) ↔ IsDataWord o j w

abbrev pub AreFunctions : ObjectParts → (ℕ → ℕ → Bool) → Type 0
AreFunctions o is_in = (j x : ℕ) → is_in j x ≡ is_function_at o.symbols j x

abbrev pub index_of : Placed → ℕ
index_of p = p.index

pub record AreRelocs (o : ObjectParts) (placed_at : ℕ → ℕ → Option Placed) : Type 0 where
  pub index : (j x : ℕ) → option_map index_of (placed_at j x) ≡ reloc_at o j x
  pub right : (j x : ℕ) (p : Placed) → placed_at j x ≡ Some p → (p.right ≡ true) ↔ ((r : Reloc) × IsRight o p.index r)
