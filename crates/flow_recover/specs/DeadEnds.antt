-- What stands behind a call that does not return.
use Rattle.std.specs.Prelude.{◌≡◌, ◌≤◌, ◌⊎◌, ℕ, ◌+◌, true}
use Rattle.elf_model.specs.Fields.{half_at}
use Rattle.elf_model.specs.Objects.{ObjectParts}
use Rattle.reloc_places.specs.Starts.{bytes_of, IsCodeStart, HasStart, is_function_at, is_nop}

-- a function begins there, or no code is there
abbrev pub IsLimit : ObjectParts → ℕ → ℕ → Type 0
IsLimit o j x = (is_function_at o.symbols j x ≡ true) ⊎ (HasStart o j x → ⊥)

-- a whole NOP
pub record IsNopAt (o : ObjectParts) (j x : ℕ) : Type 0 where
  pub end : ℕ
  pub start : IsCodeStart o j (bytes_of o j) x end
  pub whole : x + 2 ≤ end
  pub nop : is_nop (half_at (bytes_of o j) x) ≡ true
