-- The objects whose written file a limit lets through.
use Rattle.std.specs.Prelude.{◌≡◌, ◌≢◌, ◌≤◌, ◌+◌, length, All}
use Rattle.elf_model.specs.declared.objects.Section.{Section}
use Rattle.elf_model.specs.declared.refusals.Limit.{Limit}
use Rattle.elf_model.specs.declared.refusals.TheConstants.Limit.{INPUT}
use Rattle.elf_model.specs.Objects.{ObjectParts, code_size}
use Rattle.elf_model.specs.Canonical.{file_sections}
use Rattle.elf_model.specs.Maps.{map_name}

-- No more of anything than the limit says, the null header and the tables counted among the headers;
-- and no address map under the limit of `harden`.
pub record Meets (o : ObjectParts) (l : Limit) : Type 0 where
  pub sections : length (file_sections o) + 1 ≤ l.sections
  pub symbols : length o.symbols ≤ l.symbols
  pub relocs : length o.relocs ≤ l.relocs
  pub code : code_size o.sections ≤ l.code
  pub no_map : l ≡ INPUT → All (λ (s : Section). s.name ≢ map_name) o.sections
