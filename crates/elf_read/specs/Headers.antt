-- Section headers as the reader has them.
use Rattle.std.specs.Prelude.{◌≤◌, ◌+◌, ◌*◌, ℕ, List, length}
use Rattle.elf_model.specs.Fields.{word_at}
use Rattle.elf_model.specs.Files.{Header, header_count}
use Rattle.elf_read.specs.declared.headers.Header.{Header as Read}

-- a header that was read, as the format has it
abbrev pub fields_of : Read → Header
fields_of h = record {
  name = h.name;
  kind = h.kind;
  flags = h.flags;
  offset = h.offset;
  size = h.size;
  link = h.link;
  info = h.info;
  align = h.align;
  entry = h.entry;
}

-- the table of section headers lies in the file
pub record HasHeaders (b : List ℕ) : Type 0 where
  pub long : 52 ≤ length b
  pub inside : word_at b 32 + 40 * header_count b ≤ length b
