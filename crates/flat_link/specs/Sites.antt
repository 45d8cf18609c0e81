-- Relocations of all objects, in order, and what each of them links.
use Rattle.std.specs.Prelude.{ℕ, ◌+◌, List, [], ◌∷◌, ◌++◌, Option, Some, None, slice_get}
use Rattle.std.specs.Option.{option_to_list}
use Rattle.elf_model.specs.declared.objects.Symbol.{Symbol}
use Rattle.elf_model.specs.declared.objects.Reloc.{Reloc}
use Rattle.elf_model.specs.Objects.{ObjectParts}
use Rattle.thumb_table.specs.declared.placements.Placement.{Placement}
use Rattle.thumb_table.specs.Layouts.{Placed, all_placed, part_of}
use Rattle.thumb_table.specs.Names.{Defined, meant}
use Rattle.thumb_table.specs.Links.{Link}
use Rattle.flat_link.specs.declared.sites.Site.{Site}
use Rattle.flat_link.specs.declared.ties.Tie.{Tie}
use Rattle.flat_link.specs.Known.{defined_of}
use Rattle.flat_link.specs.Lots.{placed_of}

-- a relocation, of which object and its number there
pub record Sited : Type 0 where
  pub file : ℕ
  pub object : ObjectParts
  pub number : ℕ
  pub reloc : Reloc

abbrev pub sited : ℕ → ObjectParts → ℕ → List Reloc → List Sited
sited i o k [] = []
sited i o k (r ∷ rest) = record { file = i; object = o; number = k; reloc = r } ∷ sited i o (k + 1) rest

abbrev pub all_sited : ℕ → List ObjectParts → List Sited
all_sited i [] = []
all_sited i (o ∷ rest) = sited i o 0 o.relocs ++ all_sited (i + 1) rest

abbrev pub sited_of : Site → Sited
sited_of s = record { file = s.file; object = s.object.now; number = s.number; reloc = s.reloc.now }

-- what its symbol means
abbrev pub meaning_by : List ObjectParts → ℕ → ℕ → Option Symbol → Option Defined
meaning_by objects i k None = None
meaning_by objects i k (Some s) = meant objects i k s

abbrev pub meaning : List ObjectParts → Sited → Option Defined
meaning objects s = meaning_by objects s.file s.reloc.symbol (slice_get s.object.symbols s.reloc.symbol)

-- what it links, where it has a part and its symbol a meaning
abbrev pub tied : Sited → Option Placed → Option Symbol → Option Defined → Option Link
tied s (Some p) (Some y) (Some d) = Some (record { file = s.file; object = s.object; number = s.number; reloc = s.reloc; part = p; symbol = y; meant = d })
tied s p y d = None

abbrev pub link_at : List ObjectParts → List Placed → Sited → Option Link
link_at objects parts s = tied s (part_of parts s.file s.reloc.section) (slice_get s.object.symbols s.reloc.symbol) (meaning objects s)

abbrev pub links_among : List ObjectParts → List Placed → List Sited → List Link
links_among objects parts [] = []
links_among objects parts (s ∷ rest) = option_to_list (link_at objects parts s) ++ links_among objects parts rest

abbrev pub all_links : List ObjectParts → Placement → List Link
all_links objects at = links_among objects (all_placed objects at) (all_sited 0 objects)

-- a link as the code has it
abbrev pub link_of : Tie → Link
link_of t = record {
  file = t.site.file;
  object = t.site.object.now;
  number = t.site.number;
  reloc = t.site.reloc.now;
  part = placed_of t.lot;
  symbol = t.symbol.now;
  meant = defined_of t.meant;
}
