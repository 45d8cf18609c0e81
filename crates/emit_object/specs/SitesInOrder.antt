-- Sites by section and offset.
use Rattle.std.specs.Prelude.{◌≡◌, List, Some, map, slice_get, Contains}
use Rattle.std.specs.List.Sorted.{IsStrictlySortedBy}
use Rattle.elf_model.specs.declared.objects.Reloc.{Reloc}
use Rattle.elf_model.specs.Objects.{ObjectParts}
use Rattle.code_ranges.specs.Spans.{place_cmp}
use Rattle.emit_object.specs.declared.reloc_sites.Site.{Site}
use Rattle.emit_object.specs.RelocSites.{site_place}

-- they rise, and each is of its relocation's section
pub record AreInOrder (o : ObjectParts) (sites : List Site) : Type 0 where
  pub rise : IsStrictlySortedBy place_cmp (map site_place sites)
  pub own : (s : Site) (r : Reloc) → Contains sites s → slice_get o.relocs s.number ≡ Some r → s.section ≡ r.section
