-- The relocations that stand at some sites.
use Rattle.std.specs.Prelude.{◌≡◌, ◌↔◌, true, List, Contains}
use Rattle.elf_model.specs.declared.objects.Reloc.{Reloc}
use Rattle.elf_model.specs.Objects.{ObjectParts, rise}
use Rattle.hardened_form.specs.Symbols.{Lists}
use Rattle.hardened_form.specs.Relocs.{StandsFor}
use Rattle.emit_object.specs.declared.reloc_sites.Site.{Site}

-- it stands at a site
pub record IsMadeAt (o : ObjectParts) (l : Lists) (s : Site) (q : Reloc) : Type 0 where
  pub reloc : Reloc
  pub stands : StandsFor o l s.number reloc s.kind s.at q

-- it stands at one of them
pub record IsMade (o : ObjectParts) (l : Lists) (sites : List Site) (q : Reloc) : Type 0 where
  pub site : Site
  pub there : Contains sites site
  pub is : IsMadeAt o l site q

-- these and no others, by section and offset
pub record AreMade (o : ObjectParts) (l : Lists) (sites : List Site) (list : List Reloc) : Type 0 where
  pub exact : (q : Reloc) → Contains list q ↔ IsMade o l sites q
  pub rise : rise list ≡ true
