-- Links of right relocations, as the code has them in a layout.
use Rattle.std.specs.Prelude.{◌≡◌, true, List, map, Contains}
use Rattle.elf_model.specs.Objects.{ObjectParts}
use Rattle.reloc_places.specs.Relocations.{IsRight}
use Rattle.thumb_table.specs.declared.placements.Placement.{Placement}
use Rattle.thumb_table.specs.Links.{Link, IsLink, is_in_range}
use Rattle.flat_link.specs.declared.layout.Layout.{Layout}
use Rattle.flat_link.specs.declared.ties.Tie.{Tie}
use Rattle.flat_link.specs.Layout.{parts_in}
use Rattle.flat_link.specs.Sites.{link_of, all_links}

-- a link of a relocation that is right
pub record IsTied (objects : List ObjectParts) (at : Placement) (k : Link) : Type 0 where
  pub link : IsLink objects at k
  pub right : IsRight k.object k.number k.reloc

abbrev pub IsTie : Layout → Link → Type 0
IsTie l k = IsTied l.objects.now l.at k

-- all links, of relocations that are right
pub record AreTies (l : Layout) (ties : List Tie) : Type 0 where
  pub all : map link_of ties ≡ all_links l.objects.now l.at
  pub each : (k : Link) → Contains (map link_of ties) k → IsTie l k

abbrev pub AreInRange : Layout → List Tie → Type 0
AreInRange l ties = (k : Link) → Contains (map link_of ties) k → is_in_range (parts_in l) k ≡ true
