-- Where nothing stands in the way of an image there is one.
use Rattle.std.specs.Prelude.{◌≡◌, ◌<◌, ◌^◌, ℕ, List, Some, slice_get}
use Rattle.elf_model.specs.declared.objects.Section.{Section}
use Rattle.elf_model.specs.Fields.{byte_at}
use Rattle.elf_model.specs.Objects.{ObjectParts}
use Rattle.thumb_table.specs.declared.placements.Placement.{Placement}
use Rattle.thumb_table.specs.Parts.{Image}
use Rattle.thumb_table.specs.Layouts.{IsPlacement}
use Rattle.thumb_table.specs.Images.{CanLink, IsImage}
use Rattle.flat_link.specs.Layout.{AreObjects}

-- The bytes of all sections are bytes, as those of an object in a program are by their type.
abbrev pub HaveBytes : List ObjectParts → Type 0
HaveBytes objects = (i j : ℕ) (o : ObjectParts) (s : Section) → slice_get objects i ≡ Some o → slice_get o.sections j ≡ Some s → (x : ℕ) → byte_at s.bytes x < 2 ^ 8

abbrev pub ListsHaveImages : Type 0
ListsHaveImages = (objects : List ObjectParts) (at : Placement) → AreObjects objects → HaveBytes objects → IsPlacement at → CanLink objects at → (image : Image) × IsImage objects at image
