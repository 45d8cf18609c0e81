-- No code of an image lies at the end of the whole call.
use Rattle.std.specs.Prelude.{◌≡◌, List, None}
use Rattle.elf_model.specs.Objects.{ObjectParts}
use Rattle.thumb_table.specs.declared.placements.Placement.{Placement}
use Rattle.thumb_table.specs.Parts.{Image}
use Rattle.thumb_table.specs.Images.{IsImage}
use Rattle.thumb_table.specs.Schedules.{exit}
use Rattle.thumb_table.specs.Steps.{fetch}

abbrev pub NothingAtExit : Type 0
NothingAtExit = (objects : List ObjectParts) (at : Placement) (image : Image) → IsImage objects at image → fetch image.code exit ≡ None
