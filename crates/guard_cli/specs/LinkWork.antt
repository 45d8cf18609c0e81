-- The work of `link`.
use Rattle.std.specs.Prelude.{◌≡◌, ◌⊎◌, ℕ, Bool, List, [], ◌∷◌, ⊤, if◌then◌else◌}
use Rattle.std.specs.List.{sum_by}
use Rattle.elf_model.specs.declared.refusals.Spot.{Spot}
use Rattle.elf_model.specs.declared.refusals.TheConstants.Limit.{ANY}
use Rattle.elf_model.specs.declared.objects.Section.{Section}
use Rattle.elf_model.specs.Objects.{ObjectParts, is_code}
use Rattle.thumb_table.specs.declared.placements.Placement.{Placement}
use Rattle.thumb_table.specs.Parts.{Image}
use Rattle.thumb_table.specs.Images.{IsImage, is_data, image_bytes}
use Rattle.thumb_table.specs.LinkFaults.{IsLinkRefusal}
use Rattle.guard_words.specs.Words.{LinkWords}
use Rattle.guard_cli.specs.Inputs.{AreReadAs, IsReadRefusal}
use Rattle.guard_cli.specs.Texts.{link_line}
use Rattle.guard_cli.specs.Works.{Save, Work, inputs_of}

-- the bytes of the sections of a sort, without those between them
abbrev pub bytes_of : (Section → Bool) → List Section → ℕ
bytes_of sort sections = sum_by (λ (s : Section). if sort s then s.size else 0) sections

abbrev pub bytes_of_all : (Section → Bool) → List ObjectParts → ℕ
bytes_of_all sort objects = sum_by (λ (o : ObjectParts). bytes_of sort o.sections) objects

abbrev pub link_report : List ObjectParts → List ℕ
link_report objects = link_line (bytes_of_all is_code objects) (bytes_of_all is_data objects)

-- files without fault, and their objects
abbrev pub AreOf : List (List ℕ) → List ObjectParts → Type 0
AreOf files objects = AreReadAs ANY files objects

-- When the inputs are refused: as they are read, or else as they are linked.
abbrev pub IsLinkInputRefusal : Placement → List (List ℕ) → Spot → Type 0
IsLinkInputRefusal at files spot = IsReadRefusal ANY files spot ⊎ ((objects : List ObjectParts) × AreOf files objects × IsLinkRefusal objects at spot)

-- files whose objects have an image
abbrev pub HaveImage : Placement → List (List ℕ) → Type 0
HaveImage at files = (objects : List ObjectParts) × (image : Image) × AreOf files objects × IsImage objects at image

-- the image of the inputs' objects, and its sizes
pub record IsLinkMade (l : LinkWords) (files : List (List ℕ)) (saves : List Save) (report : List ℕ) : Type 0 where
  pub objects : List ObjectParts
  pub image : Image
  pub inputs : AreOf files objects
  pub image_is : IsImage objects l.at image
  pub saves_are : saves ≡ record { name = l.output; bytes = image_bytes image } ∷ []
  pub report_is : report ≡ link_report objects

abbrev pub link_work : LinkWords → Work
link_work l = record {
  inputs = inputs_of ANY.file l.inputs;
  Accepts = HaveImage l.at;
  Refuses = IsLinkInputRefusal l.at;
  Makes = IsLinkMade l;
  Stops = λ loaded outcome line. ⊥;
  Promises = λ loaded saves report before after. ⊤;
}
