-- What stands in an image of the generated object.
use Rattle.std.proofs.Common.{◌≡◌, ℕ, List, [], ◌∷◌, length, refl, ap, ◌∙◌}
use Rattle.mark_word.specs.Words.{Cell}
use Rattle.thumb_table.specs.declared.parts.NamedEntry.{NamedEntry}
use Rattle.thumb_table.specs.Parts.{Image}
use Rattle.thumb_table.specs.Images.{IsImage, entry_of}
use Rattle.gen_object.specs.Generated.{generated}
use Rattle.gen_flow.specs.GeneratedCode.{IsCount}
use Rattle.gen_image.specs.GeneratedImages.{placement, IsGeneratedImage}
use Rattle.std.specs.Prelude.{codes}
use Rattle.gen_image.proofs.Stopping.{stops_are}
use Rattle.gen_image.proofs.Entering.{f0_is}
use Rattle.gen_image.proofs.Fetching.{fetched}

empty : (l : List Cell) → length l ≡ 0 → l ≡ []
empty [] e = refl
empty (c ∷ l) e = absurd (cc)

pub known : (seed count : ℕ) (image : Image) → IsCount count → IsImage (generated seed count ∷ []) placement image → IsGeneratedImage seed count image
known seed count image few is = record {
  code = λ x i h. fetched seed count image few is x i h;
  stops = λ a h. stops_are seed count a few ((is.stops a).0 h);
  base = is.memory.base;
  cells = empty image.memory.cells is.memory.size;
  entry = ap (λ (l : List NamedEntry). entry_of l (codes "f0")) is.entries ∙ f0_is seed count few;
}
