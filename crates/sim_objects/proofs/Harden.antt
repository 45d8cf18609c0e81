-- The theorem on two lists of pairs, put together.
use Rattle.std.specs.Prelude.{◌<◌, ◌⊎◌, ℕ, List, length}
use Rattle.std.proofs.Common.{inl, inr}
use Rattle.std.proofs.lemmas.Bool.{cases_lt}
use Rattle.thumb_table.specs.declared.placements.Placement.{Placement}
use Rattle.thumb_table.specs.Parts.{Image}
use Rattle.thumb_table.specs.Layouts.{code_bytes_of}
use Rattle.thumb_table.specs.Images.{IsImage}
use Rattle.flat_link.specs.Existing.{HaveBytes}
use Rattle.flat_link.proofs.Existing.{lists_have_images}
use Rattle.sim_images.specs.ImageLaws.{AreObjects}
use Rattle.sim_images.proofs.HaveImages.{have_image}
use Rattle.sim_objects.specs.Lists.{Pairing, plains, hards}
use Rattle.sim_objects.specs.UnitLinks.{moved_in}
use Rattle.sim_objects.specs.Mapping.{maps_of}
use Rattle.sim_objects.specs.Harden.{ListsHarden}
use Rattle.sim_objects.proofs.Kept.{same_length, lists_answer}
use Rattle.sim_objects.proofs.Growth.{pairs_are_short}
use Rattle.sim_objects.proofs.Hardening.{lists_end_alike}

module _ (F : ℕ) (pairs : List (Pairing F 2 4)) (objects : AreObjects (plains pairs)) (forms : AreObjects (hards pairs)) (bytes : HaveBytes (hards pairs)) where
  linked : (at : Placement) (plain : Image) → IsImage (plains pairs) at plain → ((hard : Image) × IsImage (hards pairs) at hard) ⊎ (at.room < length (code_bytes_of (hards pairs) at))
  linked at plain is =
      let a = lists_answer F 2 4 pairs objects forms in
      elim (cases_lt at.room (length (code_bytes_of (hards pairs) at))) [
        | inl long ↦ inr long
        | inr fits ↦ inl (lists_have_images (hards pairs) at forms bytes is.placement (have_image (plains pairs) (hards pairs) at (moved_in pairs) a.plain a.hard a.answers a.accepted a.relocs is.placement is.can fits))
      ]

pub lists_harden : ListsHarden
lists_harden F pairs low high all objects forms maps bytes = record {
  maps = maps_of pairs;
  count = same_length F 2 4 pairs;
  are_maps = maps;
  low = low;
  high = high;
  short = pairs_are_short F 4 pairs;
  linked = linked F pairs objects forms bytes;
  alike = λ at plain hard image hard_image name args arguments entry named n ended returns ordinary.
      lists_end_alike F pairs at plain hard (record { objects = objects; forms = forms; image = image; hard_image = hard_image }) all name args entry named n ended returns ordinary;
}
