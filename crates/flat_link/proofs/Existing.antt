-- The image of objects that nothing stands in the way of.
use Rattle.std.proofs.Common.{◌≡◌, ◌≤◌, ◌<◌, ℕ, ◌+◌, ◌++◌, true, false, List, map, refl, inl, inr}
use Rattle.std.specs.Prelude.{Contains, length}
use Rattle.std.proofs.lemmas.Bool.{cases_Bool, cases_lt}
use Rattle.elf_model.specs.Canonical.{round_up}
use Rattle.elf_model.specs.Objects.{ObjectParts}
use Rattle.thumb_table.specs.declared.placements.Placement.{Placement}
use Rattle.thumb_table.specs.Parts.{Image}
use Rattle.thumb_table.specs.Layouts.{IsPlacement, all_placed, as_part, code_parts, code_bytes_of, data_bytes_of}
use Rattle.thumb_table.specs.Names.{all_symbols, entries_of}
use Rattle.thumb_table.specs.Links.{Link, is_in_range}
use Rattle.thumb_table.specs.LinkFaults.LinkFault.{long_code, long_data, high_end, out_of_range}
use Rattle.thumb_table.specs.Images.{CanLink, IsImage}
use Rattle.flat_link.specs.Existing.{HaveBytes, ListsHaveImages}
use Rattle.flat_link.specs.Layout.{AreObjects, Fits, Stands}
use Rattle.flat_link.specs.Made.{IsMade}
use Rattle.flat_link.specs.Marks.{marks_among}
use Rattle.flat_link.specs.Sites.{all_links}
use Rattle.flat_link.specs.Stops.{function_stops, all_data_stops, end_stops}
use Rattle.flat_link.proofs.SiteFacts.{link_is}
use Rattle.flat_link.proofs.StopFacts.{to_stop, from_stop}
use Rattle.flat_link.proofs.ImageFacts.{ties_all, image_with}
use Rattle.flat_link.proofs.SmallBytes.{code_small}
use Rattle.flat_link.proofs.Rising.{sorted, increasing}
use Rattle.flat_link.proofs.Laying.{code_laid, data_laid}

module _ (objects : List ObjectParts) (at : Placement) (sound : AreObjects objects) (have : HaveBytes objects) (placement : IsPlacement at) (can : CanLink objects at) where
  fits : Fits objects at
  fits = record {
    code = elim (cases_lt at.room (length (code_bytes_of objects at))) [ inl x ↦ absurd (can.sound _ (long_code x)) | inr y ↦ y ];
    memory = elim (cases_lt 16777216 (round_up (length (data_bytes_of objects at)) 8 + at.stack)) [ inl x ↦ absurd (can.sound _ (long_data x)) | inr y ↦ y ];
    last = elim (cases_lt 0x7FFFF000 (at.base + at.room + length (data_bytes_of objects at))) [ inl x ↦ absurd (can.sound _ (high_end x)) | inr y ↦ y ];
  }

  stands : Stands objects at
  stands = record { placement = placement; sound = sound; fits = fits }

  range : (k : Link) → Contains (all_links objects at) k → is_in_range (all_placed objects at) k ≡ true
  range k c =
      elim (cases_Bool (is_in_range (all_placed objects at) k)) [
        | inl y ↦ y
        | inr n ↦ absurd (can.sound _ (out_of_range k (link_is objects at k c) n))
      ]

  abbrev places : List ℕ
  places = (function_stops (all_placed objects at) (all_symbols 0 objects) ++ all_data_stops (all_placed objects at) 0 objects) ++ end_stops (code_parts objects at)

  existing : (image : Image) × IsImage objects at image
  existing =
      let tied = ties_all objects at can.right in
      let code = code_laid objects at stands tied range (code_small objects at have) in
      let memory = data_laid objects at stands tied range in
      let stops = sorted places in
      let marks = marks_among (all_placed objects at) (all_links objects at) in
      let image : Image = record {
        code = record { base = at.base; bytes = code.items; marks = marks; stops = stops.list };
        memory = record { base = at.base + at.room; cells = memory.items };
        room = at.room;
        parts = map as_part (all_placed objects at);
        entries = entries_of objects (all_placed objects at);
      } in
      let made : IsMade objects at image = record {
        parts = refl;
        code = record {
          base = refl;
          small = code.good;
          bytes = code.laid;
          marks = refl;
          stops = λ a. (λ c. to_stop objects at sound a (stops.there a c), λ s. stops.back a (from_stop objects at sound a s));
          rise = increasing stops.list stops.order;
        };
        memory = record { base = refl; cells = memory.laid };
        room = refl;
        entries = refl;
      } in
      (image, image_with objects at stands can image made)

pub lists_have_images : ListsHaveImages
lists_have_images objects at sound have placement can = existing objects at sound have placement can
