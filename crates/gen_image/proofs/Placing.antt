-- The one part of memory that the generated object fills.
use Rattle.std.proofs.Common.{◌≡◌, ℕ, ◌+◌, ◌*◌, List, [], ◌∷◌, length, refl, ap, ◌∙◌, arith}
use Rattle.elf_model.specs.declared.objects.Section.{Section}
use Rattle.thumb_table.specs.Layouts.{Placed, all_placed, code_bytes_of, data_bytes_of}
use Rattle.gen_object.specs.Generated.{code_bytes, text_section, generated}
use Rattle.gen_flow.proofs.CodeLengths.{code_length}
use Rattle.gen_object.proofs.Sound.{is_sound}
use Rattle.gen_flow.specs.GeneratedCode.{IsCount}
use Rattle.gen_image.specs.GeneratedImages.{placement}
use Rattle.sim_images.specs.ImageLaws.{AreObjects, Here}
use Rattle.gen_image.proofs.Making.{no_more}

abbrev pub text : ℕ → ℕ → Section
text seed count = text_section (code_bytes seed count)

abbrev pub part : ℕ → ℕ → Placed
part seed count = record { object = 0; index = 0; ordinal = 0; start = 0x8000; section = text seed count }

pub placed_is : (seed count : ℕ) → all_placed (generated seed count ∷ []) placement ≡ part seed count ∷ []
placed_is seed count = refl

pub code_is : (seed count : ℕ) → code_bytes_of (generated seed count ∷ []) placement ≡ code_bytes seed count
code_is seed count = no_more (code_bytes seed count)

pub code_is_long : (seed count : ℕ) → IsCount count → length (code_bytes_of (generated seed count ∷ []) placement) + 4 ≡ 14 * count
code_is_long seed count few = ap (λ (l : List ℕ). length l + 4) (code_is seed count) ∙ code_length seed count few.low

pub no_data : (seed count : ℕ) → data_bytes_of (generated seed count ∷ []) placement ≡ []
no_data seed count = refl

pub here : (seed count : ℕ) → Here (generated seed count ∷ []) placement 0 (generated seed count) 0 (part seed count)
here seed count = record { object = refl; section = refl; part = refl }

pub are_objects : (seed count : ℕ) → IsCount count → AreObjects (generated seed count ∷ [])
are_objects seed count few = grind (arith, is_sound seed count few.low few.high)
