-- What the machine fetches where the generated object's instructions stand.
use Rattle.std.proofs.Common.{◌≡◌, ◌<◌, ℕ, ◌+◌, ◌*◌, Bool, true, false, [], ◌∷◌, refl, sym, ap, ◌∙◌, subst, arith, cond, ◌≢◌}
use Rattle.std.proofs.lemmas.Bool.{both_ways}
use Rattle.elf_model.specs.Ranges.{length_at}
use Rattle.mark_word.specs.declared.marks.Mark.TheVariants.{Plain}
use Rattle.thumb_instr.specs.declared.instructions.Instr.{Instr}
use Rattle.thumb_instr.specs.declared.instructions.Instr.TheVariants.{Call}
use Rattle.thumb_instr.specs.Numbers.{renumbered}
use Rattle.reloc_places.specs.Relocations.{is_bl}
use Rattle.thumb_table.specs.Parts.{Image}
use Rattle.thumb_table.specs.Images.{IsImage}
use Rattle.thumb_table.specs.Layouts.{all_placed}
use Rattle.thumb_table.specs.Links.{value_of}
use Rattle.sim_images.specs.CodeLaws.{Fetches}
use Rattle.sim_images.proofs.Standing.{stands_as_is}
use Rattle.sim_images.proofs.StandingLinked.{stands_linked}
use Rattle.gen_object.specs.Generated.{code_bytes, generated}
use Rattle.gen_flow.specs.GeneratedCode.{IsCount, StandsAt, first, work, next, back, last, calls}
use Rattle.gen_flow.proofs.CodeInstrs.{drawn_no_call, size_of}
use Rattle.gen_flow.proofs.ObjectRanges.{stands_code_start}
use Rattle.gen_flow.proofs.ObjectCalls.{no_reloc, decoded_there}
use Rattle.gen_image.specs.GeneratedImages.{placement, linked, width_of, IsFetched}
use Rattle.gen_image.proofs.Placing.{part, here, are_objects}
use Rattle.gen_image.proofs.Linking.{link_of, is_link}
use Rattle.gen_image.proofs.Reaching.{offset_is}

-- what is no call stays as it is, in two bytes
no_call : (i : Instr) → is_bl i ≡ false → (width_of i ≡ 2) × (linked i ≡ i)
no_call (Call c) h = absurd (both_ways true h refl)
no_call i h = (refl, refl)

module _ (seed count : ℕ) (image : Image) (few : IsCount count) (is : IsImage (generated seed count ∷ []) placement image) where
  plain : (x : ℕ) (i : Instr) → StandsAt seed count x i → is_bl i ≡ false → ((k : ℕ) → k + 1 < count → x ≢ 14 * k + 8) → IsFetched image.code (0x8000 + x) (linked i)
  plain x i h narrow apart =
      let known = no_call i narrow in
      let f : Fetches image.code (0x8000 + x) 0 i (length_at (code_bytes seed count) x) Plain =
      stands_as_is (generated seed count ∷ []) placement image (are_objects seed count few) is 0 0 (generated seed count) (part seed count) (here seed count)
      x _ 0 i (stands_code_start seed count few.low x i h) (decoded_there seed count few.low x i h) (no_reloc seed count x apart) in
      let size : length_at (code_bytes seed count) x ≡ width_of i = size_of seed count x i h ∙ ap (λ (b : Bool). cond b 4 2) narrow ∙ sym known.0 in
      subst (λ (j : Instr). IsFetched image.code (0x8000 + x) j) (sym known.1) (record { fetched = f.fetched; is = f.there; width = f.wide ∙ size; answer = f.means })

  called : (k : ℕ) → k + 1 < count → IsFetched image.code (0x8000 + (14 * k + 8)) (linked calls)
  called k low =
      let h : StandsAt seed count (14 * k + 8) calls = next k low refl refl in
      let f = stands_linked (generated seed count ∷ []) placement image (are_objects seed count few) is (link_of seed count k) (is_link seed count k few.high low) _ 0 calls
      (stands_code_start seed count few.low (14 * k + 8) calls h) (decoded_there seed count few.low (14 * k + 8) calls h) in
      let number : renumbered (value_of (all_placed (generated seed count ∷ []) placement) (link_of seed count k)) calls ≡ linked calls =
      ap (λ (n : ℕ). renumbered n calls) (offset_is seed count k few low) in
      let size : length_at (code_bytes seed count) (14 * k + 8) ≡ 4 = size_of seed count (14 * k + 8) calls h in
      subst (λ (j : Instr). IsFetched image.code (0x8000 + (14 * k + 8)) j) number (record { fetched = f.fetched; is = f.there; width = f.wide ∙ size; answer = f.means })

  pub fetched : (x : ℕ) (i : Instr) → StandsAt seed count x i → IsFetched image.code (0x8000 + x) (linked i)
  fetched x i (first k low at e) = plain x i (first k low at e) (ap is_bl e) (λ j less same. omega arith)
  fetched x i (work k j low few_more at e) = plain x i (work k j low few_more at e) (ap is_bl e ∙ drawn_no_call _) (λ l less same. omega arith)
  fetched x i (next k low at e) =
      subst (λ (y : ℕ). IsFetched image.code (0x8000 + y) (linked i)) (sym at)
      (subst (λ (j : Instr). IsFetched image.code (0x8000 + (14 * k + 8)) (linked j)) (sym e) (called k low))
  fetched x i (back k low at e) = plain x i (back k low at e) (ap is_bl e) (λ j less same. omega arith)
  fetched x i (last k low at e) = plain x i (last k low at e) (ap is_bl e) (λ j less same. omega arith)
