-- A list of objects has one image at most at a placement.
use Rattle.std.specs.Prelude.{◌≡◌, ◌<◌, ◌≤◌, ℕ, ◌+◌, ◌-◌, max, true, false, Bool, cond, List, [], ◌∷◌, length, get_or, take, drop, map, Some, None, Ok, slice_get, refl}
use Rattle.std.proofs.Common.{arith, inl, inr, ap, sym, ◌∙◌, subst}
use Rattle.std.proofs.lemmas.Grind.{same_number_lists}
use Rattle.std.proofs.lemmas.List.{get_or-take, get_or-drop}
use Rattle.std.proofs.lemmas.Option.{same_Some, get_or_from_slice_get}
use Rattle.elf_model.specs.declared.objects.Section.{Section}
use Rattle.elf_model.specs.Fields.{half_at}
use Rattle.elf_model.specs.Objects.{ObjectParts, is_code, is_data, place_width}
use Rattle.elf_model.specs.Ranges.{is_long, length_at}
use Rattle.elf_model.proofs.Elements.{map_contains}
use Rattle.code_ranges.proofs.InOrder.{Rises, through, one_list, same_at_each, rises_numbers}
use Rattle.mark_word.specs.Words.{bare}
use Rattle.thumb_instr.specs.declared.instructions.Instr.{Instr}
use Rattle.thumb_instr.specs.Numbers.{renumbered}
use Rattle.thumb_instr.specs.Rows.{Answer}
use Rattle.thumb_encode.specs.HalfCodes.{later_code}
use Rattle.reloc_places.specs.Starts.{bytes_in, bytes_of, decoded_at}
use Rattle.reloc_places.specs.Relocations.{is_word, fits_kind, IsPlace, in_data, in_code, on_instr}
use Rattle.reloc_places.proofs.DecodedPlaces.{long_alone}
use Rattle.thumb_table.specs.declared.parts.PlaceMark.{PlaceMark}
use Rattle.thumb_table.specs.declared.placements.Placement.{Placement}
use Rattle.thumb_table.specs.Layouts.{all_placed, all_chosen, code_bytes_of}
use Rattle.thumb_table.specs.Links.{Link, IsLink, place_of, value_of, covers, Renumbers}
use Rattle.thumb_table.specs.Parts.{Image, CodeBytes, Memory}
use Rattle.thumb_table.specs.Images.{IsImage}
use Rattle.sim_images.specs.ImageLaws.{AreObjects, OneImage}
use Rattle.thumb_table.proofs.PlainImages.{has_room}
use Rattle.sim_images.proofs.RawBytes.{begins, ends_inside}
use Rattle.sim_images.proofs.PartFacts.{part_is, in_part, code_good, data_good}
use Rattle.sim_images.proofs.RightPlaces.{decoded_whole, place_is, word_width, no_data}
use Rattle.sim_images.proofs.StandingLinked.{no_word, same_Ok}
use Rattle.sim_images.proofs.DataMeet.{four_wide, covers_is}
use Rattle.sim_images.proofs.OneCode.{AreBytes, one_code, same_bytes}
use Rattle.sim_images.proofs.CoveredPlaces.{covered_or_free}

-- lists with the same four elements at an index
in_four : {X : Type 0} (xs ys : List X) (n k : ℕ) (d : X) → k < 4 → take 4 (drop n xs) ≡ take 4 (drop n ys) → get_or xs (n + k) d ≡ get_or ys (n + k) d
in_four xs ys n k d lt same =
    sym (get_or-drop n xs k d) ∙ (sym (get_or-take 4 (drop n xs) k d lt) ∙ (ap (λ (l : List _). get_or l k d) same ∙ (get_or-take 4 (drop n ys) k d lt ∙ get_or-drop n ys k d)))

rising_marks : (ms : List PlaceMark) → Rises (λ (a b : ℕ). a < b) (map (λ (m : PlaceMark). m.at) ms) → Rises (λ (m n : PlaceMark). m.at < n.at) ms
rising_marks [] h = tt
rising_marks (m ∷ ms) h = ((λ n c. h.0 n.at (map_contains (λ (z : PlaceMark). z.at) ms n c)), rising_marks ms h.1)

never_both : (a b : ℕ) → a < b → b < a → ⊥
never_both a b h k = omega arith

same_code : (c d : CodeBytes) → c.base ≡ d.base → c.bytes ≡ d.bytes → c.marks ≡ d.marks → c.stops ≡ d.stops → c ≡ d
same_code c d p q r s = λ i. record { base = p i; bytes = q i; marks = r i; stops = s i }

same_memory : (m n : Memory) → m.base ≡ n.base → m.cells ≡ n.cells → m ≡ n
same_memory m n p q = λ i. record { base = p i; cells = q i }

same_image : (a b : Image) → a.code ≡ b.code → a.memory ≡ b.memory → a.room ≡ b.room → a.parts ≡ b.parts → a.entries ≡ b.entries → a ≡ b
same_image a b p q r s t = λ i. record { code = p i; memory = q i; room = r i; parts = s i; entries = t i }

abbrev width_of : Bool → ℕ
width_of long = cond long 4 2

abbrev answer : Instr → Answer
answer i = Ok i

module _ (objects : List ObjectParts) (at : Placement) (a b : Image) (sound : AreObjects objects) (is : IsImage objects at a) (also : IsImage objects at b) where
  all : AreBytes a.code.bytes
  all = is.code.small

  too : AreBytes b.code.bytes
  too = also.code.small

  -- at a relocation in code
  module _ (l : Link) (il : IsLink objects at l) (code : is_code l.part.section ≡ true) where
    section_there : slice_get l.object.sections l.reloc.section ≡ Some l.part.section
    section_there =
        let h = part_is objects at l.file l.reloc.section l.part il.part in
        subst (λ (o : ObjectParts). slice_get o.sections l.reloc.section ≡ Some l.part.section) (same_Some h.object l.object (sym h.there ∙ il.object)) h.section

    its_bytes : bytes_of l.object l.reloc.section ≡ l.part.section.bytes
    its_bytes = ap bytes_in section_there

    of_word : is_word l.reloc.kind ≡ true → (k : ℕ) → k < place_width l.reloc.kind → get_or a.code.bytes (place_of l - at.base + k) 0 ≡ get_or b.code.bytes (place_of l - at.base + k) 0
    of_word word k lt =
        let four = word_width l.reloc.kind word in
        let less : k < 4 = omega arith in
        in_four a.code.bytes b.code.bytes (place_of l - at.base) k 0 less ((is.code.linked l il code).of_word word ∙ sym ((also.code.linked l il code).of_word word))

    of_instr : (i : Instr) → decoded_at (bytes_of l.object l.reloc.section) l.reloc.offset 0 ≡ Ok i → fits_kind l.reloc.kind (is_long (half_at (bytes_of l.object l.reloc.section) l.reloc.offset)) i ≡ true
        → (k : ℕ) → k < place_width l.reloc.kind → get_or a.code.bytes (place_of l - at.base + k) 0 ≡ get_or b.code.bytes (place_of l - at.base + k) 0
    of_instr i means fits k lt =
        let old = bytes_of l.object l.reloc.section in
        let no = no_word l.reloc.kind (is_long (half_at old l.reloc.offset)) i fits in
        let ra = (is.code.linked l il code).of_instr no in
        let rb = (also.code.linked l il code).of_instr no in
        let wide = place_is l.reloc.kind old l.reloc.offset i means fits in
        let width : length_at a.code.bytes (place_of l - at.base) ≡ length_at old l.reloc.offset = ra.width ∙ ap (λ (z : List ℕ). length_at z l.reloc.offset) (sym its_bytes) in
        let less : k < length_at a.code.bytes (place_of l - at.base) = omega arith in
        same_bytes a.code.bytes b.code.bytes all too (place_of l - at.base) (renumbered (value_of (all_placed objects at) l) i) (λ e. one (sym width ∙ e)) (becomes a.code.bytes ra) (becomes b.code.bytes rb) (rb.width ∙ sym ra.width) k less
      where
        becomes : (bytes : List ℕ) (r : Renumbers l.part.section.bytes l.reloc.offset (value_of (all_placed objects at) l) bytes (place_of l - at.base))
            → decoded_at bytes (place_of l - at.base) 0 ≡ Ok (renumbered (value_of (all_placed objects at) l) i)
        becomes bytes r =
            let same : r.instr ≡ i = same_Ok r.instr i (sym r.was ∙ (ap (λ (z : List ℕ). decoded_at z l.reloc.offset 0) (sym its_bytes) ∙ means)) in
            r.becomes ∙ ap (λ (z : Instr). answer (renumbered (value_of (all_placed objects at) l) z)) same

        go : (c : Bool) → is_long (half_at (bytes_of l.object l.reloc.section) l.reloc.offset) ≡ c → width_of c ≡ 2 → later_code (renumbered (value_of (all_placed objects at) l) i) ≡ None
        go true e h = absurd (omega arith)
        go false e h =
            one_code l.reloc.kind i (value_of (all_placed objects at) l) (subst (λ (c : Bool). fits_kind l.reloc.kind c i ≡ true) e fits) (long_alone (bytes_of l.object l.reloc.section) l.reloc.offset i means e)

        one : length_at (bytes_of l.object l.reloc.section) l.reloc.offset ≡ 2 → later_code (renumbered (value_of (all_placed objects at) l) i) ≡ None
        one h = go (is_long (half_at (bytes_of l.object l.reloc.section) l.reloc.offset)) refl h

    of_place : IsPlace l.object l.reloc → (k : ℕ) → k < place_width l.reloc.kind → get_or a.code.bytes (place_of l - at.base + k) 0 ≡ get_or b.code.bytes (place_of l - at.base + k) 0
    of_place (in_data s there datum word) k lt = absurd (no_data s (subst (λ (t : Section). is_code t ≡ true) (same_Some l.part.section s (sym section_there ∙ there)) code) datum)
    of_place (in_code word w) k lt = of_word word k lt
    of_place (on_instr e i s given fits) k lt = of_instr i (decoded_whole (bytes_of l.object l.reloc.section) e l.reloc.offset 0 i given).1 fits k lt

    at_link : (k : ℕ) → k < place_width l.reloc.kind → get_or a.code.bytes (place_of l - at.base + k) 0 ≡ get_or b.code.bytes (place_of l - at.base + k) 0
    at_link = of_place (is.can.right l.file l.number l.object l.reloc (record { object = il.object; reloc = il.reloc })).place

  code_byte : (x : ℕ) → x < length a.code.bytes → get_or a.code.bytes x 0 ≡ get_or b.code.bytes x 0
  code_byte x lt =
      elim (covered_or_free objects at sound is.can (at.base + x)) [
        | inr free ↦ is.code.others x free ∙ sym (also.code.others x free)
        | inl c ↦
            let l = c.link in
            let has = covers_is l (at.base + x) c.has in
            let low : place_of l ≤ at.base + x = has.low in
            let high : at.base + x < place_of l + place_width l.reloc.kind = has.high in
            elim ((part_is objects at l.file l.reloc.section l.part c.is_link.part).sort) [
              | inl code ↦
                  let begin : at.base ≤ l.part.start = begins (λ s. max 4 s.align) at.base (all_chosen is_code 0 objects) (code_good objects sound) l.part code.0 in
                  let less : x - (place_of l - at.base) < place_width l.reloc.kind = omega arith in
                  let index : place_of l - at.base + (x - (place_of l - at.base)) ≡ x = omega arith in
                  subst (λ (m : ℕ). get_or a.code.bytes m 0 ≡ get_or b.code.bytes m 0) index (at_link l c.is_link code.1 (x - (place_of l - at.base)) less)
              | inr datum ↦
                  let begin : at.base + at.room ≤ l.part.start = begins (λ s. s.align) (at.base + at.room) (all_chosen is_data 0 objects) (data_good objects sound) l.part datum.0 in
                  let size : length a.code.bytes ≡ length (code_bytes_of objects at) = is.code.size in
                  let fits = (has_room objects at is.can).code in
                  absurd (omega arith)
            ]
      ]

  bytes_same : a.code.bytes ≡ b.code.bytes
  bytes_same = same_number_lists a.code.bytes b.code.bytes (is.code.size ∙ sym also.code.size) code_byte

  base_same : a.memory.base ≡ b.memory.base
  base_same = is.memory.base ∙ sym also.memory.base

  data_cell : (x : ℕ) → get_or a.memory.cells x (bare 0) ≡ get_or b.memory.cells x (bare 0)
  data_cell x =
      elim (covered_or_free objects at sound is.can (a.memory.base + x)) [
        | inr free ↦ is.memory.others x free ∙ sym (also.memory.others x (λ l il. ap (λ (m : ℕ). covers (m + x) l) (sym base_same) ∙ free l il))
        | inl c ↦
            let l = c.link in
            let has = covers_is l (a.memory.base + x) c.has in
            let low : place_of l ≤ a.memory.base + x = has.low in
            let high : a.memory.base + x < place_of l + place_width l.reloc.kind = has.high in
            let base : a.memory.base ≡ at.base + at.room = is.memory.base in
            elim ((part_is objects at l.file l.reloc.section l.part c.is_link.part).sort) [
              | inl code ↦
                  let end : l.part.start + l.part.section.size ≤ at.base + length (code_bytes_of objects at) = ends_inside (λ s. max 4 s.align) at.base (all_chosen is_code 0 objects) (code_good objects sound) l.part code.0 in
                  let wide = in_part objects at l sound c.is_link in
                  let fits = (has_room objects at is.can).code in
                  absurd (omega arith)
              | inr datum ↦
                  let begin : at.base + at.room ≤ l.part.start = begins (λ s. s.align) (at.base + at.room) (all_chosen is_data 0 objects) (data_good objects sound) l.part datum.0 in
                  let four = four_wide l.reloc.kind in
                  let less : x - (place_of l - a.memory.base) < 4 = omega arith in
                  let index : place_of l - a.memory.base + (x - (place_of l - a.memory.base)) ≡ x = omega arith in
                  let other : take 4 (drop (place_of l - b.memory.base) b.memory.cells) ≡ take 4 (drop (place_of l - a.memory.base) b.memory.cells) = ap (λ (m : ℕ). take 4 (drop (place_of l - m) b.memory.cells)) (sym base_same) in
                  subst (λ (m : ℕ). get_or a.memory.cells m (bare 0) ≡ get_or b.memory.cells m (bare 0)) index
                  (in_four a.memory.cells b.memory.cells (place_of l - a.memory.base) (x - (place_of l - a.memory.base)) (bare 0) less
                  (is.memory.linked l c.is_link datum.1 ∙ (sym (also.memory.linked l c.is_link datum.1) ∙ other)))
            ]
      ]

  cells_same : a.memory.cells ≡ b.memory.cells
  cells_same =
      same_at_each a.memory.cells b.memory.cells (is.memory.size ∙ sym also.memory.size)
      (λ k x y e f. sym (get_or_from_slice_get a.memory.cells k x (bare 0) e) ∙ (data_cell k ∙ get_or_from_slice_get b.memory.cells k y (bare 0) f))

  marks_same : a.code.marks ≡ b.code.marks
  marks_same =
      one_list (λ (m n : PlaceMark). m.at < n.at) (λ m n. never_both m.at n.at) a.code.marks b.code.marks (rising_marks a.code.marks (rises_numbers _ is.marks.rise)) (rising_marks b.code.marks (rises_numbers _ also.marks.rise))
      (λ m. through (is.marks.exact m) (also.marks.exact m))

  stops_same : a.code.stops ≡ b.code.stops
  stops_same =
      one_list (λ (m n : ℕ). m < n) never_both a.code.stops b.code.stops (rises_numbers a.code.stops is.stops_rise) (rises_numbers b.code.stops also.stops_rise) (λ m. through (is.stops m) (also.stops m))

  pub images_same : a ≡ b
  images_same =
      same_image a b (same_code a.code b.code (is.code_base ∙ sym also.code_base) bytes_same marks_same stops_same) (same_memory a.memory b.memory base_same cells_same) (is.room ∙ sym also.room)
      (is.parts ∙ sym also.parts) (is.entries ∙ sym also.entries)

pub one_image : OneImage
one_image objects at a b sound is also = images_same objects at a b sound is also
