-- A word of a data range without relocation stands in the image as it is.
use Rattle.std.specs.Prelude.{◌≡◌, ◌<◌, ◌≤◌, ◌⊎◌, ℕ, ◌+◌, ◌-◌, ◌%◌, ◌==◌, nat_le, nat_lt, ◌&&◌, true, false, List, length, get_or, take, drop, Some, slice_get, Contains}
use Rattle.std.proofs.Common.{arith, inl, inr, ap, sym, ◌∙◌, subst, length-drop}
use Rattle.std.proofs.lemmas.Bool.{cases_lt, cases_eq, and_parts, and_from, eq-eqb, leb-true, ltb-true, false_from_ne_true}
use Rattle.std.proofs.lemmas.List.{get_or-take, get_or-drop, length-take}
use Rattle.std.proofs.lemmas.Grind.{same_number_lists}
use Rattle.std.proofs.lemmas.Option.{same_Some}
use Rattle.elf_model.specs.declared.objects.Section.{Section}
use Rattle.elf_model.specs.declared.objects.Reloc.{Reloc}
use Rattle.elf_model.specs.Objects.{ObjectParts, is_object, is_code, place_width}
use Rattle.thumb_table.specs.declared.parts.PlaceMark.{PlaceMark}
use Rattle.reloc_places.specs.Starts.{bytes_in, bytes_of, IsDataWord}
use Rattle.reloc_places.specs.Relocations.{IsPlace, in_data, in_code, on_instr, IsRight}
use Rattle.thumb_table.specs.Layouts.{Placed, all_placed, part_of}
use Rattle.thumb_table.specs.Links.{Link, IsLink, place_of, covers}
use Rattle.sim_images.specs.CodeLaws.{WordAsIs}
use Rattle.elf_model.proofs.Elements.{all_at}
use Rattle.sim_images.proofs.PartFacts.{part_is, apart, in_part, sized}
use Rattle.code_ranges.proofs.ObjectFacts.{section_sound}
use Rattle.sim_images.proofs.ImageFacts.{code_inside, code_as_is, code_has_bytes}
use Rattle.sim_images.proofs.RightPlaces.{decoded_whole, no_both, no_data, place_is, word_width}
use Rattle.reloc_places.proofs.StartFacts.{start_before, start_behind}
use Rattle.sim_images.proofs.Standing.{none_passes, no_mark, place_least}

four_same : (xs ys : List ℕ) (a b : ℕ) → a + 4 ≤ length xs → b + 4 ≤ length ys → ((k : ℕ) → k < 4 → get_or xs (a + k) 0 ≡ get_or ys (b + k) 0) → take 4 (drop a xs) ≡ take 4 (drop b ys)
four_same xs ys a b la lb same =
    same_number_lists (take 4 (drop a xs)) (take 4 (drop b ys)) (four xs a la ∙ sym (four ys b lb)) (λ k lt.
    let l = four xs a la in
    let less : k < 4 = omega arith in
    get_or-take 4 (drop a xs) k 0 less ∙ (get_or-drop a xs k 0 ∙ (same k less ∙ (sym (get_or-drop b ys k 0) ∙ sym (get_or-take 4 (drop b ys) k 0 less)))))
  where
    four : (zs : List ℕ) (c : ℕ) → c + 4 ≤ length zs → length (take 4 (drop c zs)) ≡ 4
    four zs c le = omega (arith, length-take {A = ℕ} 4 (drop c zs), length-drop {A = ℕ} c zs)

-- a right relocation that stands elsewhere shares no byte with a word of a data range
beside_word : (o : ObjectParts) (w k : ℕ) (r : Reloc) → IsDataWord o r.section w → IsRight o k r → (r.offset ≡ w → ⊥) → (r.offset + place_width r.kind ≤ w) ⊎ (w + 4 ≤ r.offset)
beside_word o w k r word right other = go right.place
  where
    c1 : word.start ≤ w
    c1 = word.behind_start

    c2 : w + 4 ≤ word.end
    c2 = word.before_end

    go : IsPlace o r → (r.offset + place_width r.kind ≤ w) ⊎ (w + 4 ≤ r.offset)
    go (in_data s there datum is) =
        let same : word.range.section ≡ s = same_Some word.range.section s (sym word.range.is_there ∙ there) in
        absurd (no_data s (subst (λ (t : Section). is_code t ≡ true) same word.range.in_code) datum)
    go (in_code is at) =
        let four = word_width r.kind is in
        let a : r.offset % 4 ≡ 0 = at.aligned in
        let b : w % 4 ≡ 0 = word.aligned in
        elim (cases_lt r.offset w) [
          | inl under ↦ let le : r.offset + 4 ≤ w = omega arith in inl (omega arith)
          | inr over ↦ elim (cases_eq r.offset w) [ inl e ↦ absurd (other e) | inr apart ↦ let le : w + 4 ≤ r.offset = omega arith in inr le ]
        ]
    go (on_instr end i at is fits) =
        let d = decoded_whole (bytes_of o r.section) end r.offset 0 i is in
        let width = place_is r.kind (bytes_of o r.section) r.offset i d.1 fits in
        let whole = d.0 in
        let a = start_before (bytes_of o r.section) at.start end r.offset at.is_start in
        let b = start_behind (bytes_of o r.section) at.start end r.offset at.is_start in
        elim (cases_lt w r.offset) [
          | inl under ↦ elim (cases_lt r.offset (w + 4)) [
            | inl within ↦ absurd (no_both o r.section at.start end word.start word.end r.offset at.range word.range b a (omega arith) (omega arith))
            | inr past ↦ inr past
          ]
          | inr over ↦ elim (cases_lt w (r.offset + place_width r.kind)) [
            | inl within ↦ absurd (no_both o r.section at.start end word.start word.end w at.range word.range (omega arith) (omega arith) c1 (omega arith))
            | inr past ↦ inl past
          ]
        ]

pub word_as_is : WordAsIs
word_as_is objects at image sound is i j o p here w word none = (
  four_same image.code.bytes (bytes_of o j) (p.start + w - at.base) w high short same,
  no_mark image.code.marks (p.start + w) unmarked,
)
  where
    range_section : word.range.section ≡ p.section
    range_section = same_Some word.range.section p.section (sym word.range.is_there ∙ here.section)

    code : is_code p.section ≡ true
    code = subst (λ (s : Section). is_code s ≡ true) range_section word.range.in_code

    its_bytes : bytes_of o j ≡ p.section.bytes
    its_bytes = ap bytes_in here.section

    fits : w + 4 ≤ p.section.size
    fits =
        let a : word.end ≤ word.range.section.size = word.range.inside in
        let b : word.range.section.size ≡ p.section.size = ap (λ (s : Section). s.size) range_section in
        let c : w + 4 ≤ word.end = word.before_end in
        omega arith

    inside : (at.base ≤ p.start) × (p.start + p.section.size ≤ at.base + length image.code.bytes)
    inside = code_inside objects at image sound is i j o p here code

    high : p.start + w - at.base + 4 ≤ length image.code.bytes
    high = let l = inside.0 in let h = inside.1 in let f = fits in omega arith

    short : w + 4 ≤ length (bytes_of o j)
    short =
        let f = fits in
        let size : length (bytes_of o j) ≡ p.section.size =
        ap (λ (z : List ℕ). length z) its_bytes ∙ (sym (ap (λ (z : List ℕ). length z) (code_has_bytes p.section code)) ∙ sized p.section (section_sound o j p.section (all_at is_object objects i o sound here.object) here.section)) in
        omega arith

    not_here : (l : Link) → IsLink objects at l → l.file ≡ i → l.reloc.section ≡ j → l.reloc.offset ≡ w → ⊥
    not_here l link file section offset =
        let one : l.object ≡ o = same_Some l.object o (sym link.object ∙ (ap (λ (n : ℕ). slice_get objects n) file ∙ here.object)) in
        none_passes (λ (r : Reloc). (r.section == j) && (r.offset == w)) o.relocs l.number l.reloc none (subst (λ (z : ObjectParts). slice_get z.relocs l.number ≡ Some l.reloc) one link.reloc)
        (and_from (l.reloc.section == j) (l.reloc.offset == w) (eq-eqb l.reloc.section j section) (eq-eqb l.reloc.offset w offset))

    same_part : (l : Link) → IsLink objects at l → l.file ≡ i → l.reloc.section ≡ j → l.part ≡ p
    same_part l link file section =
        same_Some l.part p (sym link.part ∙ (ap (λ (n : ℕ). part_of (all_placed objects at) n l.reloc.section) file ∙ (ap (λ (n : ℕ). part_of (all_placed objects at) i n) section ∙ here.part)))

    elsewhere : (l : Link) → IsLink objects at l → l.file ≡ i → l.reloc.section ≡ j → (l.reloc.offset + place_width l.reloc.kind ≤ w) ⊎ (w + 4 ≤ l.reloc.offset)
    elsewhere l link file section =
        let one : l.object ≡ o = same_Some l.object o (sym link.object ∙ (ap (λ (n : ℕ). slice_get objects n) file ∙ here.object)) in
        let right : IsRight o l.number l.reloc = subst (λ (z : ObjectParts). IsRight z l.number l.reloc) one (is.can.right l.file l.number l.object l.reloc (record { object = link.object; reloc = link.reloc })) in
        beside_word o w l.number l.reloc (subst (λ (n : ℕ). IsDataWord o n w) (sym section) word) right (not_here l link file section)

    uncovered : (k : ℕ) → k < 4 → (l : Link) → IsLink objects at l → l.file ≡ i → l.reloc.section ≡ j → covers (p.start + (w + k)) l ≡ false
    uncovered k lk l link file section =
        let begin : l.part.start ≡ p.start = ap (λ (z : Placed). z.start) (same_part l link file section) in
        false_from_ne_true (covers (p.start + (w + k)) l) (λ y.
        let parts = and_parts (nat_le (place_of l) (p.start + (w + k))) (nat_lt (p.start + (w + k)) (place_of l + place_width l.reloc.kind)) y in
        let a : place_of l ≤ p.start + (w + k) = leb-true (place_of l) (p.start + (w + k)) parts.0 in
        let b : p.start + (w + k) < place_of l + place_width l.reloc.kind = ltb-true (p.start + (w + k)) (place_of l + place_width l.reloc.kind) parts.1 in
        elim (elsewhere l link file section) [ inl e ↦ omega arith | inr e ↦ omega arith ])

    same : (k : ℕ) → k < 4 → get_or image.code.bytes (p.start + w - at.base + k) 0 ≡ get_or (bytes_of o j) (w + k) 0
    same k lk =
        let f = fits in
        let l = inside.0 in
        let index : p.start + w - at.base + k ≡ p.start + (w + k) - at.base = omega arith in
        ap (λ (n : ℕ). get_or image.code.bytes n 0) index
        ∙ (code_as_is objects at image sound is i j o p here code (w + k) (omega arith) (uncovered k lk) ∙ ap (λ (z : List ℕ). get_or z (w + k) 0) (sym its_bytes))

    unmarked : (m : PlaceMark) → Contains image.code.marks m → m.at ≡ p.start + w → ⊥
    unmarked m c e =
        let h = (is.marks.exact m).0 c in
        let l = h.link in
        let its = part_is objects at l.file l.reloc.section l.part h.is_link.part in
        let mine = part_is objects at i j p here.part in
        let wide = in_part objects at l sound h.is_link in
        let f = fits in
        let place : m.at ≡ l.part.start + l.reloc.offset = h.place in
        let same_address : p.start + w ≡ l.part.start + l.reloc.offset = omega arith in
        let lx : w < p.section.size = omega arith in
        let some = place_least l.reloc.kind in
        let ly : l.reloc.offset < l.part.section.size = omega arith in
        let one : p ≡ l.part = apart objects at sound is.can i j l.file l.reloc.section p l.part mine its w l.reloc.offset lx ly same_address in
        let begin : p.start ≡ l.part.start = ap (λ (z : Placed). z.start) one in
        not_here l h.is_link (sym its.file ∙ (sym (ap (λ (z : Placed). z.object) one) ∙ mine.file)) (sym its.index ∙ (sym (ap (λ (z : Placed). z.index) one) ∙ mine.index)) (omega arith)
