-- What the cells of an image's data are: bytes, or the bytes of a linked word.
use Rattle.std.specs.Prelude.{◌≡◌, ◌<◌, ◌≤◌, ℕ, zero, suc, ◌+◌, ◌-◌, true, false, List, length, get_or, take, drop, Option, Some, None, slice_get, refl}
use Rattle.std.proofs.Common.{arith, inl, inr, ap, sym, ◌∙◌, subst}
use Rattle.std.proofs.lemmas.Bool.{cases_Bool, cases_lt}
use Rattle.std.proofs.lemmas.List.{get_or-take, get_or-drop}
use Rattle.std.proofs.lemmas.Option.{none-some, same_Some, slice_get_within}
use Rattle.elf_model.specs.declared.objects.Section.{Section}
use Rattle.elf_model.specs.declared.objects.Reloc.{Reloc}
use Rattle.elf_model.specs.Objects.{ObjectParts, is_code, is_data}
use Rattle.mark_word.specs.declared.marks.Mark.{Mark}
use Rattle.mark_word.specs.Words.{Word, Cell, bare, byte_of}
use Rattle.mark_word.specs.Marks.{pieces, piece_of}
use Rattle.reloc_places.specs.Relocations.{is_word, IsPlace, in_data, in_code, on_instr, IsRight}
use Rattle.thumb_table.specs.declared.placements.Placement.{Placement}
use Rattle.thumb_table.specs.Parts.{Image}
use Rattle.thumb_table.specs.Layouts.{all_placed}
use Rattle.thumb_table.specs.Links.{Link, IsLink, full, mark_of, place_of, covers}
use Rattle.thumb_table.specs.Images.{IsImage}
use Rattle.sim_images.specs.ImageLaws.{AreObjects}
use Rattle.sim_images.proofs.PartFacts.{part_is, in_part}
use Rattle.sim_images.proofs.ImageFacts.{data_inside}
use Rattle.sim_images.proofs.RightPlaces.{no_data}
use Rattle.sim_images.proofs.EachLinked.{each_linked}
use Rattle.sim_images.proofs.StandingLinked.{same_link}
use Rattle.sim_images.proofs.LinksMeet.{room_of}
use Rattle.sim_images.proofs.HaveImages.{in_room}
use Rattle.sim_images.proofs.DataMeet.{link_here, four_wide, Covers, covers_is}

piece_at : (w : Word) (i : ℕ) → i < 4 → get_or (pieces w) i (bare 0) ≡ record { byte = byte_of i w.bits; piece = piece_of w.mark i }
piece_at w zero lt = refl
piece_at w (suc zero) lt = refl
piece_at w (suc (suc zero)) lt = refl
piece_at w (suc (suc (suc zero))) lt = refl
piece_at w (suc (suc (suc (suc n)))) lt = absurd (omega (arith, lt))

-- a relocation of data is of a word
word_place : (o : ObjectParts) (r : Reloc) → IsPlace o r → (s : Section) → slice_get o.sections r.section ≡ Some s → is_data s ≡ true → is_word r.kind ≡ true
word_place o r (in_data s there datum word) t e d = word
word_place o r (in_code word w) t e d = word
word_place o r (on_instr end i start given fits) t e d =
    absurd (no_data t (subst (λ (z : Section). is_code z ≡ true) (same_Some start.range.section t (sym start.range.is_there ∙ e)) start.range.in_code) d)

abbrev pub linked_cell : ℕ → Mark → ℕ → Cell
linked_cell i mark bits = record { byte = byte_of i bits; piece = piece_of mark i }

module _ (objects : List ObjectParts) (at : Placement) (image : Image) (sound : AreObjects objects) (is : IsImage objects at image) where
  -- a link that has the byte at an address, or none of those asked for
  data Search (a : ℕ) (asked : Link → Type 0) : Type 0 where
    one : (l : Link) → IsLink objects at l → covers a l ≡ true → Search a asked
    no_one : ((l : Link) → IsLink objects at l → asked l → covers a l ≡ false) → Search a asked

  of_relocs : (i : ℕ) (o : ObjectParts) → slice_get objects i ≡ Some o → (a m : ℕ) → Search a (λ (l : Link). (l.file ≡ i) × (l.number < m))
  of_relocs i o there a zero = no_one (λ l il h. let lt = h.1 in absurd (omega (arith, lt)))
  of_relocs i o there a (suc m) = go (slice_get o.relocs m) refl (of_relocs i o there a m)
    where
      ours : (l : Link) → IsLink objects at l → l.file ≡ i → l.object ≡ o
      ours l il file = same_Some l.object o (sym il.object ∙ (ap (λ (n : ℕ). slice_get objects n) file ∙ there))

      last : (n : ℕ) → n < suc m → m ≤ n → n ≡ m
      last n lt le = omega (arith, lt, le)

      go : (r : Option Reloc) → slice_get o.relocs m ≡ r → Search a (λ (l : Link). (l.file ≡ i) × (l.number < m)) → Search a (λ (l : Link). (l.file ≡ i) × (l.number < suc m))
      go r e (one l il c) = one l il c
      go None e (no_one before) =
          no_one (λ l il h.
          elim (cases_lt l.number m) [
            | inl low ↦ before l il (h.0, low)
            | inr high ↦
                let same : l.number ≡ m = last l.number h.1 high in
                absurd (none-some l.reloc (sym e ∙ (ap (λ (n : ℕ). slice_get o.relocs n) (sym same) ∙ (ap (λ (z : ObjectParts). slice_get z.relocs l.number) (sym (ours l il h.0)) ∙ il.reloc))))
          ])
      go (Some r) e (no_one before) =
          let k = each_linked objects at image sound is i m o r (record { object = there; reloc = e }) in
          elim (cases_Bool (covers a k.link)) [
            | inl y ↦ one k.link k.is_link y
            | inr n ↦
                no_one (λ l il h.
                elim (cases_lt l.number m) [
                  | inl low ↦ before l il (h.0, low)
                  | inr high ↦ ap (λ (z : Link). covers a z) (same_link objects at l k.link il k.is_link (h.0 ∙ sym k.file) (last l.number h.1 high ∙ sym k.number)) ∙ n
                ])
          ]

  of_files : (a n : ℕ) → Search a (λ (l : Link). l.file < n)
  of_files a zero = no_one (λ l il h. absurd (omega (arith, h)))
  of_files a (suc n) = go (slice_get objects n) refl (of_files a n)
    where
      last : (m : ℕ) → m < suc n → n ≤ m → m ≡ n
      last m lt le = omega (arith, lt, le)

      with_relocs : (o : ObjectParts) → slice_get objects n ≡ Some o → ((l : Link) → IsLink objects at l → l.file < n → covers a l ≡ false) → Search a (λ (l : Link). (l.file ≡ n) × (l.number < length o.relocs))
          → Search a (λ (l : Link). l.file < suc n)
      with_relocs o e before (one l il c) = one l il c
      with_relocs o e before (no_one none) =
          no_one (λ l il h.
          elim (cases_lt l.file n) [
            | inl low ↦ before l il low
            | inr high ↦
                let same : l.file ≡ n = last l.file h high in
                let object : l.object ≡ o = same_Some l.object o (sym il.object ∙ (ap (λ (m : ℕ). slice_get objects m) same ∙ e)) in
                none l il (same, slice_get_within o.relocs l.number l.reloc (ap (λ (z : ObjectParts). slice_get z.relocs l.number) (sym object) ∙ il.reloc))
          ])

      go : (o : Option ObjectParts) → slice_get objects n ≡ o → Search a (λ (l : Link). l.file < n) → Search a (λ (l : Link). l.file < suc n)
      go o e (one l il c) = one l il c
      go None e (no_one before) =
          no_one (λ l il h.
          elim (cases_lt l.file n) [
            | inl low ↦ before l il low
            | inr high ↦ absurd (none-some l.object (sym e ∙ (ap (λ (m : ℕ). slice_get objects m) (sym (last l.file h high)) ∙ il.object)))
          ])
      go (Some o) e (no_one before) = with_relocs o e before (of_relocs n o e a (length o.relocs))

  -- a cell of data
  pub data CellIs (k : ℕ) : Type 0 where
    byte_alone : (b : ℕ) → get_or image.memory.cells k (bare 0) ≡ bare b → CellIs k
    of_word : (l : Link) → IsLink objects at l → is_word l.reloc.kind ≡ true → (i : ℕ) → i < 4 → get_or image.memory.cells k (bare 0) ≡ linked_cell i (mark_of (all_placed objects at) l) (full (all_placed objects at) l) → CellIs k

  base : image.memory.base ≡ at.base + at.room
  base = is.memory.base

  linked_is : (k : ℕ) (l : Link) → IsLink objects at l → Covers l (image.memory.base + k) → is_data l.part.section ≡ true → CellIs k
  linked_is k l il c datum =
      let inside = (data_inside objects at image sound is l.file l.reloc.section l.object l.part (link_here objects at l il) datum).0 in
      let low = c.low in
      let high = c.high in
      let wide = four_wide l.reloc.kind in
      let n : ℕ = place_of l - image.memory.base in
      let i : ℕ = image.memory.base + k - place_of l in
      let index : k ≡ n + i = omega (arith, inside, low) in
      let lt : i < 4 = omega (arith, low, high, wide) in
      let w : Word = record { bits = full (all_placed objects at) l; mark = mark_of (all_placed objects at) l } in
      let written : take 4 (drop n image.memory.cells) ≡ pieces w = is.memory.linked l il datum in
      let right : IsRight l.object l.number l.reloc = is.can.right l.file l.number l.object l.reloc (record { object = il.object; reloc = il.reloc }) in
      of_word l il (word_place l.object l.reloc right.place l.part.section (link_here objects at l il).section datum) i lt
      (ap (λ (m : ℕ). get_or image.memory.cells m (bare 0)) index
      ∙ (sym (get_or-drop n image.memory.cells i (bare 0)) ∙ (sym (get_or-take 4 (drop n image.memory.cells) i (bare 0) lt) ∙ (ap (λ (cs : List Cell). get_or cs i (bare 0)) written ∙ piece_at w i lt))))

  covered_is : (k : ℕ) (l : Link) → IsLink objects at l → Covers l (image.memory.base + k) → CellIs k
  covered_is k l il c =
      elim ((part_is objects at l.file l.reloc.section l.part il.part).sort) [
        | inl code ↦
            let r = (in_room objects at sound (room_of objects at is.can) l.file l.reloc.section l.object l.part (link_here objects at l il) code.1).1 in
            let wide = in_part objects at l sound il in
            let high = c.high in
            let e = base in
            absurd (omega (arith, r, wide, high, e))
        | inr datum ↦ linked_is k l il c datum.1
      ]

  pub cell_is : (k : ℕ) → CellIs k
  cell_is k = go (of_files (image.memory.base + k) (length objects))
    where
      go : Search (image.memory.base + k) (λ (l : Link). l.file < length objects) → CellIs k
      go (one l il c) = covered_is k l il (covers_is l (image.memory.base + k) c)
      go (no_one free) = byte_alone _ (is.memory.others k (λ l il. free l il (slice_get_within objects l.file l.object il.object)))
