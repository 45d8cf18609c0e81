-- At an instruction with a relocation the image has it with the linked number, and the relocation's mark.
use Rattle.std.specs.Prelude.{◌≡◌, ◌<◌, ◌≤◌, ◌⊎◌, ℕ, ◌+◌, ◌-◌, ◌==◌, Bool, true, false, cond, List, [], ◌∷◌, length, Some, Ok, slice_get, Contains, refl}
use Rattle.std.proofs.Common.{arith, inl, inr, ap, sym, ◌∙◌, subst}
use Rattle.std.proofs.lemmas.Bool.{cases_Bool, cases_order, both_ways, eqb-true, eq-eqb}
use Rattle.std.proofs.lemmas.Option.{same_Some}
use Rattle.elf_model.specs.declared.objects.Section.{Section}
use Rattle.elf_model.specs.declared.objects.Reloc.{Reloc}
use Rattle.elf_model.specs.declared.objects.Symbol.{Symbol}
use Rattle.elf_model.specs.declared.objects.RelocKind.{RelocKind}
use Rattle.elf_model.specs.declared.objects.RelocKind.TheVariants.{Abs32, Target1, ThmCall, ThmJump24, MovwAbs, MovtAbs, ThmJump19, ThmJump11, ThmJump8, Other}
use Rattle.elf_model.specs.Fields.{half_at}
use Rattle.elf_model.specs.Objects.{ObjectParts, is_code}
use Rattle.elf_model.specs.Ranges.{is_long, length_at}
use Rattle.mark_word.specs.declared.marks.Mark.{Mark}
use Rattle.mark_word.specs.declared.marks.Mark.TheVariants.{Plain, Entry, Return, Low}
use Rattle.thumb_instr.specs.declared.instructions.Instr.{Instr}
use Rattle.thumb_instr.specs.Rows.{Answer}
use Rattle.thumb_table.specs.declared.placements.Placement.{Placement}
use Rattle.thumb_table.specs.declared.parts.PlaceMark.{PlaceMark}
use Rattle.thumb_table.specs.Parts.{Image}
use Rattle.reloc_places.specs.Starts.{bytes_in, bytes_of, decoded_at}
use Rattle.reloc_places.specs.Relocations.{is_word, fits_kind, IsPlace, in_data, in_code, on_instr, IsRight}
use Rattle.thumb_table.specs.Layouts.{Placed, all_placed, part_of}
use Rattle.thumb_table.specs.Names.{Defined, meant}
use Rattle.thumb_table.specs.Links.{Link, IsLink, place_of, value_of, mark_of, Renumbers}
use Rattle.thumb_instr.specs.Numbers.{renumbered}
use Rattle.thumb_table.specs.Images.{CanLink, IsImage}
use Rattle.thumb_table.specs.Effects.{mark_at}
use Rattle.sim_images.specs.ImageLaws.{AreObjects, Here}
use Rattle.sim_images.specs.CodeLaws.{Fetches, StandsLinked}
use Rattle.elf_model.proofs.Elements.{contains_none, contains_cases, contains_here, contains_later}
use Rattle.reloc_places.proofs.DecodedPlaces.{number_alone}
use Rattle.sim_images.proofs.PartFacts.{part_is, apart, in_part}
use Rattle.sim_images.proofs.ImageFacts.{code_inside}
use Rattle.sim_images.proofs.RightPlaces.{decoded_whole, no_both, no_data}
use Rattle.sim_images.proofs.Standing.{stands, place_least}
use Rattle.reloc_places.proofs.StartFacts.{start_before, start_behind}

abbrev answer : Instr → Answer
answer i = Ok i

pub same_Ok : (i j : Instr) → answer i ≡ answer j → i ≡ j
same_Ok i j e = cc

pub no_word : (k : RelocKind) (b : Bool) (i : Instr) → fits_kind k b i ≡ true → is_word k ≡ false
no_word Abs32 b i h = absurd (both_ways false refl h)
no_word Target1 b i h = absurd (both_ways false refl h)
no_word (Other n) b i h = absurd (both_ways false refl h)
no_word ThmCall b i h = refl
no_word ThmJump24 b i h = refl
no_word MovwAbs b i h = refl
no_word MovtAbs b i h = refl
no_word ThmJump19 b i h = refl
no_word ThmJump11 b i h = refl
no_word ThmJump8 b i h = refl

abbrev with_parts : ℕ → ObjectParts → ℕ → Reloc → Placed → Symbol → Defined → Link
with_parts file object number reloc part symbol meant = record { file = file; object = object; number = number; reloc = reloc; part = part; symbol = symbol; meant = meant }

same_parts : (l m : Link) → l.file ≡ m.file → l.object ≡ m.object → l.number ≡ m.number → l.reloc ≡ m.reloc → l.part ≡ m.part → l.symbol ≡ m.symbol → l.meant ≡ m.meant → l ≡ m
same_parts l m a b c d e f g = same
  where
    same : with_parts l.file l.object l.number l.reloc l.part l.symbol l.meant ≡ with_parts m.file m.object m.number m.reloc m.part m.symbol m.meant
    same = cc

-- a relocation has one link
pub same_link : (objects : List ObjectParts) (at : Placement) (l m : Link) → IsLink objects at l → IsLink objects at m → l.file ≡ m.file → l.number ≡ m.number → l ≡ m
same_link objects at l m a b file number =
    let one : l.object ≡ m.object = same_Some l.object m.object (sym a.object ∙ (ap (λ (n : ℕ). slice_get objects n) file ∙ b.object)) in
    let reloc : l.reloc ≡ m.reloc = same_Some l.reloc m.reloc (sym a.reloc ∙ (ap (λ (z : ObjectParts). slice_get z.relocs l.number) one
    ∙ (ap (λ (n : ℕ). slice_get m.object.relocs n) number ∙ b.reloc))) in
    let section : l.reloc.section ≡ m.reloc.section = ap (λ (r : Reloc). r.section) reloc in
    let part : l.part ≡ m.part = same_Some l.part m.part (sym a.part ∙ (ap (λ (n : ℕ). part_of (all_placed objects at) n l.reloc.section) file
    ∙ (ap (λ (n : ℕ). part_of (all_placed objects at) m.file n) section ∙ b.part))) in
    let symbol : l.symbol ≡ m.symbol = same_Some l.symbol m.symbol (sym a.symbol ∙ (ap (λ (z : ObjectParts). slice_get z.symbols l.reloc.symbol) one
    ∙ (ap (λ (r : Reloc). slice_get m.object.symbols r.symbol) reloc ∙ b.symbol))) in
    let what : l.meant ≡ m.meant = same_Some l.meant m.meant (sym a.meant ∙ (ap (λ (n : ℕ). meant objects n l.reloc.symbol l.symbol) file
    ∙ (ap (λ (r : Reloc). meant objects m.file r.symbol l.symbol) reloc ∙ (ap (λ (s : Symbol). meant objects m.file m.reloc.symbol s) symbol ∙ b.meant)))) in
    same_parts l m file one number reloc part symbol what

-- links of one place are one
one_link : (objects : List ObjectParts) (at : Placement) → CanLink objects at → (l m : Link) → IsLink objects at l → IsLink objects at m → l.file ≡ m.file → l.reloc.section ≡ m.reloc.section
    → l.reloc.offset ≡ m.reloc.offset → l ≡ m
one_link objects at can l m a b file section offset =
    let one : l.object ≡ m.object = same_Some l.object m.object (sym a.object ∙ (ap (λ (n : ℕ). slice_get objects n) file ∙ b.object)) in
    let there : slice_get m.object.relocs l.number ≡ Some l.reloc = subst (λ (z : ObjectParts). slice_get z.relocs l.number ≡ Some l.reloc) one a.reloc in
    let right_m : IsRight m.object m.number m.reloc = can.right m.file m.number m.object m.reloc (record { object = b.object; reloc = b.reloc }) in
    let right_l : IsRight m.object l.number l.reloc = subst (λ (z : ObjectParts). IsRight z l.number l.reloc) one (can.right l.file l.number l.object l.reloc (record { object = a.object; reloc = a.reloc })) in
    let wide_l = place_least l.reloc.kind in
    let wide_m = place_least m.reloc.kind in
    elim (cases_order l.number m.number) [
      | inl e ↦ same_link objects at l m a b file e
      | inr w ↦ elim w [
        | inl lt ↦ let h = right_m.alone l.number l.reloc lt there section in absurd (omega arith)
        | inr lt ↦ let h = right_l.alone m.number m.reloc lt b.reloc (sym section) in absurd (omega arith)
      ]
    ]

-- the mark at an address, where all that stand there are one
mark_is : (marks : List PlaceMark) (a : ℕ) (k : Mark) → ((m : PlaceMark) → Contains marks m → m.at ≡ a → m.mark ≡ k) → (k ≡ Plain) ⊎ Contains marks (record { at = a; mark = k }) → mark_at marks a ≡ k
mark_is [] a k all there = elim there [ inl e ↦ sym e | inr c ↦ absurd (contains_none (record { at = a; mark = k }) c) ]
mark_is (m ∷ ms) a k all there =
    elim (cases_Bool (m.at == a)) [
      | inl y ↦ ap (λ (b : Bool). cond b m.mark (mark_at ms a)) y ∙ all m (contains_here m ms) (eqb-true m.at a y)
      | inr n ↦
          ap (λ (b : Bool). cond b m.mark (mark_at ms a)) n
          ∙ mark_is ms a k (λ q c. all q (contains_later m ms q c)) (elim there [
            | inl e ↦ inl e
            | inr c ↦ elim (contains_cases m ms (record { at = a; mark = k }) c) [
              | inl e ↦ absurd (both_ways (m.at == a) n (eq-eqb m.at a (ap (λ (q : PlaceMark). q.at) e)))
              | inr r ↦ inr r
            ]
          ])
    ]

is_plain : (k : Mark) → (k ≡ Plain) ⊎ (k ≡ Plain → ⊥)
is_plain Plain = inl refl
is_plain (Entry a) = inr (λ e. cc)
is_plain (Return a) = inr (λ e. cc)
is_plain (Low a) = inr (λ e. cc)

-- the mark at a relocation's place in code
pub mark_there : (objects : List ObjectParts) (at : Placement) (image : Image) → AreObjects objects → IsImage objects at image → (l : Link) → IsLink objects at l → is_code l.part.section ≡ true
    → mark_at image.code.marks (place_of l) ≡ mark_of (all_placed objects at) l
mark_there objects at image sound is l link code = marked
  where
    all_marks : (m : PlaceMark) → Contains image.code.marks m → m.at ≡ place_of l → m.mark ≡ mark_of (all_placed objects at) l
    all_marks m c e =
        let h = (is.marks.exact m).0 c in
        let mine = part_is objects at l.file l.reloc.section l.part link.part in
        let its = part_is objects at h.link.file h.link.reloc.section h.link.part h.is_link.part in
        let wide = in_part objects at h.link sound h.is_link in
        let wide_l = in_part objects at l sound link in
        let some = place_least h.link.reloc.kind in
        let some_l = place_least l.reloc.kind in
        let place : m.at ≡ h.link.part.start + h.link.reloc.offset = h.place in
        let same_address : l.part.start + l.reloc.offset ≡ h.link.part.start + h.link.reloc.offset = omega arith in
        let lx : l.reloc.offset < l.part.section.size = omega arith in
        let ly : h.link.reloc.offset < h.link.part.section.size = omega arith in
        let one : l.part ≡ h.link.part = apart objects at sound is.can l.file l.reloc.section h.link.file h.link.reloc.section l.part h.link.part mine its l.reloc.offset h.link.reloc.offset lx ly same_address in
        let begin : l.part.start ≡ h.link.part.start = ap (λ (z : Placed). z.start) one in
        let file : h.link.file ≡ l.file = sym its.file ∙ (sym (ap (λ (z : Placed). z.object) one) ∙ mine.file) in
        let section : h.link.reloc.section ≡ l.reloc.section = sym its.index ∙ (sym (ap (λ (z : Placed). z.index) one) ∙ mine.index) in
        let offset : h.link.reloc.offset ≡ l.reloc.offset = omega arith in
        h.mark ∙ ap (λ (z : Link). mark_of (all_placed objects at) z) (one_link objects at is.can h.link l h.is_link link file section offset)

    marked : mark_at image.code.marks (place_of l) ≡ mark_of (all_placed objects at) l
    marked =
        mark_is image.code.marks (place_of l) (mark_of (all_placed objects at) l) all_marks
        (elim (is_plain (mark_of (all_placed objects at) l)) [
          | inl e ↦ inl e
          | inr n ↦ inr ((is.marks.exact (record { at = place_of l; mark = mark_of (all_placed objects at) l })).1 (record { link = l; is_link = link; code = code; place = refl; mark = refl; marked = n }))
        ])

-- a place is on an instruction
record OnInstr (l : Link) : Type 0 where
  pub instr : Instr
  pub decodes : decoded_at (bytes_of l.object l.reloc.section) l.reloc.offset 0 ≡ Ok instr
  pub fits : fits_kind l.reloc.kind (is_long (half_at (bytes_of l.object l.reloc.section) l.reloc.offset)) instr ≡ true

pub stands_linked : StandsLinked
stands_linked objects at image sound is l link end it instr start given =
    subst (λ (w : ℕ). Fetches image.code (place_of l) it (renumbered (value_of (all_placed objects at) l) instr) w (mark_of (all_placed objects at) l)) width
    (stands image.code (place_of l) it (place_of l - image.code.base) image.code.bytes (renumbered (value_of (all_placed objects at) l) instr) (mark_of (all_placed objects at) l) low high (λ k lk. refl) means (mark_there objects at image sound is l link code))
  where
    j : ℕ
    j = l.reloc.section

    whole : (l.reloc.offset + length_at (bytes_of l.object l.reloc.section) l.reloc.offset ≤ end) × (decoded_at (bytes_of l.object l.reloc.section) l.reloc.offset it ≡ Ok instr)
    whole = decoded_whole (bytes_of l.object l.reloc.section) end l.reloc.offset it instr given

    section_there : slice_get l.object.sections l.reloc.section ≡ Some l.part.section
    section_there =
        let h = part_is objects at l.file l.reloc.section l.part link.part in
        subst (λ (o : ObjectParts). slice_get o.sections l.reloc.section ≡ Some l.part.section) (same_Some h.object l.object (sym h.there ∙ link.object)) h.section

    here : Here objects at l.file l.object l.reloc.section l.part
    here = record { object = link.object; section = section_there; part = link.part }

    range_section : start.range.section ≡ l.part.section
    range_section = same_Some start.range.section l.part.section (sym start.range.is_there ∙ section_there)

    code : is_code l.part.section ≡ true
    code = subst (λ (s : Section). is_code s ≡ true) range_section start.range.in_code

    its_bytes : bytes_of l.object l.reloc.section ≡ l.part.section.bytes
    its_bytes = ap bytes_in section_there

    right : IsRight l.object l.number l.reloc
    right = is.can.right l.file l.number l.object l.reloc (record { object = link.object; reloc = link.reloc })

    on : IsPlace l.object l.reloc → OnInstr l
    on (in_data s there datum word) =
        absurd (no_data s (subst (λ (t : Section). is_code t ≡ true) (same_Some start.range.section s (sym start.range.is_there ∙ there)) start.range.in_code) datum)
    on (in_code word w) =
        let a = start_before (bytes_of l.object l.reloc.section) start.start end l.reloc.offset start.is_start in
        let b = start_behind (bytes_of l.object l.reloc.section) start.start end l.reloc.offset start.is_start in
        let c : w.start ≤ l.reloc.offset = w.behind_start in
        let d : l.reloc.offset + 4 ≤ w.end = w.before_end in
        absurd (no_both l.object l.reloc.section start.start end w.start w.end l.reloc.offset start.range w.range b a c (omega arith))
    on (on_instr e i s given fits) = record { instr = i; decodes = (decoded_whole (bytes_of l.object l.reloc.section) e l.reloc.offset 0 i given).1; fits = fits }

    place : OnInstr l
    place = on right.place

    new : ℕ
    new = place_of l - image.code.base

    base : at.base ≡ image.code.base
    base = sym is.code_base

    written : Renumbers l.part.section.bytes l.reloc.offset (value_of (all_placed objects at) l) image.code.bytes (place_of l - at.base)
    written = (is.code.linked l link code).of_instr (no_word l.reloc.kind (is_long (half_at (bytes_of l.object l.reloc.section) l.reloc.offset)) place.instr place.fits)

    same_width : length_at image.code.bytes (place_of l - image.code.base) ≡ length_at (bytes_of l.object l.reloc.section) l.reloc.offset
    same_width =
        ap (λ (b : ℕ). length_at image.code.bytes (place_of l - b)) (sym base) ∙ (written.width ∙ ap (λ (z : List ℕ). length_at z l.reloc.offset) (sym its_bytes))

    width : length_at image.code.bytes (place_of l - image.code.base) ≡ length_at (bytes_of l.object l.reloc.section) l.reloc.offset
    width = same_width

    same_instr : written.instr ≡ place.instr
    same_instr = same_Ok written.instr place.instr (sym written.was ∙ (ap (λ (z : List ℕ). decoded_at z l.reloc.offset 0) (sym its_bytes) ∙ place.decodes))

    becomes : decoded_at image.code.bytes (place_of l - image.code.base) 0 ≡ Ok (renumbered (value_of (all_placed objects at) l) place.instr)
    becomes =
        ap (λ (b : ℕ). decoded_at image.code.bytes (place_of l - b) 0) (sym base) ∙ (written.becomes
        ∙ ap (λ (i : Instr). answer (renumbered (value_of (all_placed objects at) l) i)) same_instr)

    means : decoded_at image.code.bytes (place_of l - image.code.base) it ≡ Ok (renumbered (value_of (all_placed objects at) l) instr)
    means =
        number_alone (bytes_of l.object l.reloc.section) image.code.bytes l.reloc.offset (place_of l - image.code.base) (value_of (all_placed objects at) l) it l.reloc.kind place.instr instr
        place.decodes place.fits whole.1 becomes

    inside : (at.base ≤ l.part.start) × (l.part.start + l.part.section.size ≤ at.base + length image.code.bytes)
    inside = code_inside objects at image sound is l.file l.reloc.section l.object l.part here code

    low : image.code.base ≤ place_of l
    low = let b = base in let i = inside.0 in omega arith

    high : place_of l + length_at image.code.bytes (place_of l - image.code.base) ≤ image.code.base + length image.code.bytes
    high =
        let b = base in
        let i = inside.1 in
        let w = same_width in
        let a : end ≤ start.range.section.size = start.range.inside in
        let s : start.range.section.size ≡ l.part.section.size = ap (λ (z : Section). z.size) range_section in
        let c = whole.0 in
        omega arith
