-- Parts of a list of objects: where they come from, that they lie apart, and that relocations stay in their own part.
use Rattle.std.specs.Prelude.{◌≡◌, ◌<◌, ◌≤◌, ◌⊎◌, ℕ, suc, ◌+◌, ◌-◌, ◌==◌, nat_lt, nat_le, ◌&&◌, not, max, Bool, true, false, cond, List, [], ◌∷◌, length, replicate, Option, Some, slice_get, Contains, refl}
use Rattle.std.proofs.Common.{arith, inl, inr, ap, sym, ◌∙◌, subst}
use Rattle.std.proofs.lemmas.Bool.{cases_Bool, and_parts, eqb-true, leb-true, ltb-true}
use Rattle.std.proofs.lemmas.List.{length-replicate}
use Rattle.std.proofs.lemmas.Option.{same_Some}
use Rattle.elf_model.specs.declared.objects.Section.{Section}
use Rattle.elf_model.specs.Constants.{nobits}
use Rattle.elf_model.specs.Objects.{ObjectParts, is_object, is_section, is_placed, is_kind, is_code, is_data, place_width}
use Rattle.thumb_table.specs.declared.placements.Placement.{Placement}
use Rattle.thumb_table.specs.Layouts.{Placed, chosen, all_chosen, placed, part_bytes, code_parts, data_parts, all_placed, code_bytes_of, part_of}
use Rattle.thumb_table.specs.Links.{Link, IsLink, covers, place_of}
use Rattle.thumb_table.specs.Images.{CanLink}
use Rattle.sim_images.specs.ImageLaws.{AreObjects}
use Rattle.elf_model.proofs.Elements.{contains_cases, contains_none, contains_here, contains_later, found, all_at}
use Rattle.std.proofs.lemmas.List.Elements.{Contains-append_cases}
use Rattle.elf_model.proofs.Sections.{section_facts}
use Rattle.thumb_table.proofs.PlainImages.{has_room}
use Rattle.code_ranges.proofs.ObjectFacts.{section_sound, reloc_sound}
use Rattle.sim_images.proofs.RawBytes.{AllGood, begun, begins, ends_inside, one_part}

pub sized : (s : Section) → is_section s ≡ true → length (part_bytes s) ≡ s.size
sized s h =
    elim (s.kind == nobits) as (λ (b : Bool). length s.bytes ≡ cond b 0 s.size → length (cond b (replicate s.size 0) s.bytes) ≡ s.size) [
      | true ↦ λ y. length-replicate s.size 0
      | false ↦ λ y. y
    ] (section_facts s h).long

aligned : (s : Section) → is_section s ≡ true → 0 < s.align
aligned s h = (section_facts s h).aligned

-- where a chosen part comes from
pub record IsChosen (sort : Section → Bool) (i j : ℕ) (sections : List Section) (q : Placed) : Type 0 where
  pub number : ℕ
  pub is_sort : sort q.section ≡ true
  pub object : q.object ≡ i
  pub index : q.index ≡ j + number
  pub there : slice_get sections number ≡ Some q.section

later_chosen : (sort : Section → Bool) (i j : ℕ) (s : Section) (rest : List Section) (q : Placed) → IsChosen sort i (j + 1) rest q → IsChosen sort i j (s ∷ rest) q
later_chosen sort i j s rest q h =
    let n = h.index in
    record { number = suc h.number; is_sort = h.is_sort; object = h.object; index = omega arith; there = h.there }

pub chosen_is : (sort : Section → Bool) (i j k : ℕ) (sections : List Section) (q : Placed) → Contains (chosen sort i j k sections) q → IsChosen sort i j sections q
chosen_is sort i j k [] q c = absurd (contains_none q c)
chosen_is sort i j k (s ∷ rest) q c =
    let first : Placed = record { object = i; index = j; ordinal = k; start = 0; section = s } in
    let more : List Placed = chosen sort i (j + 1) (k + 1) rest in
    elim (cases_Bool (sort s)) [
      | inl y ↦
          elim (contains_cases first more q (subst (λ (l : List Placed). Contains l q) (ap (λ (b : Bool). cond b (first ∷ more) (chosen sort i (j + 1) k rest)) y) c)) [
            | inl e ↦
                let index : j ≡ j + 0 = omega arith in
                subst (λ (z : Placed). IsChosen sort i j (s ∷ rest) z) e (record { number = 0; is_sort = y; object = refl; index = index; there = refl })
            | inr r ↦ later_chosen sort i j s rest q (chosen_is sort i (j + 1) (k + 1) rest q r)
          ]
      | inr n ↦ later_chosen sort i j s rest q (chosen_is sort i (j + 1) k rest q (subst (λ (l : List Placed). Contains l q) (ap (λ (b : Bool). cond b (first ∷ more) (chosen sort i (j + 1) k rest)) n) c))
    ]

pub record ComesFrom (sort : Section → Bool) (i : ℕ) (objects : List ObjectParts) (q : Placed) : Type 0 where
  pub number : ℕ
  pub object : ObjectParts
  pub is_sort : sort q.section ≡ true
  pub file : q.object ≡ i + number
  pub there : slice_get objects number ≡ Some object
  pub section : slice_get object.sections q.index ≡ Some q.section

pub all_chosen_is : (sort : Section → Bool) (i : ℕ) (objects : List ObjectParts) (q : Placed) → Contains (all_chosen sort i objects) q → ComesFrom sort i objects q
all_chosen_is sort i [] q c = absurd (contains_none q c)
all_chosen_is sort i (o ∷ rest) q c =
    elim (Contains-append_cases (chosen sort i 0 0 o.sections) (all_chosen sort (i + 1) rest) q c) [
      | inl a ↦
          let h = chosen_is sort i 0 0 o.sections q a in
          let file : q.object ≡ i + 0 = let e = h.object in omega arith in
          let index : h.number ≡ q.index = let e = h.index in omega arith in
          record { number = 0; object = o; is_sort = h.is_sort; file = file; there = refl; section = ap (λ (n : ℕ). slice_get o.sections n) (sym index) ∙ h.there }
      | inr b ↦
          let h = all_chosen_is sort (i + 1) rest q b in
          let file : q.object ≡ i + suc h.number = let e = h.file in omega arith in
          record { number = suc h.number; object = h.object; is_sort = h.is_sort; file = file; there = h.there; section = h.section }
    ]

-- a placed part is a chosen one with a start
pub unplaced : (alignment : Section → ℕ) (from : ℕ) (ps : List Placed) (p : Placed) → Contains (placed alignment from ps) p
    → (q : Placed) × Contains ps q × (q.section ≡ p.section) × (q.object ≡ p.object) × (q.index ≡ p.index)
unplaced alignment from [] p c = absurd (contains_none p c)
unplaced alignment from (q ∷ ps) p c =
    elim (contains_cases (begun alignment from q) (placed alignment ((begun alignment from q).start + q.section.size) ps) p c) [
      | inl e ↦ (q, contains_here q ps, ap (λ (z : Placed). z.section) e, ap (λ (z : Placed). z.object) e, ap (λ (z : Placed). z.index) e)
      | inr r ↦ let h = unplaced alignment ((begun alignment from q).start + q.section.size) ps p r in (h.0, contains_later q ps h.0 h.1, h.2, h.3, h.4)
    ]

pub comes_from : (sort : Section → Bool) (alignment : Section → ℕ) (from : ℕ) (objects : List ObjectParts) (p : Placed) → Contains (placed alignment from (all_chosen sort 0 objects)) p → ComesFrom sort 0 objects p
comes_from sort alignment from objects p c =
    let u = unplaced alignment from (all_chosen sort 0 objects) p c in
    let h = all_chosen_is sort 0 objects u.0 u.1 in
    let file : p.object ≡ 0 + h.number = let e = h.file in let f = u.3 in omega arith in
    record {
      number = h.number;
      object = h.object;
      is_sort = subst (λ (s : Section). sort s ≡ true) u.2 h.is_sort;
      file = file;
      there = h.there;
      section = ap (λ (n : ℕ). slice_get h.object.sections n) (sym u.4) ∙ (h.section ∙ ap (λ (s : Section). Some s) u.2);
    }

-- all sections that are placed have their bytes and an alignment
all_good : (sort : Section → Bool) (alignment : Section → ℕ) (objects : List ObjectParts) → AreObjects objects → ((s : Section) → is_section s ≡ true → 0 < alignment s) → AllGood alignment (all_chosen sort 0 objects)
all_good sort alignment objects sound positive p c =
    let h = all_chosen_is sort 0 objects p c in
    let s = section_sound h.object p.index p.section (all_at is_object objects h.number h.object sound h.there) h.section in
    record { positive = positive p.section s; sized = sized p.section s }

code_positive : (s : Section) → is_section s ≡ true → 0 < max 4 s.align
code_positive s h = let a = aligned s h in omega arith

pub code_good : (objects : List ObjectParts) → AreObjects objects → AllGood (λ s. max 4 s.align) (all_chosen is_code 0 objects)
code_good objects sound = all_good is_code (λ s. max 4 s.align) objects sound code_positive

pub data_good : (objects : List ObjectParts) → AreObjects objects → AllGood (λ s. s.align) (all_chosen is_data 0 objects)
data_good objects sound = all_good is_data (λ s. s.align) objects sound aligned

-- the part of a section
pub record IsPartOf (objects : List ObjectParts) (at : Placement) (i j : ℕ) (p : Placed) : Type 0 where
  pub object : ObjectParts
  pub there : slice_get objects i ≡ Some object
  pub section : slice_get object.sections j ≡ Some p.section
  pub file : p.object ≡ i
  pub index : p.index ≡ j
  pub sort : (Contains (code_parts objects at) p × (is_code p.section ≡ true)) ⊎ (Contains (data_parts objects at) p × (is_data p.section ≡ true))

pub part_is : (objects : List ObjectParts) (at : Placement) (i j : ℕ) (p : Placed) → part_of (all_placed objects at) i j ≡ Some p → IsPartOf objects at i j p
part_is objects at i j p e =
    let f = found (λ (q : Placed). (q.object == i) && (q.index == j)) (all_placed objects at) p e in
    let both = and_parts (p.object == i) (p.index == j) f.1 in
    let file : p.object ≡ i = eqb-true p.object i both.0 in
    let index : p.index ≡ j = eqb-true p.index j both.1 in
    elim (Contains-append_cases (code_parts objects at) (data_parts objects at) p f.0) [
      | inl c ↦
          let h = comes_from is_code (λ s. max 4 s.align) at.base objects p c in
          let n : h.number ≡ i = let g = h.file in omega arith in
          record {
            object = h.object;
            there = ap (λ (m : ℕ). slice_get objects m) (sym n) ∙ h.there;
            section = ap (λ (m : ℕ). slice_get h.object.sections m) (sym index) ∙ h.section;
            file = file;
            index = index;
            sort = inl (c, h.is_sort);
          }
      | inr d ↦
          let h = comes_from is_data (λ s. s.align) (at.base + at.room) objects p d in
          let n : h.number ≡ i = let g = h.file in omega arith in
          record {
            object = h.object;
            there = ap (λ (m : ℕ). slice_get objects m) (sym n) ∙ h.there;
            section = ap (λ (m : ℕ). slice_get h.object.sections m) (sym index) ∙ h.section;
            file = file;
            index = index;
            sort = inr (d, h.is_sort);
          }
    ]

-- an address is in one part
pub apart : (objects : List ObjectParts) (at : Placement) → AreObjects objects → CanLink objects at → (i j k l : ℕ) (p r : Placed) → IsPartOf objects at i j p → IsPartOf objects at k l r
    → (x y : ℕ) → x < p.section.size → y < r.section.size → p.start + x ≡ r.start + y → p ≡ r
apart objects at sound can i j k l p r a b x y lx ly e =
    let code = code_good objects sound in
    let datum = data_good objects sound in
    let fits = (has_room objects at can).code in
    elim (a.sort) [
      | inl c ↦ elim (b.sort) [
        | inl d ↦ one_part (λ s. max 4 s.align) at.base (all_chosen is_code 0 objects) code p r c.0 d.0 x y lx ly e
        | inr d ↦
            let end : p.start + p.section.size ≤ at.base + length (code_bytes_of objects at) = ends_inside (λ s. max 4 s.align) at.base (all_chosen is_code 0 objects) code p c.0 in
            let low : at.base + at.room ≤ r.start = begins (λ s. s.align) (at.base + at.room) (all_chosen is_data 0 objects) datum r d.0 in
            absurd (omega arith)
      ]
      | inr c ↦ elim (b.sort) [
        | inl d ↦
            let end : r.start + r.section.size ≤ at.base + length (code_bytes_of objects at) = ends_inside (λ s. max 4 s.align) at.base (all_chosen is_code 0 objects) code r d.0 in
            let low : at.base + at.room ≤ p.start = begins (λ s. s.align) (at.base + at.room) (all_chosen is_data 0 objects) datum p c.0 in
            absurd (omega arith)
        | inr d ↦ one_part (λ s. s.align) (at.base + at.room) (all_chosen is_data 0 objects) datum p r c.0 d.0 x y lx ly e
      ]
    ]

-- a relocation's place lies in its part
pub in_part : (objects : List ObjectParts) (at : Placement) (l : Link) → AreObjects objects → IsLink objects at l → l.reloc.offset + place_width l.reloc.kind ≤ l.part.section.size
in_part objects at l sound is =
    let h = part_is objects at l.file l.reloc.section l.part is.part in
    let same : h.object ≡ l.object = same_Some h.object l.object (sym h.there ∙ is.object) in
    let there : slice_get l.object.sections l.reloc.section ≡ Some l.part.section = subst (λ (o : ObjectParts). slice_get o.sections l.reloc.section ≡ Some l.part.section) same h.section in
    let ok = reloc_sound l.object l.number l.reloc (all_at is_object objects l.file l.object sound is.object) is.reloc in
    let a = and_parts (is_placed l.reloc (slice_get l.object.sections l.reloc.section) && is_kind l.reloc.kind) (nat_lt l.reloc.symbol (length l.object.symbols)) ok in
    let b = and_parts (is_placed l.reloc (slice_get l.object.sections l.reloc.section)) (is_kind l.reloc.kind) a.0 in
    let c : is_placed l.reloc (Some l.part.section) ≡ true = subst (λ (s : Option Section). is_placed l.reloc s ≡ true) there b.0 in
    leb-true (l.reloc.offset + place_width l.reloc.kind) l.part.section.size (and_parts (not (l.part.section.kind == nobits)) (nat_le (l.reloc.offset + place_width l.reloc.kind) l.part.section.size) c).1

-- a byte of a part that none of its own relocations has is free
pub is_free : (objects : List ObjectParts) (at : Placement) → AreObjects objects → CanLink objects at → (i j : ℕ) (p : Placed) → IsPartOf objects at i j p
    → (x : ℕ) → x < p.section.size → ((l : Link) → IsLink objects at l → l.file ≡ i → l.reloc.section ≡ j → covers (p.start + x) l ≡ false)
    → (l : Link) → IsLink objects at l → covers (p.start + x) l ≡ false
is_free objects at sound can i j p part x lx own l is =
    elim (cases_Bool (covers (p.start + x) l)) [
      | inl y ↦
          let parts = and_parts (nat_le (place_of l) (p.start + x)) (nat_lt (p.start + x) (place_of l + place_width l.reloc.kind)) y in
          let low : place_of l ≤ p.start + x = leb-true (place_of l) (p.start + x) parts.0 in
          let high : p.start + x < place_of l + place_width l.reloc.kind = ltb-true (p.start + x) (place_of l + place_width l.reloc.kind) parts.1 in
          let inside = in_part objects at l sound is in
          let its = part_is objects at l.file l.reloc.section l.part is.part in
          let ly : p.start + x - l.part.start < l.part.section.size = omega arith in
          let e : p.start + x ≡ l.part.start + (p.start + x - l.part.start) = omega arith in
          let same : p ≡ l.part = apart objects at sound can i j l.file l.reloc.section p l.part part its x (p.start + x - l.part.start) lx ly e in
          let file : l.file ≡ i = sym its.file ∙ (sym (ap (λ (z : Placed). z.object) same) ∙ part.file) in
          let section : l.reloc.section ≡ j = sym its.index ∙ (sym (ap (λ (z : Placed). z.index) same) ∙ part.index) in
          own l is file section
      | inr n ↦ n
    ]
