-- Parts of a list of objects: where they come from, that they lie apart, and that relocations stay in their own part.
use Rattle.std.specs.Prelude.{◌≡◌, ◌<◌, ◌⊎◌, ℕ, zero, suc, ◌+◌, ◌==◌, ◌&&◌, ◌||◌, max, Bool, true, cond, List, [], ◌∷◌, Some, slice_get, Contains, refl}
use Rattle.std.proofs.Common.{arith, inl, inr, ap, sym, ◌∙◌, subst}
use Rattle.std.proofs.lemmas.Bool.{cases_Bool, and_parts, and_from, or_cases, eq-eqb, eqb-true}
use Rattle.std.proofs.lemmas.Option.{none-some, same_Some}
use Rattle.std.proofs.lemmas.List.Elements.{Contains-append_cases, Contains-append_left, Contains-append_right}
use Rattle.elf_model.specs.declared.objects.Section.{Section}
use Rattle.elf_model.specs.declared.objects.Reloc.{Reloc}
use Rattle.elf_model.specs.Objects.{ObjectParts, is_object, is_section, is_reloc, is_code, is_data}
use Rattle.thumb_table.specs.declared.placements.Placement.{Placement}
use Rattle.thumb_table.specs.Layouts.{Placed, chosen, all_chosen, placed, code_parts, data_parts, all_placed, part_of}
use Rattle.flat_link.specs.Layout.{AreObjects}
use Rattle.elf_model.proofs.Elements.{contains_cases, contains_none}
use Rattle.elf_model.proofs.Elements.{contains_here, contains_later, found, finds, all_at}
use Rattle.flat_link.proofs.SectionFacts.{aligned, sized}
use Rattle.flat_link.proofs.RawBytes.{AllGood, begun}

pub section_sound : (o : ObjectParts) (j : ℕ) (s : Section) → is_object o ≡ true → slice_get o.sections j ≡ Some s → is_section s ≡ true
section_sound o j s h at =
    let a = and_parts _ _ h in
    let b = and_parts _ _ a.0 in
    let c = and_parts _ _ b.0 in
    let d = and_parts _ _ c.0 in
    let e = and_parts _ _ d.0 in
    all_at is_section o.sections j s e.0 at

pub reloc_sound : (o : ObjectParts) (k : ℕ) (r : Reloc) → is_object o ≡ true → slice_get o.relocs k ≡ Some r → is_reloc o.sections o.symbols r ≡ true
reloc_sound o k r sound at =
    let a = and_parts _ _ sound in
    let b = and_parts _ _ a.0 in
    all_at (is_reloc o.sections o.symbols) o.relocs k r (and_parts _ _ b.0).1 at

-- where a chosen part comes from
pub record IsChosen (sort : Section → Bool) (i j : ℕ) (sections : List Section) (q : Placed) : Type 0 where
  pub number : ℕ
  pub is_sort : sort q.section ≡ true
  pub object : q.object ≡ i
  pub index : q.index ≡ j + number
  pub there : slice_get sections number ≡ Some q.section

later_chosen : (sort : Section → Bool) (i j : ℕ) (s : Section) (rest : List Section) (q : Placed) → IsChosen sort i (j + 1) rest q → IsChosen sort i j (s ∷ rest) q
later_chosen sort i j s rest q h =
    let n = h.index in
    record { number = suc h.number; is_sort = h.is_sort; object = h.object; index = omega arith; there = h.there }

pub chosen_is : (sort : Section → Bool) (i j k : ℕ) (sections : List Section) (q : Placed) → Contains (chosen sort i j k sections) q → IsChosen sort i j sections q
chosen_is sort i j k [] q c = absurd (contains_none q c)
chosen_is sort i j k (s ∷ rest) q c =
    let first : Placed = record { object = i; index = j; ordinal = k; start = 0; section = s } in
    let more : List Placed = chosen sort i (j + 1) (k + 1) rest in
    elim (cases_Bool (sort s)) [
      | inl y ↦
          elim (contains_cases first more q (subst (λ (l : List Placed). Contains l q) (ap (λ (b : Bool). cond b (first ∷ more) (chosen sort i (j + 1) k rest)) y) c)) [
            | inl e ↦
                let index : j ≡ j + 0 = omega arith in
                subst (λ (z : Placed). IsChosen sort i j (s ∷ rest) z) e (record { number = 0; is_sort = y; object = refl; index = index; there = refl })
            | inr r ↦ later_chosen sort i j s rest q (chosen_is sort i (j + 1) (k + 1) rest q r)
          ]
      | inr n ↦ later_chosen sort i j s rest q (chosen_is sort i (j + 1) k rest q (subst (λ (l : List Placed). Contains l q) (ap (λ (b : Bool). cond b (first ∷ more) (chosen sort i (j + 1) k rest)) n) c))
    ]

pub record ComesFrom (sort : Section → Bool) (i : ℕ) (objects : List ObjectParts) (q : Placed) : Type 0 where
  pub number : ℕ
  pub object : ObjectParts
  pub is_sort : sort q.section ≡ true
  pub file : q.object ≡ i + number
  pub there : slice_get objects number ≡ Some object
  pub section : slice_get object.sections q.index ≡ Some q.section

pub all_chosen_is : (sort : Section → Bool) (i : ℕ) (objects : List ObjectParts) (q : Placed) → Contains (all_chosen sort i objects) q → ComesFrom sort i objects q
all_chosen_is sort i [] q c = absurd (contains_none q c)
all_chosen_is sort i (o ∷ rest) q c =
    elim (Contains-append_cases (chosen sort i 0 0 o.sections) (all_chosen sort (i + 1) rest) q c) [
      | inl a ↦
          let h = chosen_is sort i 0 0 o.sections q a in
          let file : q.object ≡ i + 0 = let e = h.object in omega arith in
          let index : h.number ≡ q.index = let e = h.index in omega arith in
          record { number = 0; object = o; is_sort = h.is_sort; file = file; there = refl; section = ap (λ (n : ℕ). slice_get o.sections n) (sym index) ∙ h.there }
      | inr b ↦
          let h = all_chosen_is sort (i + 1) rest q b in
          let file : q.object ≡ i + suc h.number = let e = h.file in omega arith in
          record { number = suc h.number; object = h.object; is_sort = h.is_sort; file = file; there = h.there; section = h.section }
    ]

-- a placed part is a chosen one with a start
pub unplaced : (alignment : Section → ℕ) (from : ℕ) (ps : List Placed) (p : Placed) → Contains (placed alignment from ps) p
    → (q : Placed) × Contains ps q × (q.section ≡ p.section) × (q.object ≡ p.object) × (q.index ≡ p.index)
unplaced alignment from [] p c = absurd (contains_none p c)
unplaced alignment from (q ∷ ps) p c =
    elim (contains_cases (begun alignment from q) (placed alignment ((begun alignment from q).start + q.section.size) ps) p c) [
      | inl e ↦ (q, contains_here q ps, ap (λ (z : Placed). z.section) e, ap (λ (z : Placed). z.object) e, ap (λ (z : Placed). z.index) e)
      | inr r ↦ let h = unplaced alignment ((begun alignment from q).start + q.section.size) ps p r in (h.0, contains_later q ps h.0 h.1, h.2, h.3, h.4)
    ]

pub comes_from : (sort : Section → Bool) (alignment : Section → ℕ) (from : ℕ) (objects : List ObjectParts) (p : Placed) → Contains (placed alignment from (all_chosen sort 0 objects)) p → ComesFrom sort 0 objects p
comes_from sort alignment from objects p c =
    let u = unplaced alignment from (all_chosen sort 0 objects) p c in
    let h = all_chosen_is sort 0 objects u.0 u.1 in
    let file : p.object ≡ 0 + h.number = let e = h.file in let f = u.3 in omega arith in
    record {
      number = h.number;
      object = h.object;
      is_sort = subst (λ (s : Section). sort s ≡ true) u.2 h.is_sort;
      file = file;
      there = h.there;
      section = ap (λ (n : ℕ). slice_get h.object.sections n) (sym u.4) ∙ (h.section ∙ ap (λ (s : Section). Some s) u.2);
    }

-- all sections that are placed have their bytes and an alignment
all_good : (sort : Section → Bool) (alignment : Section → ℕ) (objects : List ObjectParts) → AreObjects objects → ((s : Section) → is_section s ≡ true → 0 < alignment s) → AllGood alignment (all_chosen sort 0 objects)
all_good sort alignment objects sound positive p c =
    let h = all_chosen_is sort 0 objects p c in
    let s = section_sound h.object p.index p.section (all_at is_object objects h.number h.object sound h.there) h.section in
    record { positive = positive p.section s; sized = sized p.section s }

code_positive : (s : Section) → is_section s ≡ true → 0 < max 4 s.align
code_positive s h = let a = (aligned s h).0 in omega arith

pub code_good : (objects : List ObjectParts) → AreObjects objects → AllGood (λ s. max 4 s.align) (all_chosen is_code 0 objects)
code_good objects sound = all_good is_code (λ s. max 4 s.align) objects sound code_positive

pub data_good : (objects : List ObjectParts) → AreObjects objects → AllGood (λ s. s.align) (all_chosen is_data 0 objects)
data_good objects sound = all_good is_data (λ s. s.align) objects sound (λ s h. (aligned s h).0)

-- the part of a section
pub record Here (objects : List ObjectParts) (at : Placement) (i : ℕ) (o : ObjectParts) (j : ℕ) (p : Placed) : Type 0 where
  pub object : slice_get objects i ≡ Some o
  pub section : slice_get o.sections j ≡ Some p.section
  pub part : part_of (all_placed objects at) i j ≡ Some p

pub record IsPartOf (objects : List ObjectParts) (at : Placement) (i j : ℕ) (p : Placed) : Type 0 where
  pub object : ObjectParts
  pub there : slice_get objects i ≡ Some object
  pub section : slice_get object.sections j ≡ Some p.section
  pub file : p.object ≡ i
  pub index : p.index ≡ j
  pub sort : (Contains (code_parts objects at) p × (is_code p.section ≡ true)) ⊎ (Contains (data_parts objects at) p × (is_data p.section ≡ true))

pub part_is : (objects : List ObjectParts) (at : Placement) (i j : ℕ) (p : Placed) → part_of (all_placed objects at) i j ≡ Some p → IsPartOf objects at i j p
part_is objects at i j p e =
    let f = found (λ (q : Placed). (q.object == i) && (q.index == j)) (all_placed objects at) p e in
    let both = and_parts (p.object == i) (p.index == j) f.1 in
    let file : p.object ≡ i = eqb-true p.object i both.0 in
    let index : p.index ≡ j = eqb-true p.index j both.1 in
    elim (Contains-append_cases (code_parts objects at) (data_parts objects at) p f.0) [
      | inl c ↦
          let h = comes_from is_code (λ s. max 4 s.align) at.base objects p c in
          let n : h.number ≡ i = let g = h.file in omega arith in
          record {
            object = h.object;
            there = ap (λ (m : ℕ). slice_get objects m) (sym n) ∙ h.there;
            section = ap (λ (m : ℕ). slice_get h.object.sections m) (sym index) ∙ h.section;
            file = file;
            index = index;
            sort = inl (c, h.is_sort);
          }
      | inr d ↦
          let h = comes_from is_data (λ s. s.align) (at.base + at.room) objects p d in
          let n : h.number ≡ i = let g = h.file in omega arith in
          record {
            object = h.object;
            there = ap (λ (m : ℕ). slice_get objects m) (sym n) ∙ h.there;
            section = ap (λ (m : ℕ). slice_get h.object.sections m) (sym index) ∙ h.section;
            file = file;
            index = index;
            sort = inr (d, h.is_sort);
          }
    ]

-- a part of that object and section is among these
record Among (ps : List Placed) (i j : ℕ) : Type 0 where
  pub part : Placed
  pub there : Contains ps part
  pub file : part.object ≡ i
  pub index : part.index ≡ j

chosen_has : (sort : Section → Bool) (i j k : ℕ) (sections : List Section) (m : ℕ) (s : Section) → slice_get sections m ≡ Some s → sort s ≡ true → Among (chosen sort i j k sections) i (j + m)
chosen_has sort i j k [] m s e y = absurd (none-some s e)
chosen_has sort i j k (t ∷ rest) zero s e y =
    let first : Placed = record { object = i; index = j; ordinal = k; start = 0; section = t } in
    let more : List Placed = chosen sort i (j + 1) (k + 1) rest in
    let is_sort : sort t ≡ true = subst (λ (z : Section). sort z ≡ true) (sym (same_Some t s e)) y in
    let index : j ≡ j + 0 = omega arith in
    record {
      part = first;
      there = subst (λ (l : List Placed). Contains l first) (sym (ap (λ (b : Bool). cond b (first ∷ more) (chosen sort i (j + 1) k rest)) is_sort)) (contains_here first more);
      file = refl;
      index = index;
    }
chosen_has sort i j k (t ∷ rest) (suc m) s e y =
    let first : Placed = record { object = i; index = j; ordinal = k; start = 0; section = t } in
    let more : List Placed = chosen sort i (j + 1) (k + 1) rest in
    elim (cases_Bool (sort t)) [
      | inl a ↦
          let h = chosen_has sort i (j + 1) (k + 1) rest m s e y in
          let index : h.part.index ≡ j + suc m = let n = h.index in omega arith in
          record {
            part = h.part;
            there = subst (λ (l : List Placed). Contains l h.part) (sym (ap (λ (b : Bool). cond b (first ∷ more) (chosen sort i (j + 1) k rest)) a)) (contains_later first more h.part h.there);
            file = h.file;
            index = index;
          }
      | inr f ↦
          let h = chosen_has sort i (j + 1) k rest m s e y in
          let index : h.part.index ≡ j + suc m = let n = h.index in omega arith in
          record {
            part = h.part;
            there = subst (λ (l : List Placed). Contains l h.part) (sym (ap (λ (b : Bool). cond b (first ∷ more) (chosen sort i (j + 1) k rest)) f)) h.there;
            file = h.file;
            index = index;
          }
    ]

all_chosen_has : (sort : Section → Bool) (i : ℕ) (objects : List ObjectParts) (n j : ℕ) (o : ObjectParts) (s : Section) → slice_get objects n ≡ Some o → slice_get o.sections j ≡ Some s → sort s ≡ true
    → Among (all_chosen sort i objects) (i + n) j
all_chosen_has sort i [] n j o s e f y = absurd (none-some o e)
all_chosen_has sort i (q ∷ rest) zero j o s e f y =
    let h = chosen_has sort i 0 0 q.sections j s (subst (λ (z : ObjectParts). slice_get z.sections j ≡ Some s) (sym (same_Some q o e)) f) y in
    let file : h.part.object ≡ i + 0 = let a = h.file in omega arith in
    let index : h.part.index ≡ j = let a = h.index in omega arith in
    record { part = h.part; there = Contains-append_left (chosen sort i 0 0 q.sections) (all_chosen sort (i + 1) rest) h.part h.there; file = file; index = index }
all_chosen_has sort i (q ∷ rest) (suc n) j o s e f y =
    let h = all_chosen_has sort (i + 1) rest n j o s e f y in
    let file : h.part.object ≡ i + suc n = let a = h.file in omega arith in
    record { part = h.part; there = Contains-append_right (chosen sort i 0 0 q.sections) (all_chosen sort (i + 1) rest) h.part h.there; file = file; index = h.index }

placed_has : (alignment : Section → ℕ) (from : ℕ) (ps : List Placed) (i j : ℕ) (q : Placed) → Contains ps q → q.object ≡ i → q.index ≡ j → Among (placed alignment from ps) i j
placed_has alignment from [] i j q c e f = absurd (contains_none q c)
placed_has alignment from (p ∷ ps) i j q c e f =
    let first : Placed = begun alignment from p in
    let more : List Placed = placed alignment (first.start + p.section.size) ps in
    elim (contains_cases p ps q c) [
      | inl same ↦ record { part = first; there = contains_here first more; file = ap (λ (z : Placed). z.object) same ∙ e; index = ap (λ (z : Placed). z.index) same ∙ f }
      | inr r ↦
          let h = placed_has alignment (first.start + p.section.size) ps i j q r e f in
          record { part = h.part; there = contains_later first more h.part h.there; file = h.file; index = h.index }
    ]

pub has_part : (objects : List ObjectParts) (at : Placement) (i j : ℕ) (o : ObjectParts) (s : Section) → slice_get objects i ≡ Some o → slice_get o.sections j ≡ Some s
    → (is_code s || is_data s) ≡ true → (p : Placed) × Here objects at i o j p
has_part objects at i j o s e f sort =
    elim (or_cases (is_code s) (is_data s) sort) [
      | inl y ↦
          let a = all_chosen_has is_code 0 objects i j o s e f y in
          let file : a.part.object ≡ i = let b = a.file in omega arith in
          let b = placed_has (λ t. max 4 t.align) at.base (all_chosen is_code 0 objects) i j a.part a.there file a.index in
          made b.part (Contains-append_left (code_parts objects at) (data_parts objects at) b.part b.there) b.file b.index
      | inr y ↦
          let a = all_chosen_has is_data 0 objects i j o s e f y in
          let file : a.part.object ≡ i = let b = a.file in omega arith in
          let b = placed_has (λ t. t.align) (at.base + at.room) (all_chosen is_data 0 objects) i j a.part a.there file a.index in
          made b.part (Contains-append_right (code_parts objects at) (data_parts objects at) b.part b.there) b.file b.index
    ]
  where
    made : (p : Placed) → Contains (all_placed objects at) p → p.object ≡ i → p.index ≡ j → (q : Placed) × Here objects at i o j q
    made p c file index =
        let g = finds (λ (q : Placed). (q.object == i) && (q.index == j)) (all_placed objects at) p c (and_from (p.object == i) (p.index == j) (eq-eqb p.object i file) (eq-eqb p.index j index)) in
        let h = part_is objects at i j g.0 g.1 in
        let one : h.object ≡ o = same_Some h.object o (sym h.there ∙ e) in
        (g.0, record { object = e; section = subst (λ (z : ObjectParts). slice_get z.sections j ≡ Some g.0.section) one h.section; part = g.1 })
