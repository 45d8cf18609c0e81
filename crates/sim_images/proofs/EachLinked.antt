-- Each section of memory has its part, and each relocation of an image is a link in range.
use Rattle.std.specs.Prelude.{◌≡◌, ◌<◌, ℕ, zero, suc, ◌+◌, ◌==◌, nat_lt, ◌&&◌, ◌||◌, max, Bool, true, false, cond, List, [], ◌∷◌, length, Option, Some, None, slice_get, Contains, refl}
use Rattle.std.proofs.Common.{arith, inl, inr, ap, sym, ◌∙◌, subst}
use Rattle.std.proofs.lemmas.Bool.{cases_Bool, cases_lt, and_parts, and_from, or_cases, eq-eqb, ltb-true}
use Rattle.std.proofs.lemmas.Option.{none-some, same_Some}
use Rattle.elf_model.specs.declared.objects.Section.{Section}
use Rattle.elf_model.specs.declared.objects.Symbol.{Symbol}
use Rattle.elf_model.specs.declared.objects.Reloc.{Reloc}
use Rattle.elf_model.specs.Objects.{ObjectParts, is_object, is_code, is_data, is_placed, is_kind}
use Rattle.thumb_table.specs.declared.placements.Placement.{Placement}
use Rattle.reloc_places.specs.Relocations.{IsPlace, in_data, in_code, on_instr}
use Rattle.thumb_table.specs.Layouts.{Placed, chosen, all_chosen, placed, code_parts, data_parts, all_placed}
use Rattle.thumb_table.specs.Names.{Defined, meant}
use Rattle.thumb_table.specs.Links.{Link, IsLink, is_in_range}
use Rattle.thumb_table.specs.LinkFaults.{IsReloc, NamesNothing, undefined, out_of_range}
use Rattle.thumb_table.specs.Images.{CanLink}
use Rattle.sim_images.specs.ImageLaws.{AreObjects, Here, HasPart, Linked, EachLinked}
use Rattle.elf_model.proofs.Elements.{contains_cases, contains_none, contains_here, contains_later, all_at, finds, element_at}
use Rattle.std.proofs.lemmas.List.Elements.{Contains-append_left, Contains-append_right}
use Rattle.sim_images.proofs.PartFacts.{part_is}
use Rattle.code_ranges.proofs.ObjectFacts.{reloc_sound}
use Rattle.sim_images.proofs.RawBytes.{begun}

-- a part of that object and section is among these
record Among (ps : List Placed) (i j : ℕ) : Type 0 where
  pub part : Placed
  pub there : Contains ps part
  pub file : part.object ≡ i
  pub index : part.index ≡ j

chosen_has : (sort : Section → Bool) (i j k : ℕ) (sections : List Section) (m : ℕ) (s : Section) → slice_get sections m ≡ Some s → sort s ≡ true → Among (chosen sort i j k sections) i (j + m)
chosen_has sort i j k [] m s e y = absurd (none-some s e)
chosen_has sort i j k (t ∷ rest) zero s e y =
    let first : Placed = record { object = i; index = j; ordinal = k; start = 0; section = t } in
    let more : List Placed = chosen sort i (j + 1) (k + 1) rest in
    let is_sort : sort t ≡ true = subst (λ (z : Section). sort z ≡ true) (sym (same_Some t s e)) y in
    let index : j ≡ j + 0 = omega arith in
    record {
      part = first;
      there = subst (λ (l : List Placed). Contains l first) (sym (ap (λ (b : Bool). cond b (first ∷ more) (chosen sort i (j + 1) k rest)) is_sort)) (contains_here first more);
      file = refl;
      index = index;
    }
chosen_has sort i j k (t ∷ rest) (suc m) s e y =
    let first : Placed = record { object = i; index = j; ordinal = k; start = 0; section = t } in
    let more : List Placed = chosen sort i (j + 1) (k + 1) rest in
    elim (cases_Bool (sort t)) [
      | inl a ↦
          let h = chosen_has sort i (j + 1) (k + 1) rest m s e y in
          let index : h.part.index ≡ j + suc m = let n = h.index in omega arith in
          record {
            part = h.part;
            there = subst (λ (l : List Placed). Contains l h.part) (sym (ap (λ (b : Bool). cond b (first ∷ more) (chosen sort i (j + 1) k rest)) a)) (contains_later first more h.part h.there);
            file = h.file;
            index = index;
          }
      | inr f ↦
          let h = chosen_has sort i (j + 1) k rest m s e y in
          let index : h.part.index ≡ j + suc m = let n = h.index in omega arith in
          record {
            part = h.part;
            there = subst (λ (l : List Placed). Contains l h.part) (sym (ap (λ (b : Bool). cond b (first ∷ more) (chosen sort i (j + 1) k rest)) f)) h.there;
            file = h.file;
            index = index;
          }
    ]

all_chosen_has : (sort : Section → Bool) (i : ℕ) (objects : List ObjectParts) (n j : ℕ) (o : ObjectParts) (s : Section) → slice_get objects n ≡ Some o → slice_get o.sections j ≡ Some s → sort s ≡ true
    → Among (all_chosen sort i objects) (i + n) j
all_chosen_has sort i [] n j o s e f y = absurd (none-some o e)
all_chosen_has sort i (q ∷ rest) zero j o s e f y =
    let h = chosen_has sort i 0 0 q.sections j s (subst (λ (z : ObjectParts). slice_get z.sections j ≡ Some s) (sym (same_Some q o e)) f) y in
    let file : h.part.object ≡ i + 0 = let a = h.file in omega arith in
    let index : h.part.index ≡ j = let a = h.index in omega arith in
    record { part = h.part; there = Contains-append_left (chosen sort i 0 0 q.sections) (all_chosen sort (i + 1) rest) h.part h.there; file = file; index = index }
all_chosen_has sort i (q ∷ rest) (suc n) j o s e f y =
    let h = all_chosen_has sort (i + 1) rest n j o s e f y in
    let file : h.part.object ≡ i + suc n = let a = h.file in omega arith in
    record { part = h.part; there = Contains-append_right (chosen sort i 0 0 q.sections) (all_chosen sort (i + 1) rest) h.part h.there; file = file; index = h.index }

placed_has : (alignment : Section → ℕ) (from : ℕ) (ps : List Placed) (i j : ℕ) (q : Placed) → Contains ps q → q.object ≡ i → q.index ≡ j → Among (placed alignment from ps) i j
placed_has alignment from [] i j q c e f = absurd (contains_none q c)
placed_has alignment from (p ∷ ps) i j q c e f =
    let first : Placed = begun alignment from p in
    let more : List Placed = placed alignment (first.start + p.section.size) ps in
    elim (contains_cases p ps q c) [
      | inl same ↦ record { part = first; there = contains_here first more; file = ap (λ (z : Placed). z.object) same ∙ e; index = ap (λ (z : Placed). z.index) same ∙ f }
      | inr r ↦
          let h = placed_has alignment (first.start + p.section.size) ps i j q r e f in
          record { part = h.part; there = contains_later first more h.part h.there; file = h.file; index = h.index }
    ]

pub has_part : HasPart
has_part objects at i j o s e f sort =
    elim (or_cases (is_code s) (is_data s) sort) [
      | inl y ↦
          let a = all_chosen_has is_code 0 objects i j o s e f y in
          let file : a.part.object ≡ i = let b = a.file in omega arith in
          let b = placed_has (λ t. max 4 t.align) at.base (all_chosen is_code 0 objects) i j a.part a.there file a.index in
          made b.part (Contains-append_left (code_parts objects at) (data_parts objects at) b.part b.there) b.file b.index
      | inr y ↦
          let a = all_chosen_has is_data 0 objects i j o s e f y in
          let file : a.part.object ≡ i = let b = a.file in omega arith in
          let b = placed_has (λ t. t.align) (at.base + at.room) (all_chosen is_data 0 objects) i j a.part a.there file a.index in
          made b.part (Contains-append_right (code_parts objects at) (data_parts objects at) b.part b.there) b.file b.index
    ]
  where
    made : (p : Placed) → Contains (all_placed objects at) p → p.object ≡ i → p.index ≡ j → (q : Placed) × Here objects at i o j q
    made p c file index =
        let g = finds (λ (q : Placed). (q.object == i) && (q.index == j)) (all_placed objects at) p c (and_from (p.object == i) (p.index == j) (eq-eqb p.object i file) (eq-eqb p.index j index)) in
        let h = part_is objects at i j g.0 g.1 in
        let one : h.object ≡ o = same_Some h.object o (sym h.there ∙ e) in
        (g.0, record { object = e; section = subst (λ (z : ObjectParts). slice_get z.sections j ≡ Some g.0.section) one h.section; part = g.1 })

-- no relocation names nothing: the first one in its section would be a fault
pub named : (objects : List ObjectParts) (at : Placement) → CanLink objects at → (i n k : ℕ) (r : Reloc) → k < n → NamesNothing objects i k r → ⊥
named objects at can i zero k r lt nothing = omega arith
named objects at can i (suc n) k r lt nothing =
    can.sound _ (undefined i k r nothing (λ h q other same.
    elim (cases_lt h k) [
      | inl under ↦ let less : h < n = omega arith in absurd (named objects at can i n h q less other)
      | inr over ↦ over
    ]))

-- a right relocation stands in memory
pub its_section : (o : ObjectParts) (r : Reloc) → IsPlace o r → (s : Section) × (slice_get o.sections r.section ≡ Some s) × ((is_code s || is_data s) ≡ true)
its_section o r (in_data s there datum word) = (s, there, elim (is_code s) as (λ (b : Bool). (b || is_data s) ≡ true) [ true ↦ refl | false ↦ datum ])
its_section o r (in_code word w) = (w.range.section, w.range.is_there, ap (λ (b : Bool). b || is_data w.range.section) w.range.in_code)
its_section o r (on_instr end i start given fits) = (start.range.section, start.range.is_there, ap (λ (b : Bool). b || is_data start.range.section) start.range.in_code)

-- each relocation of a list that can be linked
pub linked_at : (objects : List ObjectParts) (at : Placement) → AreObjects objects → CanLink objects at → (i k : ℕ) (o : ObjectParts) (r : Reloc) → IsReloc objects i k o r → Linked objects at i k o r
linked_at objects at sound can i k o r there =
    let right = can.right i k o r there in
    let s = its_section o r right.place in
    let p = has_part objects at i r.section o s.0 there.object s.1 s.2 in
    let ok = reloc_sound o k r (all_at is_object objects i o sound there.object) there.reloc in
    let low = ltb-true r.symbol (length o.symbols) (and_parts (is_placed r (slice_get o.sections r.section) && is_kind r.kind) (nat_lt r.symbol (length o.symbols)) ok).1 in
    let y = element_at o.symbols r.symbol low in
    go p.0 p.1 y.0 y.1 (meant objects i r.symbol y.0) refl
  where
    go : (p : Placed) → Here objects at i o r.section p → (y : Symbol) → slice_get o.symbols r.symbol ≡ Some y → (d : Option Defined) → meant objects i r.symbol y ≡ d → Linked objects at i k o r
    go p here y symbol None e = absurd (named objects at can i (suc k) k r (omega arith) (record { object = o; symbol = y; there = there; names = symbol; nothing = e }))
    go p here y symbol (Some d) e =
        let l : Link = record { file = i; object = o; number = k; reloc = r; part = p; symbol = y; meant = d } in
        let link : IsLink objects at l = record { object = there.object; reloc = there.reloc; part = here.part; symbol = symbol; meant = e } in
        elim (cases_Bool (is_in_range (all_placed objects at) l)) [
          | inl t ↦ record { link = l; is_link = link; file = refl; number = refl; range = t }
          | inr f ↦ absurd (can.sound _ (out_of_range l link f))
        ]

pub each_linked : EachLinked
each_linked objects at image sound is = linked_at objects at sound is.can
