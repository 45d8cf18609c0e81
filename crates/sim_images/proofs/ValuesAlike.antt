-- What two links come to: one number, or a point's address and its place.
use Rattle.std.specs.Prelude.{◌≡◌, ◌<◌, ◌≤◌, ℕ, ◌+◌, ◌-◌, ◌%◌, ◌^◌, ◌==◌, nat_le, nat_lt, ◌&&◌, ◌||◌, not, Bool, true, false, cond, max, List, length, Option, Some, None, slice_get, refl, if◌then◌else◌}
use Rattle.std.proofs.Common.{arith, inl, inr, ap, sym, ◌∙◌, subst}
use Rattle.std.proofs.lemmas.Bool.{cases_Bool, both_ways, and_parts, and_from, or_cases, not-true, not-false, eqb-true, eq-eqb, cond-true, cond-false}
use Rattle.std.proofs.lemmas.Option.{same_Some}
use Rattle.elf_model.specs.declared.objects.Section.{Section}
use Rattle.elf_model.specs.declared.objects.Symbol.{Symbol}
use Rattle.elf_model.specs.declared.objects.Home.{Home}
use Rattle.elf_model.specs.declared.objects.Home.TheVariants as homes
use Rattle.elf_model.specs.Constants.{local, func}
use Rattle.elf_model.specs.Objects.{ObjectParts, is_code, even}
use Rattle.thumb_table.specs.declared.placements.Placement.{Placement}
use Rattle.reloc_places.specs.Starts.{bytes_of, bytes_in}
use Rattle.reloc_places.specs.Relocations.{is_jump, addend, is_in_code as has_code}
use Rattle.code_ranges.specs.CodeRanges.{holds_code}
use Rattle.thumb_table.specs.Layouts.{Placed, IsPlacement, all_placed, all_chosen, part_of, home_part, code_bytes_of}
use Rattle.thumb_table.specs.Names.{Defined, is_defined, resolved, is_in_code}
use Rattle.thumb_table.specs.Links.{Link, IsLink, leads_to_code, addend_of, full, target_of as linked_target, is_other, is_straight, is_in_range, can_branch, is_thumb_address, has_address, is_reached, reach, offset_of}
use Rattle.thumb_table.specs.LinkFaults.{out_of_range}
use Rattle.thumb_table.specs.Images.{CanLink}
use Rattle.sim_images.specs.ImageLaws.{AreObjects, Here}
use Rattle.sim_images.specs.Counterparts.{zero_addend}
use Rattle.sim_images.proofs.RawBytes.{ends_inside}
use Rattle.sim_images.proofs.PartFacts.{part_is, code_good}
use Rattle.sim_images.proofs.ImageFacts.{is_code_part}
use Rattle.sim_images.proofs.Alignments.{code_aligned}
use Rattle.sim_images.proofs.Meant.{meant_stands}
use Rattle.sim_images.proofs.LinkNumbers.{own_value, own_target, in_code}

-- what a placement leaves for code
pub record Room (objects : List ObjectParts) (at : Placement) : Type 0 where
  pub low : at.base + at.room ≤ 0x7FFFF000
  pub fits : length (code_bytes_of objects at) ≤ at.room

pub inside_room : (objects : List ObjectParts) (at : Placement) → AreObjects objects → IsPlacement at → Room objects at → (i j : ℕ) (o : ObjectParts) (p : Placed) → Here objects at i o j p → is_code p.section ≡ true
    → (p.start % 4 ≡ 0) × (p.start + p.section.size ≤ 0x7FFFF000)
inside_room objects at sound placement room i j o p here code =
    let c = is_code_part objects at i j p (part_is objects at i j p here.part) code in
    let high : p.start + p.section.size ≤ at.base + length (code_bytes_of objects at) = ends_inside (λ s. max 4 s.align) at.base (all_chosen is_code 0 objects) (code_good objects sound) p c in
    let low : at.base + at.room ≤ 0x7FFFF000 = room.low in
    let fits : length (code_bytes_of objects at) ≤ at.room = room.fits in
    (code_aligned objects at sound placement i j o p here code, omega arith)

-- a relocation's addend, of its section's bytes
pub addend_is : (objects : List ObjectParts) (at : Placement) (l : Link) → IsLink objects at l → addend_of l ≡ addend (bytes_of l.object l.reloc.section) l.reloc
addend_is objects at l is =
    let h = part_is objects at l.file l.reloc.section l.part is.part in
    let same : h.object ≡ l.object = same_Some h.object l.object (sym h.there ∙ is.object) in
    let there : slice_get l.object.sections l.reloc.section ≡ Some l.part.section = subst (λ (o : ObjectParts). slice_get o.sections l.reloc.section ≡ Some l.part.section) same h.section in
    sym (ap (λ (z : Option Section). addend (bytes_in z) l.reloc) there)

-- a link in range of a list that can be linked
pub ranged : (objects : List ObjectParts) (at : Placement) → CanLink objects at → (l : Link) → IsLink objects at l → is_in_range (all_placed objects at) l ≡ true
ranged objects at can l is =
    elim (cases_Bool (is_in_range (all_placed objects at) l)) [ inl y ↦ y | inr n ↦ absurd (can.sound _ (out_of_range l is n)) ]

-- a symbol that stands for itself
pub record Itself (l : Link) : Type 0 where
  pub file : l.meant.object ≡ l.file
  pub number : l.meant.index ≡ l.reloc.symbol
  pub symbol : l.meant.symbol ≡ l.symbol

pub itself : (objects : List ObjectParts) (at : Placement) (l : Link) → IsLink objects at l → is_other l ≡ false → Itself l
itself objects at l is own =
    let p = and_parts (l.meant.object == l.file) (l.meant.index == l.reloc.symbol) (not-false ((l.meant.object == l.file) && (l.meant.index == l.reloc.symbol)) own) in
    let file : l.meant.object ≡ l.file = eqb-true l.meant.object l.file p.0 in
    let number : l.meant.index ≡ l.reloc.symbol = eqb-true l.meant.index l.reloc.symbol p.1 in
    let st = meant_stands objects l.file l.reloc.symbol l.object l.symbol l.meant is.object is.symbol is.meant in
    let same : st.object ≡ l.object = same_Some st.object l.object (sym st.there ∙ (ap (λ (n : ℕ). slice_get objects n) file ∙ is.object)) in
    let there : slice_get l.object.symbols l.meant.index ≡ Some l.meant.symbol = subst (λ (o : ObjectParts). slice_get o.symbols l.meant.index ≡ Some l.meant.symbol) same st.symbol in
    record { file = file; number = number; symbol = same_Some l.meant.symbol l.symbol (sym there ∙ (ap (λ (n : ℕ). slice_get l.object.symbols n) number ∙ is.symbol)) }

-- a symbol that is local and defined means itself
pub local_means : (objects : List ObjectParts) (at : Placement) (l : Link) → IsLink objects at l → l.symbol.bind ≡ local → is_defined l.symbol.home ≡ true → Itself l
local_means objects at l is bind defined =
    let own : Defined = record { object = l.file; index = l.reloc.symbol; symbol = l.symbol } in
    let test : ((l.symbol.bind == local) && is_defined l.symbol.home) ≡ true = and_from (l.symbol.bind == local) (is_defined l.symbol.home) (eq-eqb l.symbol.bind local bind) defined in
    let same : own ≡ l.meant = same_Some own l.meant (sym (cond-true ((l.symbol.bind == local) && is_defined l.symbol.home) (Some own) (meant_else l.symbol) test) ∙ is.meant) in
    record { file = ap (λ (z : Defined). z.object) (sym same); number = ap (λ (z : Defined). z.index) (sym same); symbol = ap (λ (z : Defined). z.symbol) (sym same) }
  where
    meant_else : Symbol → Option Defined
    meant_else s = resolved objects s.name

-- a branch in range leads to code
pub branch_code : (parts : List Placed) (l : Link) → has_address (linked_target parts l) (home_part parts l.meant.object l.meant.symbol.home) ≡ true → leads_to_code parts l ≡ true
branch_code parts l h = go l.meant.symbol.home h
  where
    in_part : (j : ℕ) (p : Option Placed) → part_of parts l.meant.object j ≡ p → has_address (linked_target parts l) p ≡ true → is_in_code parts l.meant.object (homes.Section j) ≡ true
    in_part j None e y = absurd (both_ways false refl y)
    in_part j (Some p) e y =
        let b = and_parts (is_code p.section && nat_le p.start (linked_target parts l)) (nat_lt (linked_target parts l) (p.start + p.section.size)) y in
        in_code parts l.meant.object j (homes.Section j) p refl e (and_parts (is_code p.section) (nat_le p.start (linked_target parts l)) b.0).0

    go : (z : Home) → has_address (linked_target parts l) (home_part parts l.meant.object z) ≡ true → is_in_code parts l.meant.object z ≡ true
    go homes.Undefined y = absurd (both_ways false refl y)
    go homes.Absolute y = absurd (both_ways false refl y)
    go (homes.Section j) y = in_part j (part_of parts l.meant.object j) refl y

-- what a test of range says of a branch, and of what leads straight
pub record IsBranch (parts : List Placed) (l : Link) : Type 0 where
  pub reached : is_reached (reach l.reloc.kind) (offset_of parts l) ≡ true
  pub inside : has_address (linked_target parts l) (home_part parts l.meant.object l.meant.symbol.home) ≡ true
  pub level : linked_target parts l % 2 ≡ 0

pub branch_is : (parts : List Placed) (l : Link) → is_in_range parts l ≡ true → is_jump l.reloc.kind ≡ true → IsBranch parts l
branch_is parts l h jump =
    let a = and_parts (is_straight parts l) (if is_jump l.reloc.kind then can_branch parts l else is_thumb_address parts l) h in
    let b : can_branch parts l ≡ true = sym (cond-true (is_jump l.reloc.kind) (can_branch parts l) (is_thumb_address parts l) jump) ∙ a.1 in
    let c = and_parts (is_reached (reach l.reloc.kind) (offset_of parts l) && has_address (linked_target parts l) (home_part parts l.meant.object l.meant.symbol.home)) (linked_target parts l % 2 == 0) b in
    let d = and_parts (is_reached (reach l.reloc.kind) (offset_of parts l)) (has_address (linked_target parts l) (home_part parts l.meant.object l.meant.symbol.home)) c.0 in
    record { reached = d.0; inside = d.1; level = eqb-true (linked_target parts l % 2) 0 c.1 }

pub straight : (parts : List Placed) (l : Link) → is_in_range parts l ≡ true → is_other l ≡ true → (leads_to_code parts l || is_in_code parts l.file l.symbol.home) ≡ true → addend_of l ≡ zero_addend l.reloc
straight parts l h other code =
    let a = and_parts (is_straight parts l) (if is_jump l.reloc.kind then can_branch parts l else is_thumb_address parts l) h in
    elim (or_cases (not (is_other l && (leads_to_code parts l || is_in_code parts l.file l.symbol.home))) (addend_of l == (if is_jump l.reloc.kind then 2 ^ 32 - 4 else 0)) a.0) [
      | inl n ↦ absurd (both_ways _ (not-true _ n) (and_from (is_other l) (leads_to_code parts l || is_in_code parts l.file l.symbol.home) other code))
      | inr y ↦ eqb-true (addend_of l) (zero_addend l.reloc) y
    ]

pub thumb_is : (parts : List Placed) (l : Link) → is_in_range parts l ≡ true → is_jump l.reloc.kind ≡ false → is_other l ≡ true → leads_to_code parts l ≡ true → full parts l % 2 ≡ 1
thumb_is parts l h jump other code =
    let a = and_parts (is_straight parts l) (if is_jump l.reloc.kind then can_branch parts l else is_thumb_address parts l) h in
    let b : is_thumb_address parts l ≡ true = sym (cond-false (is_jump l.reloc.kind) (can_branch parts l) (is_thumb_address parts l) jump) ∙ a.1 in
    elim (or_cases (not (is_other l && leads_to_code parts l)) (full parts l % 2 == 1) b) [
      | inl n ↦ absurd (both_ways _ (not-true _ n) (and_from (is_other l) (leads_to_code parts l) other code))
      | inr y ↦ eqb-true (full parts l % 2) 1 y
    ]

-- numbers of a symbol that a relocation leads to itself
pub own_word : (d : Defined) (x a : ℕ) → a ≡ 0 → x ≡ even d.symbol.value → x < 0x7FFFF000 → ((d.symbol.kind == func) ≡ false → d.symbol.value % 2 ≡ 1) → own_value d a ≡ x + 1
own_word d x a none e low odd = go (d.symbol.kind == func) odd
  where
    go : (b : Bool) → (b ≡ false → d.symbol.value % 2 ≡ 1)
        → cond b (even ((cond b (even d.symbol.value) d.symbol.value + a) % 2 ^ 32) + 1) ((cond b (even d.symbol.value) d.symbol.value + a) % 2 ^ 32) ≡ x + 1
    go true o = omega arith
    go false o = let h = o refl in omega arith

pub own_branch : (d : Defined) (x a : ℕ) → a ≡ 2 ^ 32 - 4 → x ≡ even d.symbol.value → x < 0x7FFFF000 → ((d.symbol.kind == func) ≡ false → d.symbol.value % 2 ≡ 0) → own_target d a ≡ x
own_branch d x a none e low level = go (d.symbol.kind == func) level
  where
    go : (b : Bool) → (b ≡ false → d.symbol.value % 2 ≡ 0) → (cond b (even d.symbol.value) d.symbol.value + a + 4) % 2 ^ 32 ≡ x
    go true o = omega arith
    go false o = let h = o refl in omega arith

pub its_home : (o : ObjectParts) (h : Home) → has_code o h ≡ true → (j : ℕ) × (s : Section) × (h ≡ homes.Section j) × (slice_get o.sections j ≡ Some s) × (is_code s ≡ true)
its_home o homes.Undefined y = absurd (both_ways false refl y)
its_home o homes.Absolute y = absurd (both_ways false refl y)
its_home o (homes.Section j) y = go (slice_get o.sections j) refl y
  where
    go : (s : Option Section) → slice_get o.sections j ≡ s → holds_code s ≡ true → (k : ℕ) × (s : Section) × (homes.Section j ≡ homes.Section k) × (slice_get o.sections k ≡ Some s) × (is_code s ≡ true)
    go None e z = absurd (both_ways false refl z)
    go (Some s) e z = (j, s, refl, e, z)
