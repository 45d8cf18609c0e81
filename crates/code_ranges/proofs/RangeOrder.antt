-- Ranges of a section do not overlap, and lie within its bytes.
use Rattle.std.proofs.Common.{◌≡◌, ◌<◌, ◌≤◌, ℕ, true, length, sym, ap, ◌∙◌, inl, inr, arith, Some}
use Rattle.std.specs.Prelude.{slice_get}
use Rattle.std.proofs.lemmas.Bool.{both_ways, cases_lt, cases_order}
use Rattle.std.proofs.lemmas.Option.{same_Some}
use Rattle.elf_model.specs.declared.objects.Section.{Section}
use Rattle.elf_model.specs.declared.ranges.RangeKind.{RangeKind}
use Rattle.elf_model.specs.Objects.{ObjectParts, is_object, is_code}
use Rattle.elf_model.specs.Ranges.{is_mapped, IsRange}
pub use Rattle.code_ranges.proofs.ObjectFacts.{section_sound, code_length}
use Rattle.code_ranges.proofs.KindFacts.{kind_here, mapped_from}

-- a mapping symbol stands where a range begins
range_mapped : (o : ObjectParts) (kind : RangeKind) (j a b : ℕ) → IsRange o kind j a b → is_mapped o j a ≡ true
range_mapped o kind j a b r = mapped_from o j a kind (kind_here o kind j a r.begins)

-- a range ends where the next one begins, or before
pub range_ends : (o : ObjectParts) (kind other : RangeKind) (j a b x y : ℕ) → IsRange o kind j a b → IsRange o other j x y → a < x → b ≤ x
range_ends o kind other j a b x y r s l =
    elim (cases_lt x b) [
      | inl under ↦ absurd (both_ways (is_mapped o j x) (r.nearest x l under) (range_mapped o other j x y s))
      | inr over ↦ over
    ]

-- two ranges that begin at one place end at one
pub range_end_same : (o : ObjectParts) (kind other : RangeKind) (j a b c : ℕ) → IsRange o kind j a b → IsRange o other j a c → b ≡ c
range_end_same o kind other j a b c r s =
    elim (cases_order b c) [
      | inl e ↦ e
      | inr d ↦ elim d [
        | inl l ↦ absurd (no_lower kind other b c r s l)
        | inr l ↦ absurd (no_lower other kind c b s r l)
      ]
    ]
  where
    no_lower : (kind other : RangeKind) (b c : ℕ) → IsRange o kind j a b → IsRange o other j a c → b < c → ⊥
    no_lower kind other b c r s l =
        elim r.ends [
          | inl y ↦ both_ways (is_mapped o j b) (s.nearest b r.has_bytes l) y
          | inr e ↦
              let one : r.section ≡ s.section = same_Some r.section s.section (sym r.is_there ∙ s.is_there) in
              let size : r.section.size ≡ s.section.size = ap (λ (t : Section). t.size) one in
              let h : c ≤ s.section.size = s.inside in
              omega arith
        ]

-- a range lies within its section's bytes
pub range_inside : (o : ObjectParts) (kind : RangeKind) (j a b : ℕ) (s : Section) → is_object o ≡ true → slice_get o.sections j ≡ Some s → IsRange o kind j a b → b ≤ length s.bytes
range_inside o kind j a b s h at r =
    let one : r.section ≡ s = same_Some r.section s (sym r.is_there ∙ at) in
    let size : r.section.size ≡ s.size = ap (λ (t : Section). t.size) one in
    let code : is_code s ≡ true = sym (ap is_code one) ∙ r.in_code in
    let whole : length s.bytes ≡ s.size = code_length s (section_sound o j s h at) code in
    let low : b ≤ r.section.size = r.inside in
    omega arith
