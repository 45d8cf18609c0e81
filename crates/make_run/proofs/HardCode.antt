-- The code of a generated object's hardened form fits its room: it is one section, of a layout.
use Rattle.std.proofs.Common.{◌≡◌, ◌≤◌, ◌<◌, inl, inr, ℕ, ◌+◌, ◌∷◌, ◌++◌, [], true, false, Bool, Some, List, length, refl, ap, ◌∙◌, arith, IsTrue}
use Rattle.std.specs.Prelude.{slice_get, slice_index, if◌then◌else◌, max}
use Rattle.elf_model.specs.Canonical.{round_up}
use Rattle.std.proofs.lemmas.Bool.{cases_lt, and_from}
use Rattle.std.proofs.lemmas.Option.{same_Some}
use Rattle.elf_model.specs.declared.objects.Section.{Section}
use Rattle.elf_model.specs.declared.objects.MapRow.{MapRow}
use Rattle.elf_model.specs.declared.refusals.Refusal.TheVariants.{CodeTooBig}
use Rattle.elf_model.specs.Constants.{progbits}
use Rattle.elf_model.specs.Maps.{map_section}
use Rattle.elf_model.specs.Objects.{is_code, is_code_kind, is_object}
use Rattle.thumb_table.specs.Layouts.{Placed, chosen, code_bytes_of}
use Rattle.flat_link.specs.Placing.{end_of}
use Rattle.flat_link.proofs.EndFacts.{code_ends}
use Rattle.branch_layout.specs.Faults.{too_big}
use Rattle.pair_parts.proofs.PlaceFacts.{sized}
use Rattle.harden_core.specs.declared.hardening.Hardened.{Hardened}
use Rattle.harden_core.specs.Hardening.{IsHardening}
use Rattle.gen_object.specs.Generated.{code_bytes, text_section, generated}
use Rattle.gen_image.specs.GeneratedImages.{placement}

abbrev part_of : Section → Placed
part_of t = record { object = 0; index = 0; ordinal = 0; start = 0; section = t }

-- the one part of two sections of which the first is code
one_part : (t m : Section) → is_code t ≡ true → is_code m ≡ false → chosen is_code 0 0 0 (t ∷ m ∷ []) ++ [] ≡ part_of t ∷ []
one_part t m code other =
    ap (λ (b : Bool). (if b then part_of t ∷ chosen is_code 0 1 1 (m ∷ []) else chosen is_code 0 1 0 (m ∷ [])) ++ []) code
    ∙ ap (λ (b : Bool). (part_of t ∷ (if b then record { object = 0; index = 1; ordinal = 1; start = 0; section = m } ∷ [] else [])) ++ []) other

-- two sections, of which the second is known
two : (ss : List Section) (m : Section) → length ss ≡ 2 → slice_get ss 1 ≡ Some m → (t : Section) × (ss ≡ t ∷ m ∷ [])
two [] m e g = absurd (omega (arith, e))
two (a ∷ []) m e g = absurd (omega (arith, e))
two (a ∷ b ∷ []) m e g = (a, ap (λ (x : Section). a ∷ x ∷ []) (same_Some b m g))
two (a ∷ b ∷ c ∷ rest) m e g = absurd (omega (arith, e))

first_small : (sizes : List ℕ) → ((size : ℕ) → slice_get sizes 0 ≡ Some size → 524288 < size → ⊥) → slice_index sizes 0 ≤ 524288
first_small [] none = omega arith
first_small (x ∷ sizes) none = elim (cases_lt 524288 x) [ inl big ↦ absurd (none x refl big) | inr low ↦ low ]

module _ (seed count : ℕ) (out : Hardened) (sound : IsTrue (is_object out.object)) (is : IsHardening (generated seed count) 2 4 out) where
  abbrev text : Section
  text = text_section (code_bytes seed count)

  abbrev rows : List MapRow
  rows = is.made.form.rows

  both : (t : Section) × (out.object.sections ≡ t ∷ map_section rows ∷ [])
  both = two out.object.sections (map_section rows) is.made.form.tables.sections.count is.made.form.tables.sections.map

  first : slice_get out.object.sections 0 ≡ Some both.0
  first = ap (λ (ss : List Section). slice_get ss 0) both.1

  code : is_code both.0 ≡ true
  code =
      let new = is.made.form.tables.sections.each 0 text both.0 refl first in
      ap (λ (k : ℕ). is_code_kind k both.0.flags) new.kind ∙ ap (λ (f : ℕ). is_code_kind progbits f) new.flags

  align : both.0.align ≡ 4
  align = (is.made.form.tables.sections.each 0 text both.0 refl first).code refl

  small : both.0.size ≤ 524288
  small =
      let layout = is.made.can.layout in
      let size = sized (generated seed count) out.object is.flow is.layout is.accepted.flow is.made.can is.made.form 0 both.0 first code in
      let same = ap (λ (ns : List ℕ). slice_index ns 0) layout.sizes in
      let low = first_small layout.placing.sizes (λ n there big. layout.places.no_fault CodeTooBig 0 0 (too_big (record { size = n; there = there; big = big }) refl refl)) in
      omega arith

  pub hard_fits : length (code_bytes_of (out.object ∷ []) placement) ≤ 524288
  hard_fits =
      let ends = code_ends (out.object ∷ []) placement (and_from _ _ sound refl) in
      let parts = ap (λ (ss : List Section). chosen is_code 0 0 0 ss ++ []) both.1 ∙ one_part both.0 (map_section rows) code refl in
      let end = ap (end_of (λ (s : Section). max 4 s.align) 0x8000) parts in
      let last = ap (λ (a : ℕ). round_up 0x8000 (max 4 a) + both.0.size) align in
      let low = small in
      omega arith
