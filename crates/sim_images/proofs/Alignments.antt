-- Code stands at multiples of 4.
use Rattle.std.specs.Prelude.{◌≡◌, ℕ, ◌+◌, ◌-◌, ◌*◌, ◌/◌, ◌%◌, ◌^◌, ◌==◌, ◌&&◌, not, max, true, List, [], ◌∷◌, Contains, refl}
use Rattle.std.specs.List.{list_all, list_any}
use Rattle.std.proofs.Common.{arith, inl, inr, ap, ◌∙◌, subst}
use Rattle.std.proofs.lemmas.Bool.{both_ways, and_parts, or_cases, eqb-true}
use Rattle.elf_model.specs.declared.objects.Section.{Section}
use Rattle.elf_model.specs.Objects.{ObjectParts, is_object, is_section, is_alignment, is_name, is_dropped_name, is_kept_kind, is_writable, is_exec, has_bytes, is_code}
use Rattle.elf_model.specs.Constants.{nobits}
use Rattle.thumb_table.specs.Layouts.{Placed, all_chosen, placed}
use Rattle.sim_images.specs.ImageLaws.{AreObjects, CodeAligned}
use Rattle.elf_model.proofs.Elements.{contains_cases, contains_none, contains_here, contains_later, all_at}
use Rattle.sim_images.proofs.RawBytes.{begun}
use Rattle.sim_images.proofs.PartFacts.{part_is, all_chosen_is}
use Rattle.code_ranges.proofs.ObjectFacts.{section_sound}
use Rattle.sim_images.proofs.ImageFacts.{is_code_part}

one_of : (a : ℕ) (ks : List ℕ) → list_all (λ k. max 4 (2 ^ k) % 4 == 0) ks ≡ true → list_any (λ k. a == 2 ^ k) ks ≡ true → max 4 a % 4 ≡ 0
one_of a [] l h = absurd (both_ways _ refl h)
one_of a (k ∷ ks) l h =
    let p = and_parts (max 4 (2 ^ k) % 4 == 0) (list_all (λ k. max 4 (2 ^ k) % 4 == 0) ks) l in
    elim (or_cases (a == 2 ^ k) (list_any (λ k. a == 2 ^ k) ks) h) [
      | inl y ↦ ap (λ (n : ℕ). max 4 n % 4) (eqb-true a (2 ^ k) y) ∙ eqb-true (max 4 (2 ^ k) % 4) 0 p.0
      | inr n ↦ one_of a ks p.1 n
    ]

fours : (s : Section) → is_section s ≡ true → max 4 s.align % 4 ≡ 0
fours s h =
    let a = and_parts _ (has_bytes s) h in
    let b = and_parts _ (not (is_exec s.flags && (s.kind == nobits))) a.0 in
    let c = and_parts _ (not (is_writable s.flags && is_exec s.flags)) b.0 in
    let d = and_parts _ (is_kept_kind s.kind s.flags) c.0 in
    let e = and_parts (is_name s.name && not (is_dropped_name s.name)) (is_alignment s.align) d.0 in
    one_of s.align (0 ∷ 1 ∷ 2 ∷ 3 ∷ 4 ∷ 5 ∷ 6 ∷ 7 ∷ 8 ∷ 9 ∷ 10 ∷ 11 ∷ 12 ∷ []) refl e.1

multiple : (q a : ℕ) → a % 4 ≡ 0 → (q * a) % 4 ≡ 0
multiple q a h =
    let e : a ≡ 4 * (a / 4) = omega arith in
    let f : q * a ≡ q * (4 * (a / 4)) = ap (λ (n : ℕ). q * n) e in
    let g : q * (4 * (a / 4)) ≡ 4 * (q * (a / 4)) = omega arith in
    let m : q * a ≡ 4 * (q * (a / 4)) = f ∙ g in
    ap (λ (n : ℕ). n % 4) m ∙ four (q * (a / 4))
  where
    four : (n : ℕ) → (4 * n) % 4 ≡ 0
    four n = omega arith

all_fours : (from : ℕ) (ps : List Placed) → ((p : Placed) → Contains ps p → max 4 p.section.align % 4 ≡ 0) → (p : Placed) → Contains (placed (λ s. max 4 s.align) from ps) p → p.start % 4 ≡ 0
all_fours from [] good p c = absurd (contains_none p c)
all_fours from (q ∷ ps) good p c =
    let first : Placed = begun (λ s. max 4 s.align) from q in
    elim (contains_cases first (placed (λ s. max 4 s.align) (first.start + q.section.size) ps) p c) [
      | inl e ↦ subst (λ (z : Placed). z.start % 4 ≡ 0) e (multiple ((from + max 4 q.section.align - 1) / max 4 q.section.align) (max 4 q.section.align) (good q (contains_here q ps)))
      | inr r ↦ all_fours (first.start + q.section.size) ps (λ z h. good z (contains_later q ps z h)) p r
    ]

pub code_fours : (objects : List ObjectParts) → AreObjects objects → (p : Placed) → Contains (all_chosen is_code 0 objects) p → max 4 p.section.align % 4 ≡ 0
code_fours objects sound p c =
    let h = all_chosen_is is_code 0 objects p c in
    fours p.section (section_sound h.object p.index p.section (all_at is_object objects h.number h.object sound h.there) h.section)

pub code_aligned : CodeAligned
code_aligned objects at sound placement i j o p here code =
    all_fours at.base (all_chosen is_code 0 objects) (code_fours objects sound) p (is_code_part objects at i j p (part_is objects at i j p here.part) code)
