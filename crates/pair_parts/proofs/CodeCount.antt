-- How many bytes of code what is made of an object has, for up to four copies: 64 times those of the object at most.
use Rattle.std.proofs.Common.{◌≡◌, ◌≤◌, ℕ, suc, ◌+◌, ◌*◌, Bool, true, false, cond, List, [], ◌∷◌, length, refl, sym, ap, ◌∙◌, arith, Some}
use Rattle.std.specs.Prelude.{slice_get, if◌then◌else◌}
use Rattle.std.proofs.Math.Nat.{mul-le-mul_left}
use Rattle.std.proofs.lemmas.List.Sums.{sum_by-cons}
use Rattle.std.proofs.lemmas.Option.{same_Some}
use Rattle.elf_model.specs.declared.objects.Section.{Section}
use Rattle.elf_model.specs.declared.objects.MapRow.{MapRow}
use Rattle.elf_model.specs.Objects.{ObjectParts, is_code, code_size}
use Rattle.elf_model.specs.Maps.{map_section}
use Rattle.hardened_form.specs.Sections.{AreSections}
use Rattle.sim_relation.specs.Pairs.{HaveGrown}
use Rattle.pair_parts.proofs.PointFacts.{same_sort}

abbrev code_bytes : Section → ℕ
code_bytes s = if is_code s then s.size else 0

-- Each section has so many times the bytes of the old one at most, and one more is no code.
sizes_most : (m : ℕ) (olds news : List Section) → length news ≡ length olds + 1 → ((j : ℕ) (s t : Section) → slice_get olds j ≡ Some s → slice_get news j ≡ Some t → code_bytes t ≤ m * code_bytes s)
    → ((t : Section) → slice_get news (length olds) ≡ Some t → code_bytes t ≡ 0) → code_size news ≤ m * code_size olds
sizes_most m [] [] count each last = absurd (omega arith)
sizes_most m [] (t ∷ []) count each last = let none = last t refl in let sum = sum_by-cons code_bytes t [] in omega arith
sizes_most m [] (t ∷ u ∷ news) count each last = absurd (omega arith)
sizes_most m (s ∷ olds) [] count each last = absurd (omega arith)
sizes_most m (s ∷ olds) (t ∷ news) count each last =
    let first = each 0 s t refl refl in
    let rest = sizes_most m olds news (omega arith) (λ j a b e g. each (suc j) a b e g) last in
    let new = sum_by-cons code_bytes t news in
    let old : m * code_size (s ∷ olds) ≡ m * (code_bytes s + code_size olds) = ap (λ (n : ℕ). m * n) (sum_by-cons code_bytes s olds) in
    omega arith

module _ (o h : ObjectParts) (c : ℕ) (rows : List MapRow) (few : c ≤ 4) (new : AreSections o h rows) (grown : HaveGrown o h c) where
  section_most : (j : ℕ) (s t : Section) → slice_get o.sections j ≡ Some s → slice_get h.sections j ≡ Some t → code_bytes t ≤ 64 * code_bytes s
  section_most j s t old there = go (is_code s) refl
    where
      go : (b : Bool) → is_code s ≡ b → code_bytes t ≤ 64 * code_bytes s
      go true code =
          let plain : code_bytes s ≡ s.size = ap (λ (b : Bool). cond b s.size 0) code in
          let hard : code_bytes t ≡ t.size = ap (λ (b : Bool). cond b t.size 0) (same_sort o j s t (new.each j s t old there) ∙ code) in
          let most : t.size ≤ 16 * c * s.size = grown j s t old code there in
          let more : s.size * c ≤ s.size * 4 = mul-le-mul_left s.size few in
          omega arith
      go false other =
          let hard : code_bytes t ≡ 0 = ap (λ (b : Bool). cond b t.size 0) (same_sort o j s t (new.each j s t old there) ∙ other) in
          omega arith

  pub few_code : code_size h.sections ≤ 64 * code_size o.sections
  few_code =
      sizes_most 64 o.sections h.sections new.count section_most
      (λ t there. let map_is : t ≡ map_section rows = same_Some t (map_section rows) (sym there ∙ new.map) in ap code_bytes map_is)
