-- The sections of a written file are sound, and none is dropped.
use Rattle.std.proofs.Common.{◌≡◌, ◌≢◌, ◌≤◌, ◌<◌, ℕ, ◌+◌, ◌-◌, Bool, true, false, cond, not, ◌&&◌, ◌||◌, List, [], ◌∷◌, length, get_or, Some, inl, inr, refl, sym, ap, ◌∙◌, subst, arith}
use Rattle.std.specs.Prelude.{slice_get, All, ◌==◌, if◌then◌else◌}
use Rattle.std.specs.List.{list_any}
use Rattle.std.proofs.lemmas.Bool.{and_parts, and_left, and_right, cases_lt, eq-eqb, ne_eqb, both_ways, not-true, not_from_true, false≢true}
use lib.Pointwise.{bytes_decides}
use Rattle.elf_model.specs.declared.objects.Section.{Section}
use Rattle.elf_model.specs.declared.refusals.Limit.{Limit}
use Rattle.elf_model.specs.declared.refusals.TheConstants.Limit.{INPUT}
use Rattle.elf_model.specs.Constants.{progbits, note, arm_attributes, nobits, rel, rela, group, symtab_shndx}
use Rattle.elf_model.specs.Fields.{same_name}
use Rattle.elf_model.specs.Maps.{map_name}
use Rattle.elf_model.specs.Objects.{ObjectParts, is_section, is_name, is_dropped_name, is_alignment, is_kept_kind, is_alloc, is_writable, is_exec, is_memory_kind}
use Rattle.elf_model.specs.Files.{header, header_count, section_name, is_table, is_refused_kind, is_dropped}
use Rattle.elf_model.specs.Canonical.{FileSection, file_sections, own_section, section_names}
use Rattle.elf_model.proofs.FieldsRead.{IsHeader as Fields}
use Rattle.elf_model.proofs.Laid.{place_of}
use Rattle.elf_model.proofs.Lists.{All_at, there, filter_dropped}
use Rattle.elf_model.proofs.Sections.{name_facts}
use Rattle.elf_model.proofs.Strings.{has_no_nul}
use Rattle.elf_model.proofs.Written.{ObjectFacts, each_named}
use Rattle.elf_model.proofs.Headers.{Reading, head, header_total, name_found, table_behind}
use Rattle.elf_model.proofs.Kept.{own_kept}
use Rattle.elf_read.specs.Faults.{IsHeader, is_map, dropped_count}
use Rattle.elf_read.specs.Written.{Meets}

pub record IsSound (l : Limit) (s : FileSection) : Type 0 where
  pub aligned : is_alignment s.align ≡ true
  pub handled : is_refused_kind s.kind ≡ false
  pub memory : is_alloc s.flags ≡ true → is_memory_kind s.kind ≡ true
  pub code : is_exec s.flags ≡ true → is_writable s.flags ≡ true → ⊥
  pub filled : is_exec s.flags ≡ true → s.kind ≡ nobits → ⊥
  pub no_nul : s.kind ≢ rel → has_no_nul s.name ≡ true
  pub no_map : l ≡ INPUT → s.kind ≢ rel → s.name ≢ map_name

neither : (t : Bool) → cond t false false ≡ true → ⊥
neither true h = false≢true h
neither false h = false≢true h

kept_handled : (kind flags : ℕ) → is_kept_kind kind flags ≡ true → is_refused_kind kind ≡ false
kept_handled kind flags h =
    let not_group : kind ≢ group = λ e. neither (is_alloc flags) (subst (λ (n : ℕ). is_kept_kind n flags ≡ true) e h) in
    let not_rela : kind ≢ rela = λ e. neither (is_alloc flags) (subst (λ (n : ℕ). is_kept_kind n flags ≡ true) e h) in
    let not_indexes : kind ≢ symtab_shndx = λ e. neither (is_alloc flags) (subst (λ (n : ℕ). is_kept_kind n flags ≡ true) e h) in
    ap (λ (t : Bool). t || (kind == rela) || (kind == symtab_shndx)) (ne_eqb kind group not_group)
    ∙ ap (λ (t : Bool). t || (kind == symtab_shndx)) (ne_eqb kind rela not_rela) ∙ ne_eqb kind symtab_shndx not_indexes

kept_memory : (kind flags : ℕ) → is_kept_kind kind flags ≡ true → is_alloc flags ≡ true → is_memory_kind kind ≡ true
kept_memory kind flags h m = ap (λ (t : Bool). if t then is_memory_kind kind else list_any (λ k. kind == k) (progbits ∷ note ∷ arm_attributes ∷ [])) (sym m) ∙ h

own_sound : (l : Limit) (s : Section) → is_section s ≡ true → (l ≡ INPUT → s.name ≢ map_name) → IsSound l (own_section s)
own_sound l s h n =
    let a = and_parts (is_name s.name && not (is_dropped_name s.name) && is_alignment s.align && is_kept_kind s.kind s.flags && not (is_writable s.flags && is_exec s.flags) && not (is_exec s.flags && (s.kind == nobits))) (length s.bytes == (if s.kind == nobits then 0 else s.size)) h in
    let b = and_parts (is_name s.name && not (is_dropped_name s.name) && is_alignment s.align && is_kept_kind s.kind s.flags && not (is_writable s.flags && is_exec s.flags)) (not (is_exec s.flags && (s.kind == nobits))) a.0 in
    let c = and_parts (is_name s.name && not (is_dropped_name s.name) && is_alignment s.align && is_kept_kind s.kind s.flags) (not (is_writable s.flags && is_exec s.flags)) b.0 in
    let d = and_parts (is_name s.name && not (is_dropped_name s.name) && is_alignment s.align) (is_kept_kind s.kind s.flags) c.0 in
    let e = and_parts (is_name s.name && not (is_dropped_name s.name)) (is_alignment s.align) d.0 in
    let f = and_parts (is_name s.name) (not (is_dropped_name s.name)) e.0 in
    record {
      aligned = e.1;
      handled = kept_handled s.kind s.flags d.1;
      memory = kept_memory s.kind s.flags d.1;
      code = λ x w. false≢true (sym (ap not (ap (λ (t : Bool). t && is_exec s.flags) w ∙ x)) ∙ c.1);
      filled = λ x k. false≢true (sym (ap not (ap (λ (t : Bool). t && (s.kind == nobits)) x ∙ eq-eqb s.kind nobits k)) ∙ b.1);
      no_nul = λ k. (name_facts s.name f.0).no_nul;
      no_map = λ i k. n i;
    }

all_sound : (o : ObjectParts) (l : Limit) → ObjectFacts o → Meets o l → All (IsSound l) (file_sections o)
all_sound o l f m =
    each_named (IsSound l) o (λ k d u. own_sound l (get_or o.sections k d) (f.tests k d u) (λ i. m.no_map i k d u))
    (λ k d u. record { aligned = refl; handled = refl; memory = λ a. absurd (false≢true a); code = λ a w. false≢true a; filled = λ a w. false≢true a; no_nul = λ n. absurd (n refl); no_map = λ i n. absurd (n refl) })
    (record { aligned = refl; handled = refl; memory = λ a. absurd (false≢true a); code = λ a w. false≢true a; filled = λ a w. false≢true a; no_nul = λ n. refl; no_map = λ i n e. let z : 7 ≡ 14 = ap length e in absurd (omega arith) })
    (record { aligned = refl; handled = refl; memory = λ a. absurd (false≢true a); code = λ a w. false≢true a; filled = λ a w. false≢true a; no_nul = λ n. refl; no_map = λ i n e. let z : 7 ≡ 14 = ap length e in absurd (omega arith) })
    (record { aligned = refl; handled = refl; memory = λ a. absurd (false≢true a); code = λ a w. false≢true a; filled = λ a w. false≢true a; no_nul = λ n. refl; no_map = λ i n e. let z : 9 ≡ 14 = ap length e in absurd (omega arith) })

module _ (o : ObjectParts) (b : List ℕ) (r : Reading o b) (l : Limit) (m : Meets o l) where
  -- the section of a header, with what is read of it
  record Found (h : ℕ) : Type 0 where
    s : FileSection
    at : slice_get (file_sections o) (h - 1) ≡ Some s
    fields : Fields b (section_names o) (place_of 52 (file_sections o) (h - 1)) h s
    sound : IsSound l s

  found : (h : ℕ) → IsHeader b h → Found h
  found h i =
      let p = i.behind_null in
      let q = i.there in
      let all = header_total o b r in
      let t = there (file_sections o) (h - 1) (omega (arith, all, p, q)) in
      record { s = t.0; at = t.1; fields = head o b r (h - 1) h t.0 (omega (arith, p)) t.1; sound = All_at (IsSound l) (file_sections o) (h - 1) t.0 (all_sound o l r.facts m) t.1 }

  pub alignments : (h : ℕ) → IsHeader b h → is_alignment (header b h).align ≡ false → ⊥
  alignments h i n = let f = found h i in both_ways _ n (ap is_alignment f.fields.align ∙ f.sound.aligned)

  pub kinds : (h : ℕ) → IsHeader b h → is_refused_kind (header b h).kind ≡ true → ⊥
  kinds h i y = let f = found h i in both_ways _ (ap is_refused_kind f.fields.kind ∙ f.sound.handled) y

  pub memory_kinds : (h : ℕ) → IsHeader b h → is_alloc (header b h).flags ≡ true → is_memory_kind (header b h).kind ≡ false → ⊥
  memory_kinds h i a n = let f = found h i in both_ways _ n (ap is_memory_kind f.fields.kind ∙ f.sound.memory (sym (ap is_alloc f.fields.flags) ∙ a))

  pub no_writable_code : (h : ℕ) → IsHeader b h → is_exec (header b h).flags ≡ true → is_writable (header b h).flags ≡ true → ⊥
  no_writable_code h i x w = let f = found h i in f.sound.code (sym (ap is_exec f.fields.flags) ∙ x) (sym (ap is_writable f.fields.flags) ∙ w)

  pub no_empty_code : (h : ℕ) → IsHeader b h → is_exec (header b h).flags ≡ true → (header b h).kind ≡ nobits → ⊥
  no_empty_code h i x k = let f = found h i in f.sound.filled (sym (ap is_exec f.fields.flags) ∙ x) (sym f.fields.kind ∙ k)

  pub no_own_map : (h : ℕ) → IsHeader b h → l ≡ INPUT → is_map b h ≡ true → ⊥
  no_own_map h i y t =
      let f = found h i in
      let p = i.behind_null in
      let parts = and_parts (not ((header b h).kind == rel)) (same_name (section_name b h) map_name) t in
      let other : f.s.kind ≢ rel = λ e. both_ways _ (not-true _ parts.0) (eq-eqb (header b h).kind rel (f.fields.kind ∙ e)) in
      let name = name_found o b r (h - 1) h f.s (omega (arith, p)) f.at (f.sound.no_nul other) in
      f.sound.no_map y other (sym name ∙ (bytes_decides (section_name b h) map_name).0 parts.1)

module _ (o : ObjectParts) (b : List ℕ) (r : Reading o b) where
  stays : (h : ℕ) → 1 ≤ h → h < 1 + (header_count b - 1) → (not (is_table (header b h).kind) && is_dropped b h) ≡ false
  stays h p q = elim (cases_lt (h - 1) (length o.sections)) [
    | inl u ↦
        let at = there o.sections (h - 1) u in
        let kept = and_parts (not (is_table (header b h).kind)) (not (is_dropped b h)) (own_kept o b r (h - 1) h at.0 (omega arith) at.1) in
        and_right (not (is_table (header b h).kind)) (is_dropped b h) (not-true _ kept.1)
    | inr u ↦
        let all = header_total o b r in
        let at = there (file_sections o) (h - 1) (omega (arith, all)) in
        let fields = head o b r (h - 1) h at.0 (omega arith) at.1 in
        and_left (not (is_table (header b h).kind)) (is_dropped b h) (not_from_true _ (ap is_table fields.kind ∙ table_behind o (h - 1) at.0 u at.1))
  ]

  pub none_dropped : dropped_count b ≡ 0
  none_dropped = ap length (filter_dropped (λ h. not (is_table (header b h).kind) && is_dropped b h) 1 (header_count b - 1) stays)
