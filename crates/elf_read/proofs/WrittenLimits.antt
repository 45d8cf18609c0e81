-- A written file has no more of anything than its object.
use Rattle.std.proofs.Common.{◌≡◌, ◌≤◌, ◌<◌, ℕ, ◌+◌, ◌-◌, ◌/◌, Bool, true, ◌&&◌, List, ◌++◌, length, get_or, refl, sym, ap, ◌∙◌, arith, map}
use Rattle.std.specs.Prelude.{◌==◌, if◌then◌else◌}
use Rattle.std.specs.List.{sum_by, flat_map}
use Rattle.std.proofs.lemmas.List.Sums.{sum_by-append}
use Rattle.std.proofs.lemmas.Bool.{and_parts, eq-eqb, ne_eqb, eqb-true}
use Rattle.elf_model.specs.declared.objects.Section.{Section}
use Rattle.elf_model.specs.Constants.{progbits, rel, symtab}
use Rattle.elf_model.specs.Objects.{ObjectParts, is_alloc, is_exec, code_size}
use Rattle.elf_model.specs.Files.{header, header_count, is_kept, IsKind}
use Rattle.elf_model.specs.Canonical.{FileSection, file_sections, own_section, reloc_section, relocated, relocs_in}
use Rattle.elf_model.proofs.Sections.{not_rel}
use Rattle.elf_model.proofs.Sorted.{relocs_from, all_from_first}
use Rattle.elf_model.proofs.Relocs.{reloc_facts}
use Rattle.elf_model.proofs.Written.{ObjectFacts, tables_of}
use Rattle.elf_model.proofs.Headers.{Reading, head, header_total}
use Rattle.elf_model.proofs.Symbols.{symtab_number, symtab_fields}
use Rattle.elf_read.specs.Faults.{relocs_up_to, code_up_to, is_code_header}
use Rattle.elf_read.proofs.WrittenSums.{sum_filter-le, sum-none, sum_of_map, sum_lengths}

-- what a section adds to the relocations and to the code
abbrev pub relocs_of : FileSection → ℕ
relocs_of s = if s.kind == rel then s.size / 8 else 0

abbrev pub code_of : FileSection → ℕ
code_of s = if (s.kind == progbits) && is_alloc s.flags && is_exec s.flags then s.size else 0

sum_parts : (g : FileSection → ℕ) (o : ObjectParts) → sum_by g (file_sections o) ≡ sum_by (λ s. g (own_section s)) o.sections + sum_by (λ p. g (reloc_section o p)) (relocated o 0 o.sections) + sum_by g (tables_of o)
sum_parts g o =
    let own : List FileSection = map own_section o.sections in
    let rels : List FileSection = map (reloc_section o) (relocated o 0 o.sections) in
    omega (arith, sum_by-append g (own ++ rels) (tables_of o), sum_by-append g own rels, sum_of_map g own_section o.sections, sum_of_map g (reloc_section o) (relocated o 0 o.sections))

same_relocs : (o : ObjectParts) → ObjectFacts o → sum_by relocs_of (file_sections o) ≡ length o.relocs
same_relocs o f =
    let own : sum_by (λ s. relocs_of (own_section s)) o.sections ≡ 0 = sum-none (λ (s : Section). relocs_of (own_section s)) o.sections (λ k d u.
    ap (λ (t : Bool). if t then (get_or o.sections k d).size / 8 else 0) (ne_eqb (get_or o.sections k d).kind rel (not_rel (get_or o.sections k d).kind (get_or o.sections k d).flags (f.sections k d u).kept))) in
    let rels : sum_by (λ p. relocs_of (reloc_section o p)) (relocated o 0 o.sections) ≡ length (flat_map (λ (p : ℕ × Section). relocs_in o p.0) (relocated o 0 o.sections)) =
    sum_lengths (λ (p : ℕ × Section). relocs_of (reloc_section o p)) (λ (p : ℕ × Section). relocs_in o p.0) (relocated o 0 o.sections) (λ p. omega arith) in
    let all = relocs_from o 0 o.sections f.rising (λ k d u. let s = (reloc_facts o (get_or o.relocs k d) (f.relocs k d u)).section in omega (arith, s)) ∙ all_from_first o.relocs in
    let many = ap length all in
    let tables : sum_by relocs_of (tables_of o) ≡ 0 = refl in
    omega (arith, sum_parts relocs_of o, own, rels, many, tables)

same_code : (o : ObjectParts) → sum_by code_of (file_sections o) ≡ code_size o.sections
same_code o =
    let own : sum_by (λ s. code_of (own_section s)) o.sections ≡ code_size o.sections = refl in
    let rels : sum_by (λ p. code_of (reloc_section o p)) (relocated o 0 o.sections) ≡ 0 = sum-none (λ (p : ℕ × Section). code_of (reloc_section o p)) (relocated o 0 o.sections) (λ k d u. refl) in
    let tables : sum_by code_of (tables_of o) ≡ 0 = refl in
    omega (arith, sum_parts code_of o, own, rels, tables)

module _ (o : ObjectParts) (b : List ℕ) (r : Reading o b) where
  pub few_symbols : (t : ℕ) → IsKind b t symtab → (header b t).size / 16 - 1 ≡ length o.symbols
  few_symbols t k =
      let size = (symtab_fields o b r).size in
      ap (λ (h : ℕ). (header b h).size / 16 - 1) (symtab_number o b r t k.0 k.1 k.2) ∙ omega (arith, size)

  pub few_relocs : (h : ℕ) → h < header_count b → relocs_up_to b h ≤ length o.relocs
  few_relocs h u =
      let all = header_total o b r in
      let sum = sum_filter-le (λ k. (header b k).size / 8) (λ k. ((header b k).kind == rel) && is_kept b (header b k).info) relocs_of 1 h (file_sections o) (omega (arith, all)) (λ i s e t.
      let fields = head o b r i (1 + i) s (omega arith) e in
      let kind = eqb-true (header b (1 + i)).kind rel (and_parts ((header b (1 + i)).kind == rel) (is_kept b (header b (1 + i)).info) t).0 in
      let size : (header b (1 + i)).size / 8 ≡ s.size / 8 = ap (λ (n : ℕ). n / 8) fields.size in
      let added : relocs_of s ≡ s.size / 8 = ap (λ (x : Bool). if x then s.size / 8 else 0) (eq-eqb s.kind rel (sym fields.kind ∙ kind)) in
      omega (arith, size, added)) in
      omega (arith, sum, same_relocs o r.facts)

  pub little_code : (h : ℕ) → h < header_count b → code_up_to b h ≤ code_size o.sections
  little_code h u =
      let all = header_total o b r in
      let sum = sum_filter-le (λ k. (header b k).size) (is_code_header b) code_of 1 h (file_sections o) (omega (arith, all)) (λ i s e t.
      let fields = head o b r i (1 + i) s (omega arith) e in
      let parts = and_parts (((header b (1 + i)).kind == progbits) && is_alloc (header b (1 + i)).flags && is_exec (header b (1 + i)).flags) (is_kept b (1 + i)) t in
      let size : (header b (1 + i)).size ≡ s.size = fields.size in
      let same : ((s.kind == progbits) && is_alloc s.flags && is_exec s.flags) ≡ true =
      sym (ap (λ (k : ℕ). (k == progbits) && is_alloc (header b (1 + i)).flags && is_exec (header b (1 + i)).flags) fields.kind ∙ ap (λ (g : ℕ). (s.kind == progbits) && is_alloc g && is_exec g) fields.flags) ∙ parts.0 in
      let added : code_of s ≡ s.size = ap (λ (x : Bool). if x then s.size else 0) same in
      omega (arith, size, added)) in
      omega (arith, sum, same_code o)
