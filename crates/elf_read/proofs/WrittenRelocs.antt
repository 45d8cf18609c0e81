-- The relocations of a written file are sound.
use Rattle.std.proofs.Common.{◌≡◌, ◌≢◌, ◌≤◌, ◌<◌, ◌⊎◌, ℕ, ◌+◌, ◌-◌, ◌*◌, ◌/◌, ◌%◌, true, not, List, length, Option, Some, None, inl, inr, refl, sym, ap, ◌∙◌, subst, arith}
use Rattle.std.specs.Prelude.{slice_get, ◌==◌, nat_le}
use Rattle.std.proofs.Math.Nat.{mod-eq_of_lt, mul-add-mod_self_right}
use Rattle.std.proofs.lemmas.Nat.{div-mul-add}
use Rattle.std.proofs.lemmas.Bool.{and_parts, cases_lt, eq-eqb, both_ways, not-true, false≢true, leb-true}
use Rattle.elf_model.specs.declared.objects.Section.{Section}
use Rattle.elf_model.specs.declared.objects.Reloc.{Reloc}
use Rattle.elf_model.specs.Constants.{nobits, rel}
use Rattle.elf_model.specs.Fields.{word_at}
use Rattle.elf_model.specs.Objects.{ObjectParts, is_placed, place_width, reloc_code, code_width}
use Rattle.elf_model.specs.Files.{header, IsKind}
use Rattle.elf_model.specs.Canonical.{own_section, relocated, relocs_in, symtab_header}
use Rattle.elf_model.proofs.Lists.{there}
use Rattle.elf_model.proofs.Sections.{not_rel}
use Rattle.elf_model.proofs.Written.{tables_of, table_at, own_at, count_sections}
use Rattle.elf_model.proofs.Headers.{Reading, head, header_total}
use Rattle.elf_model.proofs.Kept.{own_facts}
use Rattle.elf_model.proofs.Symbols.{symtab_fields}
use Rattle.elf_model.proofs.Tables.{symtab_kind}
use Rattle.elf_model.proofs.Relocs.{RelocFacts, reloc_fields, table_none, row_words, facts_of}
use Rattle.elf_read.specs.Faults.{IsSymbolAt, IsRelocAt, IsKeptSymbol}
use Rattle.elf_read.proofs.WrittenLists.{relocated_at, relocated_rise, offsets_rise}
use Rattle.elf_read.proofs.WrittenSymbols.{at_home}

low_byte : (w s c : ℕ) → w ≡ s * 256 + c → c < 256 → w % 256 ≡ c
low_byte w s c e l = ap (λ (n : ℕ). n % 256) e ∙ mul-add-mod_self_right s 256 c ∙ mod-eq_of_lt l

high_bytes : (w s c : ℕ) → w ≡ s * 256 + c → c < 256 → w / 256 ≡ s
high_bytes w s c e l = ap (λ (n : ℕ). n / 256) e ∙ div-mul-add s 256 c l

module _ (o : ObjectParts) (b : List ℕ) (r : Reading o b) where
  -- a header of relocations is of a section that has some
  record Table (h : ℕ) : Type 0 where
    n : ℕ
    p : ℕ × Section
    number : h ≡ 1 + length o.sections + n
    at : slice_get (relocated o 0 o.sections) n ≡ Some p

  table_found : (h : ℕ) → IsKind b h rel → Table h
  table_found h k =
      let all = header_total o b r in
      let many = count_sections o in
      let first = k.0 in
      let last = k.1 in
      let front : ℕ = length o.sections + length (relocated o 0 o.sections) in
      elim (cases_lt (h - 1) (length o.sections)) [
        | inl u ↦
            let at = there o.sections (h - 1) u in
            let fields = head o b r (h - 1) h (own_section at.0) (omega (arith, first)) (own_at o (h - 1) at.0 at.1) in
            absurd (not_rel at.0.kind at.0.flags (own_facts o b r (h - 1) at.0 at.1).kept (sym fields.kind ∙ k.2))
        | inr u ↦ elim (cases_lt (h - 1) front) [
          | inl v ↦
              let at = there (relocated o 0 o.sections) (h - 1 - length o.sections) (omega (arith, first)) in
              record { n = h - 1 - length o.sections; p = at.0; number = omega (arith, first, u); at = at.1 }
          | inr v ↦
              let at = there (tables_of o) (h - 1 - front) (omega (arith, all, many, last)) in
              let fields = head o b r (h - 1) h at.0 (omega (arith, first)) (table_at o (h - 1 - front) (h - 1) (omega (arith, v)) ∙ at.1) in
              absurd (table_none o b r (h - 1 - front) at.0 at.1 (sym fields.kind ∙ k.2))
        ]
      ]

  -- an entry of it is one of the object's relocations
  record Entry (h j e : ℕ) (t : Table h) : Type 0 where
    x : Reloc
    at : slice_get (relocs_in o t.p.0) j ≡ Some x
    facts : RelocFacts o x
    section : x.section ≡ t.p.0
    offset : word_at b e ≡ x.offset
    code : word_at b (e + 4) % 256 ≡ reloc_code x.kind
    symbol : word_at b (e + 4) / 256 ≡ x.symbol + 1

  entry_found : (h j e : ℕ) → (i : IsRelocAt b h j e) → Entry h j e (table_found h i.table)
  entry_found h j e i =
      let t = table_found h i.table in
      let size = (reloc_fields o b r t.n h t.p t.number t.at).1 in
      let below = i.there in
      let at = there (relocs_in o t.p.0) j (omega (arith, size, below)) in
      let facts = facts_of o b r t.p j at.0 at.1 in
      let words = row_words o b r t.n h j t.p at.0 t.number t.at at.1 facts.1 facts.0 in
      let small = facts.1.code in
      let second : word_at b (e + 4) ≡ (at.0.symbol + 1) * 256 + reloc_code at.0.kind = subst (λ (p : ℕ). word_at b (p + 4) ≡ (at.0.symbol + 1) * 256 + reloc_code at.0.kind) (sym i.place) words.1 in
      record {
        x = at.0;
        at = at.1;
        facts = facts.0;
        section = facts.2;
        offset = subst (λ (p : ℕ). word_at b p ≡ at.0.offset) (sym i.place) words.0;
        code = low_byte (word_at b (e + 4)) (at.0.symbol + 1) (reloc_code at.0.kind) second small;
        symbol = high_bytes (word_at b (e + 4)) (at.0.symbol + 1) (reloc_code at.0.kind) second small;
      }

  -- where a relocation's place lies
  record Room (x : Reloc) (n : ℕ) : Type 0 where
    filled : (header b (n + 1)).kind ≢ nobits
    inside : x.offset + place_width x.kind ≤ (header b (n + 1)).size

  room : (x : Reloc) (n : ℕ) (s : Option Section) → slice_get o.sections n ≡ s → is_placed x s ≡ true → Room x n
  room x n None e t = absurd (false≢true t)
  room x n (Some s) e t =
      let parts = and_parts (not (s.kind == nobits)) (nat_le (x.offset + place_width x.kind) s.size) t in
      let fields = head o b r n (n + 1) (own_section s) refl (own_at o n s e) in
      let below = leb-true (x.offset + place_width x.kind) s.size parts.1 in
      record {
        filled = λ k. both_ways _ (not-true _ parts.0) (eq-eqb s.kind nobits (sym fields.kind ∙ k));
        inside = subst (λ (z : ℕ). x.offset + place_width x.kind ≤ z) (sym fields.size) below;
      }

  room_of : (x : Reloc) (n : ℕ) → RelocFacts o x → x.section ≡ n → Room x n
  room_of x n f s = subst (Room x) s (room x x.section (slice_get o.sections x.section) refl f.placed)

  info_of : (h : ℕ) (t : Table h) → (header b h).info ≡ t.p.0 + 1
  info_of h t = (reloc_fields o b r t.n h t.p t.number t.at).2

  pub targets : (h : ℕ) → IsKind b h rel → (header b (header b h).info).kind ≡ nobits → ⊥
  targets h k z =
      let t = table_found h k in
      let some = (relocated_at o 0 o.sections t.n t.p t.at).some in
      let at = there (relocs_in o t.p.0) 0 (omega (arith, some)) in
      let facts = facts_of o b r t.p 0 at.0 at.1 in
      (room_of at.0 t.p.0 facts.0 facts.2).filled (sym (ap (λ (i : ℕ). (header b i).kind) (info_of h t)) ∙ z)

  pub places : (h j e : ℕ) → IsRelocAt b h j e → word_at b e + code_width (word_at b (e + 4) % 256) ≤ (header b (header b h).info).size
  places h j e i =
      let t = table_found h i.table in
      let f = entry_found h j e i in
      let inside = (room_of f.x t.p.0 f.facts f.section).inside in
      let width : code_width (word_at b (e + 4) % 256) ≡ place_width f.x.kind = ap code_width f.code in
      let size : (header b (header b h).info).size ≡ (header b (t.p.0 + 1)).size = ap (λ (n : ℕ). (header b n).size) (info_of h t) in
      let offset : word_at b e ≡ f.x.offset = f.offset in
      omega (arith, inside, width, size, offset)

  kept_symbol : (n : ℕ) → n < length o.symbols → IsKeptSymbol b (n + 1)
  kept_symbol n l =
      let size = (symtab_fields o b r).size in
      let place : ℕ = (header b (symtab_header o)).offset + 16 * (n + 1) in
      let stands : IsSymbolAt b (symtab_header o) (n + 1) place = record { table = symtab_kind o b r; behind_null = omega arith; there = omega (arith, size, l); place = refl } in
      record {
        table = symtab_header o;
        e = place;
        stands = stands;
        home = elim (at_home o b r (symtab_header o) (n + 1) place stands) [ inl y ↦ inl y | inr h ↦ inr h.2.kept ];
      }

  pub names : (h j e : ℕ) → IsRelocAt b h j e → IsKeptSymbol b (word_at b (e + 4) / 256)
  names h j e i =
      let f = entry_found h j e i in
      subst (IsKeptSymbol b) (sym f.symbol) (kept_symbol f.x.symbol f.facts.symbol)

  pub one_place : (g i q h j e : ℕ) → (g < h) ⊎ ((g ≡ h) × (i < j)) → IsRelocAt b g i q → IsRelocAt b h j e → (header b g).info ≡ (header b h).info → word_at b q ≡ word_at b e → ⊥
  one_place g i q h j e order x y info word =
      let s = table_found g x.table in
      let t = table_found h y.table in
      let f = entry_found g i q x in
      let w = entry_found h j e y in
      let a = info_of g s in
      let c = info_of h t in
      let same : s.p.0 ≡ t.p.0 = omega (arith, a, c, info) in
      let m = s.number in
      let n = t.number in
      elim order [
        | inl l ↦ let rises = relocated_rise o 0 o.sections s.n t.n s.p t.p s.at t.at (omega (arith, l, m, n)) in absurd (omega (arith, rises, same))
        | inr l ↦
            let at = subst (λ (z : ℕ). slice_get (relocs_in o z) j ≡ Some w.x) (sym same) w.at in
            let rises = offsets_rise o s.p.0 i j f.x w.x r.facts.rising f.at at l.1 f.section (w.section ∙ sym same) in
            let u = f.offset in
            let v = w.offset in
            absurd (omega (arith, rises, u, v, word))
      ]
