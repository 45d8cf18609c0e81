-- The symbols of a written file are sound.
use Rattle.std.proofs.Common.{◌≡◌, ◌≤◌, ◌<◌, ◌⊎◌, ℕ, ◌+◌, ◌-◌, ◌*◌, ◌/◌, ◌%◌, true, false, List, Option, Some, None, inl, inr, refl, sym, ap, ◌∙◌, subst, arith}
use Rattle.std.specs.Prelude.{slice_get}
use Rattle.std.proofs.lemmas.Bool.{both_ways, false≢true, leb-true}
use Rattle.elf_model.specs.declared.objects.Section.{Section}
use Rattle.elf_model.specs.declared.objects.Symbol.{Symbol}
use Rattle.elf_model.specs.declared.objects.Home.{Home}
use Rattle.elf_model.specs.declared.objects.Home.TheVariants as home
use Rattle.elf_model.specs.Constants.{local}
use Rattle.elf_model.specs.Fields.{byte_at, half_at, word_at}
use Rattle.elf_model.specs.Objects.{ObjectParts, has_home, is_at_home}
use Rattle.elf_model.specs.Files.{header, header_count, is_kept, symbol_of}
use Rattle.elf_model.specs.Canonical.{own_section, symtab_header, home_index}
use Rattle.elf_model.proofs.Lists.{there}
use Rattle.elf_model.proofs.Written.{own_at, count_sections}
use Rattle.elf_model.proofs.Headers.{Reading, head, header_total}
use Rattle.elf_model.proofs.Kept.{own_kept}
use Rattle.elf_model.proofs.Symbols.{symtab_number, symtab_fields, few, facts_at, row_of, symbol_read, at_home_below}
use Rattle.elf_read.specs.Faults.{IsSymbolAt, names_no_section, place_of}
use Rattle.elf_read.proofs.WrittenLists.{local_before}

-- the index that a symbol's home has in the file: none, or of a section that is kept and holds its value
pub record IsHoused (b : List ℕ) (s : Symbol) (index : ℕ) : Type 0 where
  pub there : index < header_count b
  pub plain : index < 0xFF00
  pub kept : is_kept b index ≡ true
  pub value : place_of s.kind s.value ≤ (header b index).size

module _ (o : ObjectParts) (b : List ℕ) (r : Reading o b) where
  -- a symbol of the table is one of the object
  record Found (k e : ℕ) : Type 0 where
    s : Symbol
    at : slice_get o.symbols (k - 1) ≡ Some s
    one : k ≡ (k - 1) + 1
    place : e ≡ (header b (symtab_header o)).offset + 16 * k

  found : (t k e : ℕ) → IsSymbolAt b t k e → Found k e
  found t k e i =
      let size = (symtab_fields o b r).size in
      let same = symtab_number o b r t i.table.0 i.table.1 i.table.2 in
      let below : k < (header b (symtab_header o)).size / 16 = subst (λ (h : ℕ). k < (header b h).size / 16) same i.there in
      let first = i.behind_null in
      let at = there o.symbols (k - 1) (omega (arith, size, below, first)) in
      record { s = at.0; at = at.1; one = omega (arith, first); place = i.place ∙ ap (λ (h : ℕ). (header b h).offset + 16 * k) same }

  read : (k e : ℕ) (f : Found k e) → symbol_of b e ≡ f.s
  read k e f = ap (symbol_of b) f.place ∙ symbol_read o b r (k - 1) k f.s f.one f.at

  pub bindings : (t k e : ℕ) → IsSymbolAt b t k e → byte_at b (e + 12) / 16 ≤ 2
  bindings t k e i =
      let f = found t k e i in
      let same : byte_at b (e + 12) / 16 ≡ f.s.bind = ap (λ (s : Symbol). s.bind) (read k e f) in
      let low = (facts_at o b r (k - 1) f.s f.at).bind in
      omega (arith, same, low)

  pub symbol_types : (t k e : ℕ) → IsSymbolAt b t k e → byte_at b (e + 12) % 16 ≤ 4
  symbol_types t k e i =
      let f = found t k e i in
      let same : byte_at b (e + 12) % 16 ≡ f.s.kind = ap (λ (s : Symbol). s.kind) (read k e f) in
      let low = (facts_at o b r (k - 1) f.s f.at).kind in
      omega (arith, same, low)

  pub locals_lead : (t j d k e : ℕ) → j < k → IsSymbolAt b t j d → IsSymbolAt b t k e → byte_at b (e + 12) / 16 ≡ local → byte_at b (d + 12) / 16 ≡ local
  locals_lead t j d k e l x y last =
      let f = found t j d x in
      let g = found t k e y in
      let p = x.behind_null in
      let first : byte_at b (d + 12) / 16 ≡ f.s.bind = ap (λ (s : Symbol). s.bind) (read j d f) in
      let second : byte_at b (e + 12) / 16 ≡ g.s.bind = ap (λ (s : Symbol). s.bind) (read k e g) in
      first ∙ local_before o.symbols (j - 1) (k - 1) f.s g.s r.facts.locals f.at g.at (omega (arith, l, p)) (sym second ∙ last)

  inside : (s : Symbol) (n : ℕ) (x : Option Section) → slice_get o.sections n ≡ x → is_at_home o.sections s x ≡ true → (h : Section) × (slice_get o.sections n ≡ Some h) × (place_of s.kind s.value ≤ h.size)
  inside s n None e t = absurd (false≢true t)
  inside s n (Some h) e t = (h, e, leb-true (place_of s.kind s.value) h.size t)

  housed : (s : Symbol) (h : Home) → has_home o.sections s h ≡ true → (names_no_section (home_index h) ≡ true) ⊎ IsHoused b s (home_index h)
  housed s home.Undefined t = inl refl
  housed s home.Absolute t = inl refl
  housed s (home.Section n) t =
      let l = at_home_below o.sections s n t in
      let c = few o b r in
      let all = header_total o b r in
      let many = count_sections o in
      let x = inside s n (slice_get o.sections n) refl t in
      let fields = head o b r n (n + 1) (own_section x.0) refl (own_at o n x.0 x.1) in
      let size : (header b (n + 1)).size ≡ x.0.size = fields.size in
      let room = x.2 in
      inr (record { there = omega (arith, l, all, many); plain = omega (arith, l, c); kept = own_kept o b r n (n + 1) x.0 refl x.1; value = subst (λ (z : ℕ). place_of s.kind s.value ≤ z) (sym size) room })

  -- each symbol of the table names no section, or one that is kept
  pub at_home : (t k e : ℕ) → IsSymbolAt b t k e → (names_no_section (half_at b (e + 14)) ≡ true) ⊎ ((s : Symbol) × (symbol_of b e ≡ s) × IsHoused b s (half_at b (e + 14)))
  at_home t k e i =
      let f = found t k e i in
      let row = row_of o b r (k - 1) k f.s f.one f.at in
      let index : half_at b (e + 14) ≡ home_index f.s.home = ap (λ (p : ℕ). half_at b (p + 14)) f.place ∙ row.index in
      elim (housed f.s f.s.home (facts_at o b r (k - 1) f.s f.at).home) [
        | inl n ↦ inl (ap names_no_section index ∙ n)
        | inr h ↦ inr (f.s, read k e f, subst (λ (n : ℕ). IsHoused b f.s n) (sym index) h)
      ]

  pub indexes : (t k e : ℕ) → IsSymbolAt b t k e → names_no_section (half_at b (e + 14)) ≡ false → (header_count b ≤ half_at b (e + 14)) ⊎ (0xFF00 ≤ half_at b (e + 14)) → ⊥
  indexes t k e i n far = elim (at_home t k e i) [
    | inl y ↦ both_ways _ n y
    | inr h ↦ let a = h.2.there in let c = h.2.plain in elim far [ inl x ↦ absurd (omega (arith, x, a)) | inr x ↦ absurd (omega (arith, x, c)) ]
  ]

  pub values : (t k e : ℕ) → IsSymbolAt b t k e → names_no_section (half_at b (e + 14)) ≡ false → (header b (half_at b (e + 14))).size < place_of (byte_at b (e + 12) % 16) (word_at b (e + 4)) → ⊥
  values t k e i n far = elim (at_home t k e i) [
    | inl y ↦ both_ways _ n y
    | inr h ↦
        let same : place_of (byte_at b (e + 12) % 16) (word_at b (e + 4)) ≡ place_of h.0.kind h.0.value = ap (λ (s : Symbol). place_of s.kind s.value) h.1 in
        let room = h.2.value in
        absurd (omega (arith, far, same, room))
  ]
