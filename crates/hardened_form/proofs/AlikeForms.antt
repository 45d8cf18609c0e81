-- Forms that put units and words at the same places are alike but for the bytes of code.
use Rattle.std.proofs.Common.{◌≡◌, ℕ, ◌<◌, true, false, List, [], ◌∷◌, ◌++◌, length, map, filter, refl, sym, ap, ◌∙◌, subst, inl, inr, arith, Option, Some, None}
use Rattle.std.specs.Prelude.{slice_get, if◌then◌else◌}
use Rattle.std.proofs.lemmas.Bool.{true≢false, cases_Bool, cases_lt}
use Rattle.std.proofs.lemmas.List.{ext_get_or}
use Rattle.std.proofs.lemmas.Option.{same_Some, slice_get_within}
use Rattle.elf_model.specs.declared.objects.Section.{Section}
use Rattle.elf_model.specs.declared.objects.Symbol.{Symbol}
use Rattle.elf_model.specs.declared.objects.Home.{Home}
use Rattle.elf_model.specs.declared.objects.Home.TheVariants as homes
use Rattle.elf_model.specs.Objects.{ObjectParts, is_code, is_code_kind, even}
use Rattle.elf_model.specs.Maps.{map_section}
use Rattle.elf_model.proofs.Elements.{element_at}
use Rattle.code_ranges.specs.CodeRanges.{holds_code}
use Rattle.reloc_places.specs.Relocations.{is_in_code}
use Rattle.flow_recover.specs.Flows.{FlowParts}
use Rattle.hardened_form.specs.Places.{Places}
use Rattle.hardened_form.specs.Items.{Item, items_in, StandFrom}
use Rattle.hardened_form.specs.Standing.{old_points, old_words, new_place}
use Rattle.hardened_form.specs.Sections.{IsNewSection}
use Rattle.hardened_form.specs.MappingSymbols.{Mapping, IsMapping, mapping_symbol}
use Rattle.hardened_form.specs.MappingSymbols.{IsMapping as mapping}
use Rattle.hardened_form.specs.Symbols.{Lists, size_of, moved_to, moved, moved_in, stays, is_shared, target_symbol, new_symbols}
use Rattle.hardened_form.specs.Carriers.{Carrier}
use Rattle.hardened_form.specs.Relocs.{AreRelocs}
use Rattle.hardened_form.specs.HardenedForms.{IsHardenedForm}
use Rattle.hardened_form.specs.OneForm.{FormsAreAlike}
use Rattle.hardened_form.proofs.OneList.{items_once, rows_once, mappings_once, targets_once, relocs_once}

-- items fill one size
one_size : (x : ℕ) (items : List Item) (a b : ℕ) → StandFrom x items a → StandFrom x items b → a ≡ b
one_size x [] a b s t = sym s ∙ t
one_size x (it ∷ rest) a b s t = one_size it.end rest a b s.1 t.1

map_same : {X Y : Type 0} (f g : X → Y) (xs : List X) → ((x : X) → f x ≡ g x) → map f xs ≡ map g xs
map_same f g [] same = refl
map_same f g (x ∷ xs) same = ap (λ (y : _). y ∷ map f xs) (same x) ∙ ap (λ (ys : List _). g x ∷ ys) (map_same f g xs same)

module _ (o g h : ObjectParts) (f : FlowParts) (p : Places) (carriers : List (List Carrier)) (a : IsHardenedForm o g f p carriers) (b : IsHardenedForm o h f p carriers) where
  same_items : a.lists.items ≡ b.lists.items
  same_items = items_once (old_points f) (old_words f) p a.lists.items b.lists.items a.tables.lists.items b.tables.lists.items

  same_rows : a.rows ≡ b.rows
  same_rows = rows_once o f p a.rows b.rows a.tables.map b.tables.map

  new_code : (j : ℕ) (s t : Section) → IsNewSection o j s t → is_code t ≡ is_code s
  new_code j s t n = ap (λ (k : ℕ). is_code_kind k t.flags) n.kind ∙ ap (λ (fl : ℕ). is_code_kind s.kind fl) n.flags

  code_size_same : (j : ℕ) (s t u : Section) → slice_get o.sections j ≡ Some s → is_code s ≡ true → slice_get g.sections j ≡ Some t → slice_get h.sections j ≡ Some u → t.size ≡ u.size
  code_size_same j s t u es c et eu =
      let ct = new_code j s t (a.tables.sections.each j s t es et) ∙ c in
      let cu = new_code j s u (b.tables.sections.each j s u es eu) ∙ c in
      let st = (a.tiled j t et ct).stand in
      let su = subst (λ (items : List Item). StandFrom 0 (items_in items j) u.size) (sym same_items) (b.tiled j u eu cu).stand in
      one_size 0 (items_in a.lists.items j) t.size u.size st su

  same_code : (j : ℕ) (s t u : Section) → slice_get o.sections j ≡ Some s → is_code s ≡ true → slice_get g.sections j ≡ Some t → slice_get h.sections j ≡ Some u → t ≡ record u { bytes = t.bytes }
  same_code j s t u es c et eu =
      let n = a.tables.sections.each j s t es et in
      let m = b.tables.sections.each j s u es eu in
      let name = n.name ∙ sym m.name in
      let kind = n.kind ∙ sym m.kind in
      let flags = n.flags ∙ sym m.flags in
      let align = n.code c ∙ sym (m.code c) in
      let entry = n.entry ∙ sym m.entry in
      let size = code_size_same j s t u es c et eu in
      λ i. record { name = name i; kind = kind i; flags = flags i; align = align i; entry = entry i; size = size i; bytes = t.bytes }

  same_data : (j : ℕ) (s t u : Section) → slice_get o.sections j ≡ Some s → is_code s ≡ false → slice_get g.sections j ≡ Some t → slice_get h.sections j ≡ Some u → t ≡ u
  same_data j s t u es c et eu =
      let n = a.tables.sections.each j s t es et in
      let m = b.tables.sections.each j s u es eu in
      let kt = n.kept c in
      let ku = m.kept c in
      let name = n.name ∙ sym m.name in
      let kind = n.kind ∙ sym m.kind in
      let flags = n.flags ∙ sym m.flags in
      let align = kt.align ∙ sym ku.align in
      let entry = n.entry ∙ sym m.entry in
      let size = kt.size ∙ sym ku.size in
      let bytes : t.bytes ≡ u.bytes = ext_get_or 0 t.bytes u.bytes (kt.count ∙ sym ku.count) (λ x l.
      let low : x < length s.bytes = omega (arith, kt.count, l) in
      kt.bytes x low ∙ sym (ku.bytes x low)) in
      λ i. record { name = name i; kind = kind i; flags = flags i; align = align i; entry = entry i; size = size i; bytes = bytes i }

  same_count : length g.sections ≡ length h.sections
  same_count = a.tables.sections.count ∙ sym b.tables.sections.count

  other_of : (j : ℕ) (t : Section) → slice_get g.sections j ≡ Some t → (u : Section) × (slice_get h.sections j ≡ Some u)
  other_of j t e = let l = slice_get_within g.sections j t e in element_at h.sections j (omega (arith, l, same_count))

  no_map : (t : Section) → slice_get g.sections (length o.sections) ≡ Some t → is_code t ≡ true → ⊥
  no_map t e c = true≢false (sym c ∙ ap is_code (same_Some t (map_section a.rows) (sym e ∙ a.tables.sections.map)))

  -- a section of code in the first is one in the second, of the same size
  record CodeThere (j : ℕ) (t : Section) : Type 0 where
    old : Section
    was : slice_get o.sections j ≡ Some old
    other : Section
    there : slice_get h.sections j ≡ Some other
    code : is_code other ≡ true
    size : t.size ≡ other.size

  below : (j : ℕ) (t : Section) → slice_get g.sections j ≡ Some t → is_code t ≡ true → j < length o.sections
  below j t e c =
      elim (cases_lt j (length o.sections)) [
        | inl l ↦ l
        | inr m ↦
            let small = slice_get_within g.sections j t e in
            let last : length o.sections ≡ j = omega (arith, m, small, a.tables.sections.count) in
            absurd (no_map t (ap (slice_get g.sections) last ∙ e) c)
      ]

  code_there : (j : ℕ) (t : Section) → slice_get g.sections j ≡ Some t → is_code t ≡ true → CodeThere j t
  code_there j t e c =
      let old = element_at o.sections j (below j t e c) in
      let u = other_of j t e in
      let co = sym (new_code j old.0 t (a.tables.sections.each j old.0 t old.1 e)) ∙ c in
      record {
        old = old.0;
        was = old.1;
        other = u.0;
        there = u.1;
        code = new_code j old.0 u.0 (b.tables.sections.each j old.0 u.0 old.1 u.1) ∙ co;
        size = code_size_same j old.0 t u.0 old.1 co e u.1;
      }

  over : (m : Mapping) → IsMapping g f p m → IsMapping h f p m
  over _ (mapping.first j t e c l w) = let q = code_there j t e c in mapping.first j q.other q.there q.code (subst (λ (n : ℕ). 0 < n) q.size l) w
  over _ (mapping.word j x w n) = mapping.word j x w n
  over _ (mapping.behind j x w n) = mapping.behind j x w n

  -- the size of a section of code
  size_there : (j : ℕ) → holds_code (slice_get o.sections j) ≡ true → size_of (slice_get g.sections j) ≡ size_of (slice_get h.sections j)
  size_there j c = go (slice_get o.sections j) refl c
    where
      go : (s : Option Section) → slice_get o.sections j ≡ s → holds_code s ≡ true → size_of (slice_get g.sections j) ≡ size_of (slice_get h.sections j)
      go None e c = absurd (true≢false (sym c))
      go (Some s) e c =
          let l = slice_get_within o.sections j s e in
          let t = element_at g.sections j (omega (arith, l, a.tables.sections.count)) in
          let u = element_at h.sections j (omega (arith, l, b.tables.sections.count)) in
          ap size_of t.1 ∙ code_size_same j s t.0 u.0 e c t.1 u.1 ∙ sym (ap size_of u.1)

  moved_in_same : (items : List Item) (s : Symbol) (home : Home) → s.home ≡ home → moved_in o g items s home ≡ moved_in o h items s home
  moved_in_same items s homes.Undefined e = refl
  moved_in_same items s homes.Absolute e = refl
  moved_in_same items s (homes.Section j) e =
      elim (cases_Bool (is_in_code o s.home)) [
        | inl c ↦
            let size = size_there j (sym (ap (is_in_code o) e) ∙ c) in
            ap (λ (n : ℕ). if is_in_code o s.home then moved_to items j s (new_place items j (even s.value)) n else s) size
        | inr n ↦ rw n
      ]

  moved_same : (items : List Item) (s : Symbol) → moved o g items s ≡ moved o h items s
  moved_same items s = moved_in_same items s s.home refl

same_mappings : (o g h : ObjectParts) (f : FlowParts) (p : Places) (carriers : List (List Carrier)) (a : IsHardenedForm o g f p carriers) (b : IsHardenedForm o h f p carriers) → a.lists.mappings ≡ b.lists.mappings
same_mappings o g h f p carriers a b =
    mappings_once g f p a.lists.mappings b.lists.mappings a.tables.lists.mappings (record {
      exact = λ m. (
        λ c. over o h g f p carriers b a m ((b.tables.lists.mappings.exact m).0 c),
        λ c. (b.tables.lists.mappings.exact m).1 (over o g h f p carriers a b m c),
      );
      rise = b.tables.lists.mappings.rise;
    })

same_lists : (o g h : ObjectParts) (f : FlowParts) (p : Places) (carriers : List (List Carrier)) (a : IsHardenedForm o g f p carriers) (b : IsHardenedForm o h f p carriers) → a.lists ≡ b.lists
same_lists o g h f p carriers a b =
    let items = same_items o g h f p carriers a b in
    let mappings = same_mappings o g h f p carriers a b in
    let targets = targets_once o f a.lists.targets b.lists.targets a.tables.lists.targets b.tables.lists.targets in
    λ i. record { items = items i; mappings = mappings i; targets = targets i }

symbols_same : (o g h : ObjectParts) (l : Lists) → ((s : Symbol) → moved o g l.items s ≡ moved o h l.items s) → new_symbols o g l ≡ new_symbols o h l
symbols_same o g h l same =
    let locals = map_same (moved o g l.items) (moved o h l.items) (filter (stays o l.items) o.symbols) same in
    let others = map_same (moved o g l.items) (moved o h l.items) (filter is_shared o.symbols) same in
    λ i. locals i ++ map mapping_symbol l.mappings ++ map (target_symbol o l.items) l.targets ++ others i

pub forms_alike : FormsAreAlike
forms_alike o g h f p carriers a b =
    let lists = same_lists o g h f p carriers a b in
    record {
      flags = a.tables.sections.flags ∙ sym b.tables.sections.flags;
      count = same_count o g h f p carriers a b;
      code = same_code o g h f p carriers a b;
      others = same_data o g h f p carriers a b;
      map = a.tables.sections.map ∙ ap (λ (rows : _). Some (map_section rows)) (same_rows o g h f p carriers a b) ∙ sym b.tables.sections.map;
      symbols = a.tables.symbols ∙ symbols_same o g h a.lists (moved_same o g h f p carriers a b a.lists.items) ∙ ap (new_symbols o h) lists ∙ sym b.tables.symbols;
      relocs = relocs_once o g h f p carriers b.lists (subst (λ (l : Lists). AreRelocs o g f p carriers l) lists a.tables.relocs) b.tables.relocs;
    }
