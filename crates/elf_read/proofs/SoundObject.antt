-- What is read of a file without faults is an object.
use Rattle.std.proofs.Common.{◌≡◌, ◌≤◌, ◌<◌, ℕ, ◌+◌, ◌-◌, ◌*◌, ◌/◌, Bool, true, List, [], ◌∷◌, Some, None, arith, refl, sym, ap, ◌∙◌, subst, map, filter}
use Rattle.std.specs.Prelude.{if◌then◌else◌, All, IsPermutation}
use Rattle.std.specs.List.{list_all, flat_map}
use Rattle.std.specs.List.Sorted.{IsSortedByKey}
use Rattle.std.proofs.lemmas.Bool.{and_from, eq-eqb}
use Rattle.std.proofs.lemmas.List.Elements.{All-head, All-tail, All-map, All-filter, filter_passes}
use Rattle.std.proofs.lemmas.List.Sorted.{All-permutation}
use Rattle.elf_model.specs.declared.refusals.Limit.{Limit}
use Rattle.elf_model.specs.declared.refusals.Refusal.TheVariants.{BadTable, BadReloc, SectionKind}
use Rattle.std.proofs.lemmas.Option.{same_Some}
use Rattle.elf_model.specs.declared.objects.Section.{Section}
use Rattle.elf_model.specs.declared.objects.Symbol.{Symbol}
use Rattle.elf_model.specs.declared.objects.Reloc.{Reloc}
use Rattle.elf_model.specs.Fields.{word_at}
use Rattle.elf_model.specs.Objects.{ObjectParts, is_object, is_reloc, made_of}
use Rattle.elf_model.specs.Files.{header, header_count, headers, section_of, kept_headers, symbol_of, kept_symbols, is_reloc_table, entries_of, reloc_entries, reloc_of, StandsFor}
use Rattle.elf_read.specs.Faults.{IsFaultless, IsHeader, IsRelocAt}
use Rattle.elf_read.specs.Keeping.{is_some_reloc}
use Rattle.elf_read.specs.RelocFaults.{pair_cmp}
use Rattle.elf_read.proofs.Formed.{IsFormed, formed, has_symbols}
use Rattle.elf_read.proofs.BadRelocs.{entry_at}
use Rattle.elf_read.proofs.BuiltLists.{reloc_table_is}
use Rattle.elf_read.proofs.SoundSections.{sections_good}
use Rattle.elf_read.proofs.SoundParts.{symbols_good, locals_are_first, reloc_good, one_place}
use Rattle.elf_read.proofs.SoundOrder.{Apart, Differ, key_of, all_entries, apart_entries, apart_filter, apart_map, count_apart, once_moved, rise_sorted}

all_test : {X : Type 0} (p : X → Bool) (xs : List X) → All (λ x. p x ≡ true) xs → list_all p xs ≡ true
all_test p [] a = refl
all_test p (x ∷ xs) a = and_from (p x) (list_all p xs) (All-head (λ x. p x ≡ true) x xs a) (all_test p xs (All-tail (λ x. p x ≡ true) x xs a))

module _ (b : List ℕ) (l : Limit) (none : IsFaultless b l) where
  form : IsFormed b
  form = formed b l (λ r s o n f. none r s o f)

  entry_there : (h j : ℕ) → 1 ≤ h → h < 1 + (header_count b - 1) → is_reloc_table b h ≡ true → j < (header b h).size / 8 → IsRelocAt b h j ((header b h).offset + 8 * j)
  entry_there h j p q t m =
      let i : IsHeader b h = record { behind_null = omega arith; there = omega arith } in
      entry_at b h form.tabled i (sym (reloc_table_is b h form.tabled i) ∙ t) j m

  relocs_good : All (λ r. is_reloc (map (section_of b) (kept_headers b)) (map (symbol_of b) (kept_symbols b)) r ≡ true) (map (reloc_of b) (reloc_entries b))
  relocs_good =
      let P : ℕ × ℕ → Type 0 = λ e. is_some_reloc b e ≡ true → is_reloc (map (section_of b) (kept_headers b)) (map (symbol_of b) (kept_symbols b)) (reloc_of b e) ≡ true in
      let has = has_symbols b l form.tabled form.homes (none BadReloc) in
      let all : All P (flat_map (entries_of b) (filter (is_reloc_table b) (headers b))) = all_entries b P 1 (header_count b - 1) (λ h j p q t m s.
      reloc_good b l form.tabled form.named form.symbols form.homes has (none BadReloc) h j _ (entry_there h j p q t m) s) in
      let kept : All P (reloc_entries b) = All-filter (is_some_reloc b) P (flat_map (entries_of b) (filter (is_reloc_table b) (headers b))) all in
      let some : All (λ e. is_some_reloc b e ≡ true) (reloc_entries b) = filter_passes (is_some_reloc b) (flat_map (entries_of b) (filter (is_reloc_table b) (headers b))) in
      All-map (λ r. is_reloc (map (section_of b) (kept_headers b)) (map (symbol_of b) (kept_symbols b)) r ≡ true) (reloc_of b) (reloc_entries b) (λ k d u. kept k d u (some k d u))

  relocs_apart : Apart Differ (map (reloc_of b) (reloc_entries b))
  relocs_apart =
      let has = has_symbols b l form.tabled form.homes (none BadReloc) in
      let R : ℕ × ℕ → ℕ × ℕ → Type 0 = λ e f. Differ (reloc_of b e) (reloc_of b f) in
      let all : Apart R (flat_map (entries_of b) (filter (is_reloc_table b) (headers b))) = apart_entries b R 1 (header_count b - 1) (λ g i h j s t p q u v m n order same word.
      one_place b l form.tabled form.named form.symbols form.homes has (none BadReloc) h j _ g i _ (entry_there h j u v t n) (entry_there g i p q s m) order same word) in
      apart_map Differ (reloc_of b) (reloc_entries b) (apart_filter R (is_some_reloc b) (flat_map (entries_of b) (filter (is_reloc_table b) (headers b))) all)

  module _ (relocs : List Reloc) (moved : IsPermutation (map (reloc_of b) (reloc_entries b)) relocs) (sorted : IsSortedByKey key_of pair_cmp relocs) where
    pub object_good : is_object (record { sections = map (section_of b) (kept_headers b); symbols = map (symbol_of b) (kept_symbols b); relocs = relocs; flags = word_at b 36 }) ≡ true
    object_good =
        let sections = sections_good b l form.tabled form.named (none BadTable) (none SectionKind) in
        let symbols = symbols_good b form.tabled form.named form.symbols in
        let locals = locals_are_first b form.tabled form.named form.symbols in
        let good = all_test (is_reloc (map (section_of b) (kept_headers b)) (map (symbol_of b) (kept_symbols b))) relocs (All-permutation (λ r. is_reloc (map (section_of b) (kept_headers b)) (map (symbol_of b) (kept_symbols b)) r ≡ true) (map (reloc_of b) (reloc_entries b)) relocs moved relocs_good) in
        let rises = rise_sorted relocs sorted (λ q. once_moved q (map (reloc_of b) (reloc_entries b)) relocs moved (count_apart q (map (reloc_of b) (reloc_entries b)) relocs_apart)) in
        and_from _ _ (and_from _ _ (and_from _ _ (and_from _ _ (and_from _ _ sections symbols) locals) good) rises) (eq-eqb _ 5 form.format.version)

    pub stands : StandsFor b (record { sections = map (section_of b) (kept_headers b); symbols = map (symbol_of b) (kept_symbols b); relocs = relocs; flags = word_at b 36 })
    stands = record { format = form.format; tables = form.tables; flags = refl; sections = refl; symbols = refl; relocs = moved; sound = object_good }

-- what is made of the parts
module _ (b : List ℕ) (l : Limit) (none : IsFaultless b l) (sections : List Section) (symbols : List Symbol) (relocs : List Reloc) (flags : ℕ)
    (s : sections ≡ map (section_of b) (kept_headers b)) (y : symbols ≡ map (symbol_of b) (kept_symbols b))
    (moved : IsPermutation (map (reloc_of b) (reloc_entries b)) relocs) (sorted : IsSortedByKey key_of pair_cmp relocs) (f : flags ≡ word_at b 36) where
  abbrev pub parts_of : ObjectParts
  parts_of = record { sections = sections; symbols = symbols; relocs = relocs; flags = flags }

  abbrev pub whole_of : ObjectParts
  whole_of = record { sections = map (section_of b) (kept_headers b); symbols = map (symbol_of b) (kept_symbols b); relocs = relocs; flags = word_at b 36 }

  same_parts : parts_of ≡ whole_of
  same_parts = λ i. record { sections = s i; symbols = y i; relocs = relocs; flags = f i }

  pub made_good : made_of sections symbols relocs flags ≡ Some parts_of
  made_good = ap (λ (t : Bool). if t then Some parts_of else None) (ap is_object same_parts ∙ object_good b l none relocs moved sorted)

  pub made_stands : (o : ObjectParts) → made_of sections symbols relocs flags ≡ Some o → StandsFor b o
  made_stands o e =
      let same : whole_of ≡ o = sym same_parts ∙ same_Some parts_of o (sym made_good ∙ e) in
      subst (StandsFor b) same (stands b l none relocs moved sorted)
