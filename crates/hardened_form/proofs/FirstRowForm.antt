-- The first row's form: its lists, map, sections, symbols and words.
use Rattle.std.specs.Prelude.{◌≡◌, ℕ, ◌==◌, true, false, [], ◌∷◌, Some, slice_get, Contains, refl}
use Rattle.std.specs.List.Sorted.{IsStrictlySortedBy}
use Rattle.std.proofs.Common.{arith, sym, ◌∙◌, subst, inl, inr}
use Rattle.std.proofs.lemmas.Bool.{true≢false, cases_Bool}
use Rattle.std.proofs.lemmas.Option.{none-some, same_Some}
use Rattle.elf_model.specs.declared.objects.Section.{Section}
use Rattle.elf_model.specs.declared.objects.Reloc.{Reloc}
use Rattle.elf_model.specs.declared.objects.MapRow.{MapRow}
use Rattle.elf_model.specs.declared.objects.RowKind.TheVariants.{Start, Return}
use Rattle.elf_model.specs.Objects.{is_code}
use Rattle.elf_model.proofs.Elements.{contains_none}
use Rattle.flow_recover.specs.declared.flows.Point.{Point}
use Rattle.flow_recover.specs.declared.flows.PoolWord.{PoolWord}
use Rattle.flow_recover.specs.declared.flows.Exit.TheVariants as exits
use Rattle.hardened_form.specs.Places.{UnitPlace}
use Rattle.hardened_form.specs.Items.{AreItems}
use Rattle.hardened_form.specs.Standing.{units, old_points, old_words}
use Rattle.flow_recover.specs.Points.{end_of}
use Rattle.hardened_form.specs.Rows.{ordinal, IsRow, AreRows}
use Rattle.hardened_form.specs.Rows.{IsRow as row}
use Rattle.hardened_form.specs.Turns.{IsTurnedTo, AreTargets}
use Rattle.hardened_form.specs.Sections.{IsNewSection, AreSections}
use Rattle.hardened_form.specs.MappingSymbols.{Mapping, IsMapping, AreMappings, has_word, follows_word}
use Rattle.hardened_form.specs.MappingSymbols.{IsMapping as mapping}
use Rattle.hardened_form.specs.Symbols.{Lists}
use Rattle.hardened_form.specs.Carriers.{AreCarried}
use Rattle.hardened_form.specs.Relocs.{IsNewReloc, AreRelocs, IsWordOf}
use Rattle.hardened_form.specs.Relocs.{IsNewReloc as news}
use Rattle.hardened_form.specs.Relocs.{IsWordOf as words}
use Rattle.hardened_form.specs.Code.{AreTiled, IsTiled}
use Rattle.hardened_form.specs.FirstRow.{text_of, plain, hard, rows, first, last, flow, twice, places, carriers, FirstRowHasItsForm}
use Rattle.hardened_form.proofs.ShortLists.{each_of, each_at}

abbrev lists : Lists
lists = record {
  items = record { section = 0; old = 0; new = 0; end = 4; word = false } ∷ record { section = 0; old = 2; new = 4; end = 8; word = false } ∷ [];
  mappings = record { section = 0; at = 0; code = true } ∷ [];
  targets = [];
}

abbrev new_text : Section
new_text = text_of 8 (0x05 ∷ 0x20 ∷ 0x05 ∷ 0x20 ∷ 0x70 ∷ 0x47 ∷ 0x70 ∷ 0x47 ∷ [])

-- no section has words
module _ (j x : ℕ) where
  no_words : has_word flow places j x ≡ false
  no_words = elim (cases_Bool (0 == j)) [ inl e ↦ rw e | inr e ↦ rw e ]

  nothing_behind : follows_word flow places j x ≡ false
  nothing_behind = elim (cases_Bool (0 == j)) [ inl e ↦ rw e | inr e ↦ rw e ]

are_items : AreItems (old_points flow) (old_words flow) places lists.items
unfolding IsStrictlySortedBy
are_items = record { units = refl; pool = refl; same = λ it. ((λ h. h), (λ h. h)); rise = ((refl, tt), (tt, tt)) }

tiled : AreTiled hard lists.items
tiled =
    each_at (λ j t. is_code t ≡ true → IsTiled lists.items j t) hard.sections
    ((λ c. record { stand = (refl, (refl, refl)); filled = (inl refl, (inl refl, tt)) }), ((λ c. absurd (true≢false (sym c))), tt))

new_section : (j : ℕ) (s t : Section) → slice_get plain.sections j ≡ Some s → slice_get hard.sections j ≡ Some t → IsNewSection plain j s t
new_section j s t e =
    each_at (λ j s. slice_get hard.sections j ≡ Some t → IsNewSection plain j s t) plain.sections (
      (λ f. subst (λ (y : Section). IsNewSection plain 0 (text_of 4 (0x05 ∷ 0x20 ∷ 0x70 ∷ 0x47 ∷ [])) y) (same_Some new_text t f) (record {
        name = refl;
        kind = refl;
        flags = refl;
        entry = refl;
        code = λ c. refl;
        kept = λ c. absurd (true≢false c);
      })),
      tt,
    ) j s e

are_sections : AreSections plain hard rows
are_sections = record { flags = refl; count = refl; each = new_section; map = refl }

-- the rows
falls_is_no_call : exits.Falls ≡ exits.Call → ⊥
falls_is_no_call e = cc

return_is_no_call : exits.Return ≡ exits.Call → ⊥
return_is_no_call e = cc

abbrev at_start : Point × UnitPlace → MapRow
at_start e = record { section = ordinal plain e.0.section; old = e.0.offset; new = e.1.start; kind = Start }

abbrev at_return : Point × UnitPlace → MapRow
at_return e = record { section = ordinal plain e.0.section; old = end_of e.0; new = e.1.back; kind = Return }

has_row : (r : MapRow) → IsRow plain flow places r → Contains rows r
has_row _ (row.starts x u c) =
    each_of (λ (e : Point × UnitPlace). Contains rows (at_start e)) (units flow places) ((0, omega arith, refl), ((1, omega arith, refl), tt)) (x, u) c
has_row _ (row.returns x u c call) =
    each_of (λ (e : Point × UnitPlace). e.0.exit ≡ exits.Call → Contains rows (at_return e)) (units flow places)
    ((λ e. absurd (falls_is_no_call e)), ((λ e. absurd (return_is_no_call e)), tt)) (x, u) c call

are_rows : AreRows plain flow places rows
unfolding IsStrictlySortedBy
are_rows = record {
  exact = λ r. (
    each_of (IsRow plain flow places) rows (row.starts first (twice 0) (0, omega arith, refl), (row.starts last (twice 4) (1, omega arith, refl), tt)) r,
    has_row r,
  );
  rise = ((refl, tt), (tt, tt));
}

-- the symbols
has_mapping : (m : Mapping) → IsMapping hard flow places m → Contains lists.mappings m
has_mapping _ (mapping.first j t e c l w) =
    each_at (λ j t. is_code t ≡ true → Contains lists.mappings (record { section = j; at = 0; code = true })) hard.sections
    ((λ c. (0, omega arith, refl)), ((λ c. absurd (true≢false (sym c))), tt)) j t e c
has_mapping _ (mapping.word j x w f) = absurd (true≢false (sym w ∙ no_words j x))
has_mapping _ (mapping.behind j x w f) = absurd (true≢false (sym w ∙ nothing_behind j x))

are_mappings : AreMappings hard flow places lists.mappings
unfolding IsStrictlySortedBy
are_mappings = record {
  exact = λ m. (each_of (IsMapping hard flow places) lists.mappings (mapping.first 0 new_text refl refl (omega arith) refl, tt) m, has_mapping m);
  rise = (tt, tt);
}

are_targets : AreTargets plain flow lists.targets
unfolding IsStrictlySortedBy
are_targets = record { exact = λ t. ((λ c. absurd (contains_none t c)), (λ (h : IsTurnedTo plain flow t). absurd (none-some h.reloc h.there))); rise = tt }

-- no word and no relocation
no_word : (w : PoolWord) (y : ℕ) → IsWordOf flow places w y → ⊥
no_word w _ (words.in_pool y c) = contains_none (w, y) c
no_word w _ (words.in_island x u n y c e f g) = none-some w f

no_reloc : (q : Reloc) → IsNewReloc plain flow places carriers lists q → ⊥
no_reloc q (news.of_data k r s e c h) = none-some r h.there
no_reloc q (news.of_step k r x c h e s) = none-some r s.there
no_reloc q (news.of_word k r w y h e s) = none-some r s.there

are_relocs : AreRelocs plain hard flow places carriers lists
are_relocs = record { exact = λ q. ((λ c. absurd (contains_none q c)), (λ h. absurd (no_reloc q h))); rise = refl }

are_carried : AreCarried plain hard flow places carriers
are_carried = record { count = refl; each = λ x u all c k r m n e there. absurd (none-some r there) }

pub first_row : FirstRowHasItsForm
first_row = record {
  lists = lists;
  rows = rows;
  tables = record {
    lists = record { items = are_items; mappings = are_mappings; targets = are_targets };
    map = are_rows;
    sections = are_sections;
    symbols = refl;
    relocs = are_relocs;
  };
  tiled = tiled;
  words = λ w y h. absurd (no_word w y h);
  carried = are_carried;
}
