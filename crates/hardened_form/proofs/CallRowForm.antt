-- The call's form: its lists, map, sections, symbols, and a relocation on each branch.
use Rattle.std.specs.Prelude.{◌≡◌, ℕ, ◌==◌, true, false, [], ◌∷◌, Some, slice_get, Contains, refl}
use Rattle.std.specs.List.Sorted.{IsStrictlySortedBy}
use Rattle.std.specs.List.{zip}
use Rattle.std.proofs.Common.{arith, ap, sym, ◌∙◌, subst, inl, inr, List}
use Rattle.std.proofs.lemmas.Bool.{true≢false, cases_Bool}
use Rattle.std.proofs.lemmas.Option.{none-some, same_Some}
use Rattle.elf_model.specs.declared.objects.Section.{Section}
use Rattle.elf_model.specs.declared.objects.Symbol.{Symbol}
use Rattle.elf_model.specs.declared.objects.Reloc.{Reloc}
use Rattle.elf_model.specs.declared.objects.MapRow.{MapRow}
use Rattle.elf_model.specs.declared.objects.RelocKind.TheVariants.{ThmCall, ThmJump24}
use Rattle.elf_model.specs.declared.objects.RowKind.TheVariants.{Start, Return}
use Rattle.elf_model.specs.Objects.{is_code}
use Rattle.elf_model.proofs.Elements.{contains_none}
use Rattle.thumb_instr.specs.HalfRows.{half_rows}
use Rattle.thumb_instr.specs.FullRows.{full_rows, on_condition_branch}
use Rattle.flow_recover.specs.declared.flows.Point.{Point}
use Rattle.flow_recover.specs.declared.flows.PoolWord.{PoolWord}
use Rattle.flow_recover.specs.Points.{end_of}
use Rattle.hardened_form.specs.Places.{UnitPlace}
use Rattle.hardened_form.specs.Items.{AreItems}
use Rattle.hardened_form.specs.Standing.{units, old_points, old_words}
use Rattle.hardened_form.specs.Rows.{ordinal, IsRow, AreRows}
use Rattle.hardened_form.specs.Rows.{IsRow as row}
use Rattle.hardened_form.specs.Turns.{is_turned, IsTurnedTo, AreTargets}
use Rattle.hardened_form.specs.Sections.{IsNewSection, AreSections}
use Rattle.hardened_form.specs.MappingSymbols.{Mapping, IsMapping, AreMappings, has_word, follows_word}
use Rattle.hardened_form.specs.MappingSymbols.{IsMapping as mapping}
use Rattle.hardened_form.specs.Symbols.{Lists}
use Rattle.hardened_form.specs.Carriers.{Carrier, kind_on, IsCarried, AreCarried}
use Rattle.hardened_form.specs.Relocs.{new_number, IsNewSymbol, IsNewReloc, AreRelocs, IsWordOf, StandsFor}
use Rattle.hardened_form.specs.Relocs.{IsNewReloc as news}
use Rattle.hardened_form.specs.Relocs.{IsNewSymbol as symbols}
use Rattle.hardened_form.specs.Relocs.{IsWordOf as words}
use Rattle.hardened_form.specs.Code.{AreTiled, IsTiled}
use Rattle.hardened_form.specs.FirstRow.{text_of}
use Rattle.hardened_form.specs.CallRow.{abort, plain, hard, rows, bytes, jump_at, call, flow, unit, places, jump, carriers, CallRowHasItsForm}
use Rattle.hardened_form.proofs.ShortLists.{each_of, each_at}

abbrev lists : Lists
lists = record {
  items = record { section = 0; old = 0; new = 0; end = 20; word = false } ∷ [];
  mappings = record { section = 0; at = 0; code = true } ∷ [];
  targets = [];
}

abbrev new_text : Section
new_text = text_of 20 bytes

-- no section has words
module _ (j x : ℕ) where
  no_words : has_word flow places j x ≡ false
  no_words = elim (cases_Bool (0 == j)) [ inl e ↦ rw e | inr e ↦ rw e ]

  nothing_behind : follows_word flow places j x ≡ false
  nothing_behind = elim (cases_Bool (0 == j)) [ inl e ↦ rw e | inr e ↦ rw e ]

are_items : AreItems (old_points flow) (old_words flow) places lists.items
unfolding IsStrictlySortedBy
are_items = record { units = refl; pool = refl; same = λ it. ((λ h. h), (λ h. h)); rise = (tt, tt) }

tiled : AreTiled hard lists.items
tiled =
    each_at (λ j t. is_code t ≡ true → IsTiled lists.items j t) hard.sections
    ((λ c. record { stand = (refl, refl); filled = (inl refl, tt) }), ((λ c. absurd (true≢false (sym c))), tt))

new_section : (j : ℕ) (s t : Section) → slice_get plain.sections j ≡ Some s → slice_get hard.sections j ≡ Some t → IsNewSection plain j s t
new_section j s t e =
    each_at (λ j s. slice_get hard.sections j ≡ Some t → IsNewSection plain j s t) plain.sections (
      (λ f. subst (λ (y : Section). IsNewSection plain 0 (text_of 4 (0xFF ∷ 0xF7 ∷ 0xFE ∷ 0xFF ∷ [])) y) (same_Some new_text t f) (record {
        name = refl;
        kind = refl;
        flags = refl;
        entry = refl;
        code = λ c. refl;
        kept = λ c. absurd (true≢false c);
      })),
      tt,
    ) j s e

are_sections : AreSections plain hard rows
are_sections = record { flags = refl; count = refl; each = new_section; map = refl }

-- the rows
abbrev at_start : Point × UnitPlace → MapRow
at_start e = record { section = ordinal plain e.0.section; old = e.0.offset; new = e.1.start; kind = Start }

abbrev at_return : Point × UnitPlace → MapRow
at_return e = record { section = ordinal plain e.0.section; old = end_of e.0; new = e.1.back; kind = Return }

has_row : (r : MapRow) → IsRow plain flow places r → Contains rows r
has_row _ (row.starts x u c) = each_of (λ (e : Point × UnitPlace). Contains rows (at_start e)) (units flow places) ((0, omega arith, refl), tt) (x, u) c
has_row _ (row.returns x u c call) = each_of (λ (e : Point × UnitPlace). Contains rows (at_return e)) (units flow places) ((1, omega arith, refl), tt) (x, u) c

are_rows : AreRows plain flow places rows
unfolding IsStrictlySortedBy
are_rows = record {
  exact = λ r. (
    each_of (IsRow plain flow places) rows (row.starts call unit (0, omega arith, refl), (row.returns call unit (0, omega arith, refl) refl, tt)) r,
    has_row r,
  );
  rise = ((refl, tt), (tt, tt));
}

-- the symbols
has_mapping : (m : Mapping) → IsMapping hard flow places m → Contains lists.mappings m
has_mapping _ (mapping.first j t e c l w) =
    each_at (λ j t. is_code t ≡ true → Contains lists.mappings (record { section = j; at = 0; code = true })) hard.sections
    ((λ c. (0, omega arith, refl)), ((λ c. absurd (true≢false (sym c))), tt)) j t e c
has_mapping _ (mapping.word j x w f) = absurd (true≢false (sym w ∙ no_words j x))
has_mapping _ (mapping.behind j x w f) = absurd (true≢false (sym w ∙ nothing_behind j x))

are_mappings : AreMappings hard flow places lists.mappings
unfolding IsStrictlySortedBy
are_mappings = record {
  exact = λ m. (each_of (IsMapping hard flow places) lists.mappings (mapping.first 0 new_text refl refl (omega arith) refl, tt) m, has_mapping m);
  rise = (tt, tt);
}

abbrev the_reloc : Reloc
the_reloc = record { section = 0; offset = 0; kind = ThmCall; symbol = 2 }

not_turned : (k : ℕ) (r : Reloc) → slice_get plain.relocs k ≡ Some r → is_turned plain r ≡ false
not_turned = each_at (λ k r. is_turned plain r ≡ false) plain.relocs (refl, tt)

are_targets : AreTargets plain flow lists.targets
unfolding IsStrictlySortedBy
are_targets = record {
  exact = λ t. ((λ c. absurd (contains_none t c)), (λ (h : IsTurnedTo plain flow t). absurd (true≢false (sym h.turned ∙ not_turned h.number h.reloc h.there))));
  rise = tt;
}

-- the relocations
no_word : (w : PoolWord) (y : ℕ) → IsWordOf flow places w y → ⊥
no_word w _ (words.in_pool y c) = contains_none (w, y) c
no_word w _ (words.in_island x u n y c e f g) = none-some w f

same_reloc : (k : ℕ) (r : Reloc) → slice_get plain.relocs k ≡ Some r → the_reloc ≡ r
same_reloc = each_at (λ k r. the_reloc ≡ r) plain.relocs (refl, tt)

to_abort : (m : ℕ) → IsNewSymbol plain lists the_reloc m → m ≡ 2
to_abort m (symbols.same s e f g) = subst (λ (z : Symbol). m ≡ new_number plain lists 2 z) (sym (same_Some abort s f)) g
to_abort m (symbols.own n t e f g h) = absurd (true≢false (sym e))

is_jump_at : (q : Reloc) (k at : ℕ) → StandsFor plain lists k the_reloc ThmJump24 at q → jump_at at ≡ q
is_jump_at q k at s = λ i. record { section = sym s.section i; offset = sym s.offset i; kind = sym s.kind i; symbol = sym (to_abort q.symbol s.symbol) i }

no_data : (r : Reloc) (s : Section) → the_reloc ≡ r → slice_get plain.sections r.section ≡ Some s → is_code s ≡ false → ⊥
no_data r s same e c =
    each_at (λ j s. is_code s ≡ false → ⊥) plain.sections ((λ c. true≢false c), tt) 0 s (ap (λ (z : Reloc). slice_get plain.sections z.section) same ∙ e) c

abbrev both : List Carrier
both = record { at = 8; instr = jump } ∷ record { at = 12; instr = jump } ∷ []

on_jump : (k : ℕ) (r q : Reloc) (c : Carrier) → the_reloc ≡ r → Contains both c → StandsFor plain lists k r (kind_on c.instr r.kind) c.at q → Contains hard.relocs q
on_jump k r q c same here s =
    let mine : StandsFor plain lists k the_reloc (kind_on c.instr ThmCall) c.at q = subst (λ (z : Reloc). StandsFor plain lists k z (kind_on c.instr z.kind) c.at q) (sym same) s in
    each_of (λ (c : Carrier). StandsFor plain lists k the_reloc (kind_on c.instr ThmCall) c.at q → Contains hard.relocs q) both
    ((λ s. (0, omega arith, is_jump_at q k 8 s)), ((λ s. (1, omega arith, is_jump_at q k 12 s)), tt)) c here mine

has_reloc : (q : Reloc) → IsNewReloc plain flow places carriers lists q → Contains hard.relocs q
has_reloc q (news.of_data k r s e c h) = absurd (no_data r s (same_reloc k r h.there) e c)
has_reloc q (news.of_step k r x c h e s) =
    each_of (λ (e : Point × List Carrier). Contains e.1 c → Contains hard.relocs q) (zip flow.points carriers) ((λ here. on_jump k r q c (same_reloc k r s.there) here s), tt) (x, h.all) h.unit h.one
has_reloc q (news.of_word k r w y h e s) = absurd (no_word w y h)

abbrev carrier : ℕ → Carrier
carrier x = record { at = x; instr = jump }

jump_is : (x : ℕ) → Contains both (carrier x) → IsNewReloc plain flow places carriers lists (jump_at x)
jump_is x here = news.of_step 0 the_reloc call (carrier x) (record { all = both; unit = (0, omega arith, refl); one = here }) refl (record {
  there = refl;
  section = refl;
  offset = refl;
  kind = refl;
  symbol = symbols.same abort refl refl refl;
})

are_relocs : AreRelocs plain hard flow places carriers lists
are_relocs = record {
  exact = λ q. (
    each_of (IsNewReloc plain flow places carriers lists) hard.relocs (jump_is 8 (0, omega arith, refl), (jump_is 12 (1, omega arith, refl), tt)) q,
    has_reloc q,
  );
  rise = refl;
}

carried_8 : IsCarried plain hard the_reloc 0 unit (carrier 8)
unfolding half_rows full_rows on_condition_branch
carried_8 = record { behind_start = omega arith; before_end = omega arith; there = refl; long = refl; sense = refl; fits = refl; number = refl }

carried_12 : IsCarried plain hard the_reloc 0 unit (carrier 12)
unfolding half_rows full_rows on_condition_branch
carried_12 = record { behind_start = omega arith; before_end = omega arith; there = refl; long = refl; sense = refl; fits = refl; number = refl }

are_carried : AreCarried plain hard flow places carriers
are_carried = record {
  count = refl;
  each = λ x u all c k r e here loads there.
      each_of (λ (e : (Point × UnitPlace) × List Carrier). Contains e.1 c → IsCarried plain hard r e.0.0.section e.0.1 c) (zip (units flow places) carriers)
      (subst (λ (z : Reloc). Contains both c → IsCarried plain hard z 0 unit c) (same_reloc k r there) (each_of (λ (c : Carrier). IsCarried plain hard the_reloc 0 unit c) both (carried_8, (carried_12, tt)) c), tt) ((x, u), all) e here;
}

pub call_row : CallRowHasItsForm
call_row = record {
  lists = lists;
  rows = rows;
  tables = record {
    lists = record { items = are_items; mappings = are_mappings; targets = are_targets };
    map = are_rows;
    sections = are_sections;
    symbols = refl;
    relocs = are_relocs;
  };
  tiled = tiled;
  words = λ w y h. absurd (no_word w y h);
  carried = are_carried;
}
