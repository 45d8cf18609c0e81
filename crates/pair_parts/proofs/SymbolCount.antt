-- How many symbols what is made of an object has: old ones, and what sections, words and relocations give.
use Rattle.std.proofs.Common.{◌≡◌, ◌≤◌, ℕ, ◌+◌, ◌*◌, true, ◌++◌, length, map, filter, sym, ap, ◌∙◌, inl, inr, arith, length-append, Some}
use Rattle.std.specs.Prelude.{slice_get}
use Rattle.std.proofs.lemmas.Bool.{cases_lt, true≢false}
use Rattle.std.proofs.lemmas.List.{length-map}
use Rattle.std.proofs.lemmas.Option.{same_Some, slice_get_within}
use Rattle.elf_model.specs.declared.objects.Section.{Section}
use Rattle.elf_model.specs.Objects.{ObjectParts, is_code}
use Rattle.elf_model.specs.Maps.{map_section}
use Rattle.elf_model.proofs.Elements.{element_at}
use Rattle.seq_core.specs.Places.{LayoutParts}
use Rattle.flow_recover.specs.Flows.{FlowParts}
use Rattle.flow_recover.specs.WholeFlows.{IsFlow}
use Rattle.hardened_form.specs.MappingSymbols.{mapping_symbol}
use Rattle.hardened_form.specs.Symbols.{moved, stays, is_shared, target_symbol}
use Rattle.hardened_form.specs.HardenedForms.{IsHardenedForm}
use Rattle.branch_layout.specs.Laid.{laid_places}
use Rattle.emit_object.specs.Emitting.{CanEmit}
use Rattle.emit_object.specs.Laid.{HasCode, HasSizes}
use Rattle.emit_object.specs.UnitCopies.{all_carriers}
use Rattle.emit_object.specs.WordPlaces.{islands}
use Rattle.emit_object.proofs.FewSymbols.{mappings_few, targets_few}
use Rattle.emit_object.proofs.LayoutGives.{matches, without_islands}
use Rattle.pair_parts.proofs.PointFacts.{same_sort}
use Rattle.pair_parts.proofs.PlaceFacts.{sized}
use Rattle.pair_parts.proofs.CarrierCount.{most_pass}

module _ (o h : ObjectParts) (f : FlowParts) (l : LayoutParts) (flow : IsFlow o f) (can : CanEmit o f l)
    (form : IsHardenedForm o h f (laid_places l) (all_carriers l)) where
  count : length h.sections ≡ length o.sections + 1
  count = form.tables.sections.count

  same_code : (j : ℕ) (s t : Section) → slice_get o.sections j ≡ Some s → slice_get h.sections j ≡ Some t → is_code t ≡ is_code s
  same_code j s t old new = same_sort o j s t (form.tables.sections.each j s t old new)

  old_code : (j : ℕ) (t : Section) → slice_get h.sections j ≡ Some t → is_code t ≡ true → HasCode o.sections j
  old_code j t there code =
      elim (cases_lt j (length o.sections)) [
        | inl low ↦ let s = element_at o.sections j low in record { section = s.0; there = s.1; code = sym (same_code j s.0 t s.1 there) ∙ code }
        | inr past ↦
            let last : j ≡ length o.sections = omega (arith, slice_get_within h.sections j t there, count) in
            let map_is : t ≡ map_section form.rows = same_Some t (map_section form.rows) (sym there ∙ ap (slice_get h.sections) last ∙ form.tables.sections.map) in
            absurd (true≢false (sym code ∙ ap is_code map_is))
      ]

  new_code : (j : ℕ) (s : Section) → slice_get o.sections j ≡ Some s → is_code s ≡ true → HasCode h.sections j
  new_code j s there code =
      let t = element_at h.sections j (omega (arith, slice_get_within o.sections j s there, count)) in
      record { section = t.0; there = t.1; code = same_code j s t.0 there t.1 ∙ code }

  has_sizes : HasSizes o h l.sizes
  has_sizes = record { olds = old_code; news = new_code; same = sized o h f l flow can form }

  few_mappings : length form.lists.mappings ≤ length o.sections + 2 * length f.words
  few_mappings =
      let few = mappings_few o h f l (matches o f l can) has_sizes form.lists.mappings form.tables.lists.mappings in
      let none : length (islands l.units) ≡ 0 = ap length (without_islands o f l can) in
      omega arith

  pub few_symbols : length h.symbols ≤ 2 * length o.symbols + (length o.sections + 2 * length f.words + length o.relocs)
  few_symbols =
      let s = form.lists in
      let kept = map (moved o h s.items) (filter (stays o s.items) o.symbols) in
      let marks = map mapping_symbol s.mappings in
      let functions = map (target_symbol o s.items) s.targets in
      let shared = map (moved o h s.items) (filter is_shared o.symbols) in
      let all = ap length form.tables.symbols in
      let a = length-append (kept ++ marks ++ functions) shared in
      let b = length-append (kept ++ marks) functions in
      let c = length-append kept marks in
      let d = length-map (filter (stays o s.items) o.symbols) (moved o h s.items) in
      let e = length-map (filter is_shared o.symbols) (moved o h s.items) in
      let g = length-map s.mappings mapping_symbol in
      let i = length-map s.targets (target_symbol o s.items) in
      let j = most_pass (stays o s.items) o.symbols in
      let k = most_pass is_shared o.symbols in
      let m = few_mappings in
      let t = targets_few o f s.targets form.tables.lists.targets in
      omega (arith, all, a, b, c, d, e, g, i, j, k, m, t)
