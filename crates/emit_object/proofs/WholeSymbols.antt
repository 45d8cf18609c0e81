-- The whole list of symbols of a hardened object is one of an object.
use Rattle.std.proofs.Common.{◌≡◌, ◌<◌, ◌≤◌, ◌^◌, inl, ℕ, ◌+◌, ◌%◌, Bool, true, false, cond, List, [], ◌∷◌, ◌++◌, length, map, filter, take, refl, sym, ap, ap₂, ◌∙◌, subst, arith, Option, Some, None}
use Rattle.std.specs.Prelude.{slice_get, Contains, IsTrue, unwrap_or, is_some, not, min, nat_le, ◌==◌, ◌&&◌, ◌||◌}
use Rattle.std.specs.List.{list_all}
use Rattle.std.proofs.lemmas.Bool.{and_from, and_parts, leb-true}
use Rattle.std.proofs.lemmas.Option.{slice_get_within}
use Rattle.std.proofs.lemmas.List.{length-take}
use Rattle.std.proofs.lemmas.List.Sums.{count_by-le-length}
use Rattle.std.proofs.lemmas.List.Elements.{All-contains}
use Rattle.std.proofs.lemmas.List.Folds.{list_all-append}
use Rattle.elf_model.specs.declared.objects.Section.{Section}
use Rattle.elf_model.specs.declared.objects.Symbol.{Symbol}
use Rattle.elf_model.specs.declared.objects.Reloc.{Reloc}
use Rattle.elf_model.specs.declared.objects.Home.{Home}
use Rattle.elf_model.specs.declared.objects.Home.TheVariants as homes
use Rattle.elf_model.specs.declared.objects.MapRow.{MapRow}
use Rattle.elf_model.specs.Constants.{local, func}
use Rattle.elf_model.specs.Objects.{ObjectParts, is_code, even, is_object, is_within, is_symbol, is_at_home, locals_first, code_size}
use Rattle.elf_model.proofs.Elements.{element_at, place_of, contains_here, contains_later, contains_map, contains_filter}
use Rattle.elf_model.proofs.Written.{object_facts}
use Rattle.code_ranges.specs.CodeRanges.{holds_code}
use Rattle.reloc_places.specs.Relocations.{is_jump, is_in_code, addend, value_of, target_of, is_thumb, place_of as symbol_place}
use Rattle.reloc_places.specs.Starts.{bytes_of}
use Rattle.reloc_places.proofs.StartFacts.{any_limit}
use Rattle.flow_recover.specs.Flows.{FlowParts}
use Rattle.flow_recover.specs.Points.{IsPointAt, PointsRise}
use Rattle.flow_recover.specs.Aims.{is_entry, by_symbol}
use Rattle.flow_recover.specs.Reach.{node_at}
use Rattle.flow_recover.specs.WholeFlows.{IsFlow}
use Rattle.flow_recover.specs.WholeFlows.IsEntry.{named}
use Rattle.seq_core.specs.Places.{LayoutParts}
use Rattle.hardened_form.specs.Items.{Item}
use Rattle.hardened_form.specs.Standing.{new_place}
use Rattle.hardened_form.specs.Rows.{ordinal}
use Rattle.hardened_form.specs.Sections.{AreSections}
use Rattle.hardened_form.specs.Turns.{Target, turns_by, is_direct, old_target, IsTurnedTo}
use Rattle.hardened_form.specs.MappingSymbols.{Mapping, IsMapping, mapping_symbol}
use Rattle.hardened_form.specs.Symbols.{Lists, size_of, moved_to, moved_in, moved, stays, stays_in, is_shared, target_symbol, new_symbols}
use Rattle.hardened_form.specs.HardenedForms.{AreLists}
use Rattle.branch_layout.specs.Laid.{laid_places as places_of}
use Rattle.emit_object.specs.Laid.{Matches}
use Rattle.emit_object.specs.FirstItems.{AreItemsOf}
use Rattle.emit_object.specs.LieInside.{LieInside}
use Rattle.emit_object.specs.Numbering.{AreNewSymbols}
use Rattle.emit_object.proofs.MoveFacts.{is_place}
use Rattle.emit_object.proofs.SymbolNames.{target_names, is_local, locals_come_first}
use Rattle.emit_object.proofs.SoundSymbols.{is_whole, place_home, at_home, section_begins, moved_sound, kept_placed, HasPlace}

pub each_of : {X : Type 0} (p : X → Bool) (xs : List X) → ((x : X) → Contains xs x → p x ≡ true) → list_all p xs ≡ true
each_of p [] all = refl
each_of p (x ∷ xs) all = and_from (p x) (list_all p xs) (all x (contains_here x xs)) (each_of p xs (λ y h. all y (contains_later x xs y h)))

-- a function of code, and a shared symbol, is at a point
module _ (o : ObjectParts) (f : FlowParts) (flow : IsFlow o f) (rise : PointsRise f) (l : LayoutParts) (count : length l.units ≡ length f.points) (items : List Item) (are : AreItemsOf f l items) where
  pub entry_placed : (s : Symbol) → Contains o.symbols s → is_entry s ≡ true → (j : ℕ) → s.home ≡ homes.Section j → is_in_code o s.home ≡ true → is_some (new_place items j (even s.value)) ≡ true
  entry_placed s here enters j home code =
      let k = place_of o.symbols s here in
      let x = even s.value in
      let node = place_of flow.nodes (node_at j x) (flow.entered j x (named j x (by_symbol k.0 s k.1 home code enters refl refl refl))) in
      let p = element_at f.points node.0 (let low = slice_get_within flow.nodes node.0 (node_at j x) node.1 in let count = flow.count in omega (arith, low, count)) in
      let is = flow.points node.0 (node_at j x) p.0 node.1 p.1 in
      let at : IsPointAt f j x node.0 = record { point = p.0; there = p.1; section = is.section; offset = is.offset } in
      let u = element_at l.units node.0 (let low = slice_get_within f.points node.0 p.0 p.1 in omega (arith, low, count)) in
      ap is_some (sym (is_place f l j x items are rise node.0 u.0 at u.1))

  pub shared_placed : (s : Symbol) → Contains o.symbols s → is_shared s ≡ true → HasPlace o items s
  shared_placed s here shared j home code = inl (entry_placed s here (or (s.kind == func)) j home code)
    where
      or : (b : Bool) → (b || not (s.bind == local)) ≡ true
      or true = refl
      or false = shared

module _ (o h : ObjectParts) (rows : List MapRow) (sections : AreSections o h rows) (f : FlowParts) (l : LayoutParts) (items : List Item) (inside : LieInside h f (places_of l) items) where
  mapping_sound : (m : Mapping) → IsMapping h f (places_of l) m → is_symbol h.sections (mapping_symbol m) ≡ true
  mapping_sound m (IsMapping.first j t e c low n) = is_whole h.sections (mapping_symbol m) refl refl refl (at_home h j 0 (record { section = t; there = e; low = omega arith }) (mapping_symbol m) (omega arith))
  mapping_sound m (IsMapping.word j x has n) = is_whole h.sections (mapping_symbol m) refl refl refl (at_home h j x (inside.words j x has) (mapping_symbol m) (omega arith))
  mapping_sound m (IsMapping.behind j x n has) = is_whole h.sections (mapping_symbol m) refl refl refl (at_home h j x (inside.units j x has) (mapping_symbol m) (omega arith))

  -- numbers of targets are small
  old_small : (r : Reloc) (s : Symbol) → old_target o r s < 2 ^ 64
  old_small r s = go (is_jump r.kind)
    where
      value_small : (b : Bool) (sum : ℕ) → sum < 2 ^ 32 → cond b (even sum + 1) sum < 2 ^ 33
      value_small true sum low = omega arith
      value_small false sum low = omega arith

      go : (b : Bool) → cond b (target_of o r s) (even (value_of o r s)) < 2 ^ 64
      go true = omega arith
      go false =
          let sum = (symbol_place o s + addend (bytes_of o r.section) r) % 2 ^ 32 in
          let low : value_of o r s < 2 ^ 33 = value_small (is_thumb o s) sum (mod_low (symbol_place o s + addend (bytes_of o r.section) r)) in
          omega (arith, low)
        where
          mod_low : (n : ℕ) → n % 2 ^ 32 < 2 ^ 32
          mod_low n = omega arith

  module _ (within : IsTrue (is_within o any_limit)) where
    target_sound : (t : Target) → IsTurnedTo o f t → is_symbol h.sections (target_symbol o items t) ≡ true
    target_sound t turned =
        let reloc = turned.reloc in
        let symbol = turned.target.symbol in
        let turns : turns_by o reloc (Some symbol) ≡ true = ap (turns_by o reloc) (sym turned.target.names) ∙ turned.turned in
        let code : holds_code (slice_get o.sections t.section) ≡ true = ap (is_in_code o) (sym turned.target.home) ∙ (and_parts (is_in_code o symbol.home) (not (is_direct o reloc symbol)) turns).0 in
        let few : length o.sections < 2 ^ 32 = few_sections in
        let count = count_by-le-length is_code (take t.section o.sections) in
        let long : length (take t.section o.sections) ≤ length o.sections = short (take t.section o.sections) (length-take t.section o.sections) in
        let old : t.old < 2 ^ 64 = subst (λ (n : ℕ). n < 2 ^ 64) (sym turned.target.old) (old_small reloc symbol) in
        is_whole h.sections (target_symbol o items t) (target_names (ordinal o t.section) t.old (omega (arith, few, count, long)) old) refl refl (go code (new_place items t.section t.old) refl)
      where
        few_sections : length o.sections < 2 ^ 32
        few_sections =
            let a = and_parts (nat_le (length o.sections) any_limit.sections && nat_le (length o.symbols) any_limit.symbols && nat_le (length o.relocs) any_limit.relocs) (nat_le (code_size o.sections) any_limit.code) within in
            let b = and_parts (nat_le (length o.sections) any_limit.sections && nat_le (length o.symbols) any_limit.symbols) (nat_le (length o.relocs) any_limit.relocs) a.0 in
            let c = and_parts (nat_le (length o.sections) any_limit.sections) (nat_le (length o.symbols) any_limit.symbols) b.0 in
            let most = leb-true (length o.sections) any_limit.sections c.0 in
            omega (arith, most)

        short : (xs : List Section) → length xs ≡ min t.section (length o.sections) → length xs ≤ length o.sections
        short xs e = omega (arith, e)

        go : holds_code (slice_get o.sections t.section) ≡ true → (y : Option ℕ) → new_place items t.section t.old ≡ y → is_at_home h.sections (target_symbol o items t) (slice_get h.sections t.section) ≡ true
        go code (Some y) e = at_home h t.section (y + 1) (inside.points t.section t.old y e) (target_symbol o items t) (let same = ap (λ (q : Option ℕ). unwrap_or q 0) e in omega (arith, same))
        go code None e =
            place_home h t.section 0 (section_begins o h rows sections f (places_of l) items inside t.section code) (target_symbol o items t)
            (let same = ap (λ (q : Option ℕ). unwrap_or q 0) e in omega (arith, same))

    module _ (sound : is_object o ≡ true) (flow : IsFlow o f) (rise : PointsRise f) (matches : Matches f l) (are : AreItemsOf f l items) (lists : Lists) (same : lists.items ≡ items) (are_lists : AreLists o h f (places_of l) lists) where
      old_sound : (s : Symbol) → Contains o.symbols s → is_symbol o.sections s ≡ true
      old_sound s here = All-contains (λ (t : Symbol). is_symbol o.sections t ≡ true) o.symbols s (object_facts o sound).symbols here

      abbrev kept : List Symbol
      kept = map (moved o h items) (filter (stays o items) o.symbols)

      abbrev shared : List Symbol
      shared = map (moved o h items) (filter is_shared o.symbols)

      abbrev test : Symbol → Bool
      test = is_symbol h.sections

      kept_sound : list_all test kept ≡ true
      kept_sound = each_of test kept (λ x c.
          let m = contains_map (moved o h items) (filter (stays o items) o.symbols) x c in
          let t = contains_filter (stays o items) o.symbols m.0 m.1 in
          ap test (sym m.2) ∙ moved_sound o h rows sections f (places_of l) items inside m.0 (old_sound m.0 t.0) (kept_placed o h rows sections f (places_of l) items inside m.0 t.1))

      shared_sound : list_all test shared ≡ true
      shared_sound = each_of test shared (λ x c.
          let m = contains_map (moved o h items) (filter is_shared o.symbols) x c in
          let t = contains_filter is_shared o.symbols m.0 m.1 in
          ap test (sym m.2) ∙ moved_sound o h rows sections f (places_of l) items inside m.0 (old_sound m.0 t.0) (shared_placed o f flow rise l matches.units items are m.0 t.0 t.1))

      mappings_sound : list_all test (map mapping_symbol lists.mappings) ≡ true
      mappings_sound = each_of test (map mapping_symbol lists.mappings) (λ x c.
          let m = contains_map mapping_symbol lists.mappings x c in
          ap test (sym m.2) ∙ mapping_sound m.0 ((are_lists.mappings.exact m.0).0 m.1))

      targets_sound : list_all test (map (target_symbol o items) lists.targets) ≡ true
      targets_sound = each_of test (map (target_symbol o items) lists.targets) (λ x c.
          let t = contains_map (target_symbol o items) lists.targets x c in
          ap test (sym t.2) ∙ target_sound t.0 ((are_lists.targets.exact t.0).0 t.1))

      both : (p : Symbol → Bool) (xs ys : List Symbol) → list_all p xs ≡ true → list_all p ys ≡ true → list_all p (xs ++ ys) ≡ true
      both p xs ys a b = list_all-append p xs ys ∙ ap₂ (λ (u v : Bool). u && v) a b

      pub all_sound : list_all test (new_symbols o h lists) ≡ true
      all_sound = subst (λ (xs : List Item). list_all test (map (moved o h xs) (filter (stays o xs) o.symbols) ++ map mapping_symbol lists.mappings ++ map (target_symbol o xs) lists.targets ++ map (moved o h xs) (filter is_shared o.symbols)) ≡ true) (sym same)
          (both test (kept ++ map mapping_symbol lists.mappings ++ map (target_symbol o items) lists.targets) shared
          (both test (kept ++ map mapping_symbol lists.mappings) (map (target_symbol o items) lists.targets) (both test kept (map mapping_symbol lists.mappings) kept_sound mappings_sound) targets_sound) shared_sound)

-- local symbols come first
module _ (o h : ObjectParts) (l : Lists) where
  keeps_bind : (s : Symbol) → (moved o h l.items s).bind ≡ s.bind
  keeps_bind s = go s.home
    where
      by_place : (j : ℕ) (y : Option ℕ) (size : ℕ) → (moved_to l.items j s y size).bind ≡ s.bind
      by_place j None size = refl
      by_place j (Some y) size = refl

      by_code : (b : Bool) (t : Symbol) → t.bind ≡ s.bind → (cond b t s).bind ≡ s.bind
      by_code true t e = e
      by_code false t e = refl

      go : (home : Home) → (moved_in o h l.items s home).bind ≡ s.bind
      go homes.Undefined = refl
      go homes.Absolute = refl
      go (homes.Section j) =
          by_code (is_in_code o s.home) (moved_to l.items j s (new_place l.items j (even s.value)) (size_of (slice_get h.sections j))) (by_place j (new_place l.items j (even s.value)) (size_of (slice_get h.sections j)))

  pub locals_are_first : locals_first (new_symbols o h l) ≡ true
  locals_are_first =
      let kept = map (moved o h l.items) (filter (stays o l.items) o.symbols) in
      let all : (xs ys : List Symbol) → list_all is_local xs ≡ true → list_all is_local ys ≡ true → list_all is_local (xs ++ ys) ≡ true =
      λ xs ys a b. list_all-append is_local xs ys ∙ ap₂ (λ (u v : Bool). u && v) a b in
      locals_come_first (kept ++ map mapping_symbol l.mappings ++ map (target_symbol o l.items) l.targets) (map (moved o h l.items) (filter is_shared o.symbols))
      (all (kept ++ map mapping_symbol l.mappings) (map (target_symbol o l.items) l.targets)
      (all kept (map mapping_symbol l.mappings)
      (each_of is_local kept (λ x c.
      let m = contains_map (moved o h l.items) (filter (stays o l.items) o.symbols) x c in
      let t = contains_filter (stays o l.items) o.symbols m.0 m.1 in
      ap is_local (sym m.2) ∙ ap (λ (b : ℕ). b == local) (keeps_bind m.0) ∙ (and_parts (m.0.bind == local) (stays_in o l.items m.0 m.0.home) t.1).0))
      (each_of is_local (map mapping_symbol l.mappings) (λ x c. let m = contains_map mapping_symbol l.mappings x c in ap is_local (sym m.2))))
      (each_of is_local (map (target_symbol o l.items) l.targets) (λ x c. let m = contains_map (target_symbol o l.items) l.targets x c in ap is_local (sym m.2))))
      (each_of is_shared (map (moved o h l.items) (filter is_shared o.symbols)) (λ x c.
      let m = contains_map (moved o h l.items) (filter is_shared o.symbols) x c in
      let t = contains_filter is_shared o.symbols m.0 m.1 in
      ap is_shared (sym m.2) ∙ ap (λ (b : ℕ). not (b == local)) (keeps_bind m.0) ∙ t.1))

-- so both hold of the list that is made
pub sound_list : (o h : ObjectParts) (rows : List MapRow) (f : FlowParts) (l : LayoutParts) (items : List Item) (symbols : List Symbol) (places : List (ℕ × ℕ)) (begin : ℕ) (numbers : List ℕ)
    → AreNewSymbols o h f l items symbols places begin numbers → AreSections o h rows → LieInside h f (places_of l) items → IsTrue (is_within o any_limit) → is_object o ≡ true → IsFlow o f → PointsRise f → Matches f l → AreItemsOf f l items
    → (list_all (is_symbol h.sections) symbols && locals_first symbols) ≡ true
sound_list o h rows f l items symbols places begin numbers made sections inside within sound flow rise matches are =
    ap (λ (xs : List Symbol). list_all (is_symbol h.sections) xs && locals_first xs) made.all
    ∙ and_from (list_all (is_symbol h.sections) (new_symbols o h made.lists)) (locals_first (new_symbols o h made.lists))
    (all_sound o h rows sections f l items inside within sound flow rise matches are made.lists made.items made.are) (locals_are_first o h made.lists)
