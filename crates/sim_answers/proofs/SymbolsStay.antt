-- Symbols that others see keep their order, and go with their points.
use Rattle.std.specs.Prelude.{◌≡◌, ◌<◌, ◌⊎◌, ℕ, ◌+◌, ◌-◌, ◌%◌, ◌==◌, ◌&&◌, ◌||◌, not, Bool, true, false, cond, List, ◌++◌, length, map, take, filter, Option, Some, None, is_some, slice_get, Contains, refl}
use Rattle.std.specs.Prelude.{nat_eq, codes}
use Rattle.std.specs.List.{count_by, starts_with}
use Rattle.std.proofs.Common.{arith, inl, inr, ap, sym, ◌∙◌, subst}
use Rattle.std.proofs.lemmas.Bool.{cases_Bool, both_ways, and_parts, and_left, and_right, and_from, or_left, or_right, or_from, eqb-true}
use Rattle.std.proofs.lemmas.List.{length-map, length-append}
use Rattle.std.proofs.lemmas.List.Elements.{Contains-append_cases}
use Rattle.std.proofs.lemmas.List.Sums.{length-filter}
use Rattle.elf_model.specs.declared.objects.Section.{Section}
use Rattle.elf_model.specs.declared.objects.Symbol.{Symbol}
use Rattle.elf_model.specs.declared.objects.Home.{Home}
use Rattle.elf_model.specs.declared.objects.Home.TheVariants as homes
use Rattle.elf_model.specs.Constants.{local, func, notype}
use Rattle.elf_model.specs.Objects.{ObjectParts, even}
use Rattle.elf_model.specs.Ranges.{is_mapping, is_mapping_of}
use Rattle.elf_model.specs.Fields.{same_name}
use Rattle.elf_model.proofs.Elements.{element_at, contains_map, contains_filter}
use Rattle.elf_model.proofs.Lists.{get_left, get_right, get_map}
use Rattle.elf_model.proofs.Written.{object_facts}
use Rattle.code_ranges.specs.CodeRanges.{holds_code}
use Rattle.reloc_places.specs.Relocations.{is_in_code}
use Rattle.flow_recover.specs.Flows.{FlowParts}
use Rattle.flow_recover.specs.Aims.{is_entry, by_symbol}
use Rattle.flow_recover.specs.WholeFlows.{IsEntry}
use Rattle.flow_recover.specs.WholeFlows.IsEntry.{named}
use Rattle.hardened_form.specs.Places.{Places as UnitPlaces}
use Rattle.hardened_form.specs.Items.{Item}
use Rattle.hardened_form.specs.Standing.{new_place}
use Rattle.hardened_form.specs.Carriers.{Carrier}
use Rattle.hardened_form.specs.MappingSymbols.{mapping_symbol}
use Rattle.hardened_form.specs.Symbols.{Lists, section_kind, size_of, moved_to, moved_in, moved, stays_in, stays, is_shared, target_symbol, new_symbols}
use Rattle.hardened_form.specs.Relocs.{first_shared, new_number}
use Rattle.sim_images.specs.Counterparts.{IsMoved, locals, IsCounterpart}
use Rattle.sim_answers.specs.Forms.{IsFormOf, new_places, SymbolsStay}
use Rattle.sim_answers.proofs.Accepted.{code_home}
use Rattle.sim_answers.proofs.Numbers.{left_at, count_append, count_all, count_none, count_both, is_local, shared_at, shared_number}
use Rattle.sim_answers.proofs.PointPlaces.{entry_point, point_placed, points_have_places}
use Rattle.sim_answers.proofs.SectionsStay.{sections_stay}

-- a symbol that moves keeps all but its value and size
pub record Keeps (s t : Symbol) : Type 0 where
  pub name : t.name ≡ s.name
  pub bind : t.bind ≡ s.bind
  pub kind : t.kind ≡ s.kind
  pub home : t.home ≡ s.home

keeps_itself : (s : Symbol) → Keeps s s
keeps_itself s = record { name = refl; bind = refl; kind = refl; home = refl }

pub moved_keeps : (o h : ObjectParts) (items : List Item) (s : Symbol) (home : Home) → Keeps s (moved_in o h items s home)
moved_keeps o h items s homes.Undefined = keeps_itself s
moved_keeps o h items s homes.Absolute = keeps_itself s
moved_keeps o h items s (homes.Section j) = go (is_in_code o s.home) (new_place items j (even s.value)) (size_of (slice_get h.sections j))
  where
    to : (y : Option ℕ) (size : ℕ) → Keeps s (moved_to items j s y size)
    to None size = keeps_itself s
    to (Some y) size = record { name = refl; bind = refl; kind = refl; home = refl }

    go : (b : Bool) (y : Option ℕ) (size : ℕ) → Keeps s (cond b (moved_to items j s y size) s)
    go true y size = to y size
    go false y size = keeps_itself s

-- outside of code it stays
moved_stays : (o h : ObjectParts) (items : List Item) (s : Symbol) → is_in_code o s.home ≡ false → (home : Home) → (moved_in o h items s home).value ≡ s.value
moved_stays o h items s n homes.Undefined = refl
moved_stays o h items s n homes.Absolute = refl
moved_stays o h items s n (homes.Section j) = ap (λ (b : Bool). (cond b (moved_to items j s (new_place items j (even s.value)) (size_of (slice_get h.sections j))) s).value) n

-- in code it goes with its point
moved_goes : (o h : ObjectParts) (items : List Item) (s : Symbol) (j y : ℕ) → is_in_code o s.home ≡ true → s.home ≡ homes.Section j → new_place items j (even s.value) ≡ Some y → (moved o h items s).value ≡ y + s.value % 2
moved_goes o h items s j y c home e =
    let size = size_of (slice_get h.sections j) in
    ap (λ (q : Home). (moved_in o h items s q).value) home
    ∙ (ap (λ (b : Bool). (cond b (moved_to items j s (new_place items j (even s.value)) size) s).value) c ∙ ap (λ (q : Option ℕ). (moved_to items j s q size).value) e)

low_bit : (y v : ℕ) → y % 2 ≡ 0 → (y + v % 2) % 2 ≡ v % 2
low_bit y v e = omega (arith, e)

even_back : (y v : ℕ) → y % 2 ≡ 0 → even (y + v % 2) ≡ y
even_back y v e = let h = low_bit y v e in omega (arith, h)

-- a symbol that is outside of code, or at a point
pub is_moved : (o h : ObjectParts) (items : List Item) (s : Symbol) → ((j : ℕ) → s.home ≡ homes.Section j → is_in_code o s.home ≡ true → (y : ℕ) × (new_place items j (even s.value) ≡ Some y) × (y % 2 ≡ 0))
    → IsMoved o (new_place items) s (moved o h items s)
is_moved o h items s at =
    let k = moved_keeps o h items s s.home in
    record {
      name = k.name;
      bind = k.bind;
      kind = k.kind;
      home = k.home;
      bit = elim (cases_Bool (is_in_code o s.home)) [
        | inl c ↦ let home = code_home o s.home c in let y = at home.0 home.1 c in ap (λ (n : ℕ). n % 2) (moved_goes o h items s home.0 y.0 c home.1 y.1) ∙ low_bit y.0 s.value y.2
        | inr n ↦ ap (λ (v : ℕ). v % 2) (moved_stays o h items s n s.home)
      ];
      stays = λ n. moved_stays o h items s n s.home;
      goes = λ j home c.
          let y = at j home c in
          y.1 ∙ ap (λ (v : ℕ). Some v) (sym (ap (λ (v : ℕ). even v) (moved_goes o h items s j y.0 c home y.1) ∙ even_back y.0 s.value y.2));
    }

-- a mapping symbol is of no type
other_kind : (name : List ℕ) (s : Symbol) → (s.kind == notype) ≡ false → is_mapping_of name s ≡ false
other_kind name s n = and_left ((s.bind == local) && (s.kind == notype)) (same_name s.name name || starts_with nat_eq s.name (name ++ codes ".")) (and_right (s.bind == local) (s.kind == notype) n)

pub no_mapping : (s : Symbol) → (s.kind == notype) ≡ false → is_mapping s ≡ false
no_mapping s n =
    or_from (is_mapping_of (codes "$t") s || is_mapping_of (codes "$a") s) (is_mapping_of (codes "$d") s)
    (or_from (is_mapping_of (codes "$t") s) (is_mapping_of (codes "$a") s) (other_kind (codes "$t") s n) (other_kind (codes "$a") s n)) (other_kind (codes "$d") s n)

no_type : (k : ℕ) → (k == func) ≡ true → (k == notype) ≡ false
no_type k e = ap (λ (n : ℕ). n == notype) (eqb-true k func e)

-- what stands before the symbols that others see, and these
abbrev pub front : ObjectParts → ObjectParts → Lists → List Symbol
front o h l = map (moved o h l.items) (filter (stays o l.items) o.symbols) ++ map mapping_symbol l.mappings ++ map (target_symbol o l.items) l.targets

abbrev pub back : ObjectParts → ObjectParts → Lists → List Symbol
back o h l = map (moved o h l.items) (filter is_shared o.symbols)

front_local : (o h : ObjectParts) (l : Lists) (x : Symbol) → Contains (front o h l) x → is_local x ≡ true
front_local o h l x c =
    let stay = map (moved o h l.items) (filter (stays o l.items) o.symbols) in
    elim (Contains-append_cases (stay ++ map mapping_symbol l.mappings) (map (target_symbol o l.items) l.targets) x c) [
      | inl a ↦ elim (Contains-append_cases stay (map mapping_symbol l.mappings) x a) [
        | inl b ↦
            let m = contains_map (moved o h l.items) (filter (stays o l.items) o.symbols) x b in
            let t = contains_filter (stays o l.items) o.symbols m.0 m.1 in
            let same = (moved_keeps o h l.items m.0 m.0.home).bind in
            sym (ap is_local m.2) ∙ (ap (λ (n : ℕ). n == local) same ∙ (and_parts (m.0.bind == local) (stays_in o l.items m.0 m.0.home) t.1).0)
        | inr b ↦ let m = contains_map mapping_symbol l.mappings x b in sym (ap is_local m.2)
      ]
      | inr a ↦ let m = contains_map (target_symbol o l.items) l.targets x a in sym (ap is_local m.2)
    ]

pub back_shared : (o h : ObjectParts) (l : Lists) (x : Symbol) → Contains (back o h l) x → is_local x ≡ false
back_shared o h l x c =
    let m = contains_map (moved o h l.items) (filter is_shared o.symbols) x c in
    let t = contains_filter is_shared o.symbols m.0 m.1 in
    let same = (moved_keeps o h l.items m.0 m.0.home).bind in
    sym (ap is_local m.2) ∙ (ap (λ (n : ℕ). n == local) same ∙ not_true (m.0.bind == local) t.1)
  where
    not_true : (b : Bool) → not b ≡ true → b ≡ false
    not_true true e = absurd (both_ways false refl e)
    not_true false e = refl

front_length : (o h : ObjectParts) (l : Lists) → length (front o h l) ≡ first_shared o l
front_length o h l =
    let stay = map (moved o h l.items) (filter (stays o l.items) o.symbols) in
    let a = length-append (stay ++ map mapping_symbol l.mappings) (map (target_symbol o l.items) l.targets) in
    let b = length-append stay (map mapping_symbol l.mappings) in
    let c : length stay ≡ count_by (stays o l.items) o.symbols = length-map (filter (stays o l.items) o.symbols) (moved o h l.items) ∙ length-filter (stays o l.items) o.symbols in
    let d = length-map l.mappings mapping_symbol in
    let e = length-map l.targets (target_symbol o l.items) in
    omega (arith, a, b, c, d, e)

back_length : (o h : ObjectParts) (l : Lists) → length (back o h l) ≡ count_by is_shared o.symbols
back_length o h l = length-map (filter is_shared o.symbols) (moved o h l.items) ∙ length-filter is_shared o.symbols

-- the symbols that no other object sees
locals_are : (o h : ObjectParts) (l : Lists) → h.symbols ≡ new_symbols o h l → locals h ≡ first_shared o l
locals_are o h l e =
    let a = count_append is_local (front o h l) (back o h l) in
    let b = count_all is_local (front o h l) (front_local o h l) in
    let c = count_none is_local (back o h l) (back_shared o h l) in
    let d : locals h ≡ count_by is_local (front o h l ++ back o h l) = ap (count_by is_local) e in
    omega (arith, a, b, c, d, front_length o h l)

module _ (o h : ObjectParts) (f : FlowParts) (p : UnitPlaces) (carriers : List (List Carrier)) (is : IsFormOf o h f p carriers) where
  -- what enters has a place
  pub entry_placed : (j x : ℕ) → IsEntry o j x → (y : ℕ) × (new_places is j x ≡ Some y)
  entry_placed j x entry =
      let q = entry_point o f is.flow j x entry in
      let y = point_placed f p is.form.lists.items is.form.tables.lists.items q.0 q.1 in
      (y.0, ap (λ (n : ℕ). new_place is.form.lists.items n x) (sym q.2) ∙ (ap (λ (n : ℕ). new_place is.form.lists.items q.0.section n) (sym q.3) ∙ y.1))

  pub placed_evenly : (j x y : ℕ) → holds_code (slice_get o.sections j) ≡ true → new_places is j x ≡ Some y → y % 2 ≡ 0
  placed_evenly j x y c e = go (slice_get o.sections j) refl c
    where
      go : (s : Option Section) → slice_get o.sections j ≡ s → holds_code s ≡ true → y % 2 ≡ 0
      go None there c = absurd (both_ways false refl c)
      go (Some s) there c = let t = (sections_stay o h f p carriers is).kept j s there in (points_have_places o h f p carriers is j x y s t.0 e there t.1).2

  -- where a symbol of code went that is an entry
  pub symbol_placed : (k : ℕ) (s : Symbol) (j : ℕ) → slice_get o.symbols k ≡ Some s → is_entry s ≡ true → s.home ≡ homes.Section j → is_in_code o s.home ≡ true
      → (y : ℕ) × (new_places is j (even s.value) ≡ Some y) × (y % 2 ≡ 0)
  symbol_placed k s j there enters home c =
      let y = entry_placed j (even s.value) (named j (even s.value) (by_symbol k s there home c enters refl refl refl)) in
      (y.0, y.1, placed_evenly j (even s.value) y.0 (sym (ap (is_in_code o) home) ∙ c) y.1)

  locals_number : locals h ≡ first_shared o is.form.lists
  locals_number = locals_are o h is.form.lists is.form.tables.symbols

  local_stays : (k : ℕ) (s : Symbol) → slice_get o.symbols k ≡ Some s → is_local s ≡ true → (is_in_code o s.home ≡ false) ⊎ (is_entry s ≡ true) → stays o is.form.lists.items s ≡ true
  local_stays k s there t ok = and_from (s.bind == local) (stays_in o is.form.lists.items s s.home) t (go s.home refl)
    where
      some : {X : Type 0} (x : Option X) (y : X) → x ≡ Some y → is_some x ≡ true
      some x y e = ap is_some e

      function : (b : Bool) → is_local s ≡ true → (b || not (s.bind == local)) ≡ true → b ≡ true
      function true l e = refl
      function false l e = absurd (both_ways (not (s.bind == local)) (ap not l) e)

      go : (home : Home) → s.home ≡ home → stays_in o is.form.lists.items s home ≡ true
      go homes.Undefined e = refl
      go homes.Absolute e = refl
      go (homes.Section j) e =
          let items = is.form.lists.items in
          let rest = not (is_mapping s) && (is_some (new_place items j (even s.value)) || ((s.kind == section_kind) && (s.value == 0))) in
          elim (cases_Bool (is_in_code o s.home)) [
            | inl c ↦ elim ok [
              | inl n ↦ absurd (both_ways (is_in_code o s.home) n c)
              | inr enters ↦
                  let y = symbol_placed k s j there enters e c in
                  let kind = function (s.kind == func) t enters in
                  or_right (not (is_in_code o s.home)) rest
                  (and_from (not (is_mapping s)) (is_some (new_place items j (even s.value)) || ((s.kind == section_kind) && (s.value == 0))) (ap not (no_mapping s (no_type s.kind kind)))
                  (or_left (is_some (new_place items j (even s.value))) ((s.kind == section_kind) && (s.value == 0)) (some (new_place items j (even s.value)) y.0 y.1)))
            ]
            | inr n ↦ or_left (not (is_in_code o s.home)) rest (ap not n)
          ]

  -- a symbol outside of code, or one that control enters at, and what it became
  pub counterpart : (k : ℕ) (s : Symbol) → slice_get o.symbols k ≡ Some s → (is_in_code o s.home ≡ false) ⊎ (is_entry s ≡ true) → IsCounterpart o h (new_places is) k (new_number o is.form.lists k s)
  counterpart k s there ok = go (is_local s) refl
    where
      l : Lists
      l = is.form.lists

      at : (j : ℕ) → s.home ≡ homes.Section j → is_in_code o s.home ≡ true → (y : ℕ) × (new_places is j (even s.value) ≡ Some y) × (y % 2 ≡ 0)
      at j home c = elim ok [ inl n ↦ absurd (both_ways (is_in_code o s.home) n c) | inr enters ↦ symbol_placed k s j there enters home c ]

      local_at : is_local s ≡ true → slice_get (front o h is.form.lists) (count_by (stays o is.form.lists.items) (take k o.symbols)) ≡ Some (moved o h is.form.lists.items s)
      local_at t =
          let items = is.form.lists.items in
          let n = count_by (stays o items) (take k o.symbols) in
          let stay = map (moved o h items) (filter (stays o items) o.symbols) in
          let here = get_map (moved o h items) (filter (stays o items) o.symbols) n s (left_at (stays o items) o.symbols k s there (local_stays k s there t ok)) in
          get_left (stay ++ map mapping_symbol is.form.lists.mappings) (map (target_symbol o items) is.form.lists.targets) n (moved o h items s)
          (get_left stay (map mapping_symbol is.form.lists.mappings) n (moved o h items s) here)

      go : (b : Bool) → is_local s ≡ b → IsCounterpart o h (new_places is) k (cond b (count_by (stays o is.form.lists.items) (take k o.symbols)) (first_shared o is.form.lists + count_by is_shared (take k o.symbols)))
      go true t =
          let items = is.form.lists.items in
          let n = count_by (stays o items) (take k o.symbols) in
          record {
            symbol = s;
            twin = moved o h items s;
            was = there;
            becomes = ap (λ (xs : List Symbol). slice_get xs n) is.form.tables.symbols ∙ get_left (front o h is.form.lists) (back o h is.form.lists) n (moved o h items s) (local_at t);
            same = is_moved o h items s at;
            order = λ f. absurd (both_ways (s.bind == local) f t);
          }
      go false f =
          let items = is.form.lists.items in
          let c = count_by is_shared (take k o.symbols) in
          let here = get_map (moved o h items) (filter is_shared o.symbols) c s (left_at is_shared o.symbols k s there (ap not f)) in
          let number = shared_number o.symbols (object_facts o is.plain).locals k s there f in
          record {
            symbol = s;
            twin = moved o h items s;
            was = there;
            becomes = ap (λ (xs : List Symbol). slice_get xs (first_shared o is.form.lists + c)) is.form.tables.symbols
                ∙ (get_right (front o h is.form.lists) (back o h is.form.lists) c (first_shared o is.form.lists + c) (let n = front_length o h is.form.lists in omega arith) ∙ here);
            same = is_moved o h items s at;
            order = λ e. let n = locals_number in omega (arith, number, n);
          }

  outer : (n : ℕ) → n < length o.symbols - locals o → IsCounterpart o h (new_places is) (locals o + n) (locals h + n)
  outer n below =
      let k = locals o + n in
      let first = (object_facts o is.plain).locals in
      let s = element_at o.symbols k (omega (arith, below)) in
      let f = shared_at o.symbols first k s.0 s.1 (omega arith) in
      let number = shared_number o.symbols first k s.0 s.1 f in
      let c = counterpart k s.0 s.1 (inr (or_right (s.0.kind == func) (not (s.0.bind == local)) (ap not f))) in
      let here : new_number o is.form.lists k s.0 ≡ first_shared o is.form.lists + count_by is_shared (take k o.symbols) =
      ap (λ (b : Bool). cond b (count_by (stays o is.form.lists.items) (take k o.symbols)) (first_shared o is.form.lists + count_by is_shared (take k o.symbols))) f in
      let same : new_number o is.form.lists k s.0 ≡ locals h + n = let l = locals_number in omega (arith, here, l, number) in
      subst (λ (m : ℕ). IsCounterpart o h (new_places is) k m) same c

  all_kept : length o.symbols + locals h ≡ length h.symbols + locals o
  all_kept =
      let a = locals_number in
      let b : length h.symbols ≡ length (front o h is.form.lists) + length (back o h is.form.lists) = ap (λ (xs : List Symbol). length xs) is.form.tables.symbols ∙ length-append (front o h is.form.lists) (back o h is.form.lists) in
      let c = front_length o h is.form.lists in
      let d = back_length o h is.form.lists in
      let e = count_both is_local is_shared (λ s. refl) o.symbols in
      omega (arith, a, b, c, d, e)

pub symbols_stay : SymbolsStay
symbols_stay o h f p carriers is = record { number = all_kept o h f p carriers is; outer = outer o h f p carriers is }
