-- The mapping symbols of a hardened form are those of its list, and no others.
use Rattle.std.specs.Prelude.{◌≡◌, ℕ, ◌==◌, ◌&&◌, ◌||◌, not, Bool, true, false, cond, List, [], ◌∷◌, ◌++◌, map, filter, is_some, Option, Some, None, slice_get, nat_eq, codes, Contains, refl}
use Rattle.std.specs.List.{starts_with}
use Rattle.std.specs.Option.{option_or}
use Rattle.std.specs.declared.cmp.Ordering.TheVariants.{Less}
use Rattle.std.proofs.Common.{inl, inr, ap, sym, ◌∙◌}
use Rattle.std.proofs.lemmas.Bool.{cases_Bool, both_ways, and_parts, and_from, and_left, or_from, eqb-true, eq-eqb, false_from_ne_true}
use Rattle.std.proofs.lemmas.Option.{none-some}
use Rattle.elf_model.specs.declared.objects.Symbol.{Symbol}
use Rattle.elf_model.specs.declared.objects.Home.{Home}
use Rattle.elf_model.specs.declared.objects.Home.TheVariants as homes
use Rattle.elf_model.specs.declared.ranges.RangeKind.{RangeKind}
use Rattle.elf_model.specs.Constants.{local, notype}
use Rattle.elf_model.specs.Fields.{same_name}
use Rattle.elf_model.specs.Objects.{ObjectParts, even}
use Rattle.elf_model.specs.Ranges.{is_mapping, is_mapping_of, kind_of, stands_at, is_mapped}
use Rattle.elf_model.proofs.Elements.{contains_map, contains_filter, contains_cases, contains_none, contains_here, contains_later}
use Rattle.elf_model.proofs.MappingSymbols.{mapping_is_some}
use Rattle.code_ranges.specs.CodeRanges.{holds_code, range_kind}
use Rattle.code_ranges.specs.Spans.{place_cmp, kind_by, kind_at}
use Rattle.code_ranges.proofs.InOrder.{Rises, rises_keys, never_itself}
use Rattle.code_ranges.proofs.PlaceOrder.{place_total}
use Rattle.code_ranges.proofs.KindFacts.{mapped_is}
use Rattle.reloc_places.specs.Relocations.{is_in_code}
use Rattle.flow_recover.specs.Flows.{FlowParts}
use Rattle.hardened_form.specs.Places.{Places as UnitPlaces}
use Rattle.hardened_form.specs.Standing.{new_place}
use Rattle.hardened_form.specs.Carriers.{Carrier}
use Rattle.hardened_form.specs.MappingSymbols.{Mapping, place_of_mapping, mapping_symbol}
use Rattle.hardened_form.specs.Symbols.{section_kind, moved, stays_in, stays, target_symbol}
use Rattle.sim_answers.specs.Forms.{IsFormOf}
use Rattle.sim_answers.proofs.Numbers.{is_local}
use Rattle.sim_answers.proofs.SymbolsStay.{Keeps, moved_keeps, front, back, back_shared, no_mapping}

or_none : {X : Type 0} (a : Option X) → option_or a None ≡ a
or_none None = refl
or_none (Some x) = refl

or_first : {X : Type 0} (a b c : Option X) → option_or (option_or a b) c ≡ option_or a (option_or b c)
or_first None b c = refl
or_first (Some x) b c = refl

kind_append : (xs ys : List Symbol) (j x : ℕ) → kind_at (xs ++ ys) j x ≡ option_or (kind_at ys j x) (kind_at xs j x)
kind_append [] ys j x = sym (or_none (kind_at ys j x))
kind_append (s ∷ xs) ys j x = ap (λ (k : Option RangeKind). option_or k (kind_by j x s)) (kind_append xs ys j x) ∙ or_first (kind_at ys j x) (kind_at xs j x) (kind_by j x s)

kind_none : (xs : List Symbol) (j x : ℕ) → ((s : Symbol) → Contains xs s → kind_by j x s ≡ None) → kind_at xs j x ≡ None
kind_none [] j x h = refl
kind_none (s ∷ xs) j x h = ap (λ (k : Option RangeKind). option_or k (kind_by j x s)) (kind_none xs j x (λ z c. h z (contains_later s xs z c))) ∙ h s (contains_here s xs)

none_or : (b : Bool) (n : Option RangeKind) → n ≡ None → cond b n None ≡ None
none_or true n e = e
none_or false n e = refl

no_mark_by : (j x : ℕ) (s : Symbol) → is_mapping s ≡ false → kind_by j x s ≡ None
no_mark_by j x s n = go (kind_of s) refl
  where
    go : (k : Option RangeKind) → kind_of s ≡ k → kind_by j x s ≡ None
    go None e = none_or (stands_at j x s.home s.value) (kind_of s) e
    go (Some k) e = absurd (both_ways (is_mapping s) n (mapping_is_some s ∙ ap is_some e))

elsewhere_by : (j x : ℕ) (s : Symbol) → stands_at j x s.home s.value ≡ false → kind_by j x s ≡ None
elsewhere_by j x s n = ap (λ (b : Bool). cond b (kind_of s) None) n

-- what a mapping symbol of the list says
named_kind : (b : Bool) (j x : ℕ) → kind_of (mapping_symbol (record { section = j; at = x; code = b })) ≡ Some (range_kind b)
named_kind true j x = refl
named_kind false j x = refl

mark_by : (j x : ℕ) (m : Mapping) → kind_by j x (mapping_symbol m) ≡ cond ((m.section == j) && (m.at == x)) (Some (range_kind m.code)) None
mark_by j x m = ap (λ (k : Option RangeKind). cond ((m.section == j) && (m.at == x)) k None) (named_kind m.code m.section m.at)

marks_absent : (ms : List Mapping) (j x : ℕ) (k : RangeKind) → kind_at (map mapping_symbol ms) j x ≡ Some k → (m : Mapping) × Contains ms m × (m.section ≡ j) × (m.at ≡ x)
marks_absent [] j x k e = absurd (none-some k e)
marks_absent (m ∷ ms) j x k e =
    elim (cases_Bool ((m.section == j) && (m.at == x))) [
      | inl y ↦ let parts = and_parts (m.section == j) (m.at == x) y in (m, contains_here m ms, eqb-true m.section j parts.0, eqb-true m.at x parts.1)
      | inr n ↦
          let none : kind_by j x (mapping_symbol m) ≡ None = mark_by j x m ∙ ap (λ (b : Bool). cond b (Some (range_kind m.code)) None) n in
          let rest : kind_at (map mapping_symbol ms) j x ≡ Some k = sym (ap (option_or (kind_at (map mapping_symbol ms) j x)) none ∙ or_none (kind_at (map mapping_symbol ms) j x)) ∙ e in
          let h = marks_absent ms j x k rest in
          (h.0, contains_later m ms h.0 h.1, h.2, h.3)
    ]

marks_present : (ms : List Mapping) (j x : ℕ) (m : Mapping) → Rises (λ (a b : Mapping). place_cmp (place_of_mapping a) (place_of_mapping b) ≡ Less) ms → Contains ms m → m.section ≡ j → m.at ≡ x
    → kind_at (map mapping_symbol ms) j x ≡ Some (range_kind m.code)
marks_present [] j x m rises c section at = absurd (contains_none m c)
marks_present (z ∷ ms) j x m rises c section at =
    elim (contains_cases z ms m c) [
      | inl e ↦
          let here : (z.section == j) && (z.at == x) ≡ true = and_from (z.section == j) (z.at == x) (eq-eqb z.section j (ap (λ (q : Mapping). q.section) e ∙ section)) (eq-eqb z.at x (ap (λ (q : Mapping). q.at) e ∙ at)) in
          let rest = kind_none (map mapping_symbol ms) j x (λ s there.
          let q = contains_map mapping_symbol ms s there in
          elsewhere_by j x s (ap (λ (w : Symbol). stands_at j x w.home w.value) (sym q.2) ∙ false_from_ne_true ((q.0.section == j) && (q.0.at == x)) (λ y.
          let parts = and_parts (q.0.section == j) (q.0.at == x) y in
          let one = (ap (λ (w : Mapping). w.section) e ∙ section) ∙ sym (eqb-true q.0.section j parts.0) in
          let two = (ap (λ (w : Mapping). w.at) e ∙ at) ∙ sym (eqb-true q.0.at x parts.1) in
          never_itself place_cmp place_total (place_of_mapping z) (place_of_mapping q.0) (λ i. (one i, two i)) (rises.0 q.0 q.1)))) in
          ap (λ (k : Option RangeKind). option_or k (kind_by j x (mapping_symbol z))) rest
          ∙ (mark_by j x z ∙ (ap (λ (b : Bool). cond b (Some (range_kind z.code)) None) here ∙ ap (λ (q : Mapping). Some (range_kind q.code)) e))
      | inr r ↦ ap (λ (k : Option RangeKind). option_or k (kind_by j x (mapping_symbol z))) (marks_present ms j x m rises.1 r section at)
    ]

-- what stays of the old symbols says nothing of code
same_mapping : (s t : Symbol) → Keeps s t → is_mapping t ≡ is_mapping s
same_mapping s t k = λ i. is_mapping (record t { name = k.name i; bind = k.bind i; kind = k.kind i })

shared_no_mapping : (s : Symbol) → is_local s ≡ false → is_mapping s ≡ false
shared_no_mapping s n = or_from (is_mapping_of (codes "$t") s || is_mapping_of (codes "$a") s) (is_mapping_of (codes "$d") s) (or_from (is_mapping_of (codes "$t") s) (is_mapping_of (codes "$a") s) (by (codes "$t")) (by (codes "$a"))) (by (codes "$d"))
  where
    by : (name : List ℕ) → is_mapping_of name s ≡ false
    by name = and_left ((s.bind == local) && (s.kind == notype)) (same_name s.name name || starts_with nat_eq s.name (name ++ codes ".")) (and_left (s.bind == local) (s.kind == notype) n)

module _ (o h : ObjectParts) (f : FlowParts) (p : UnitPlaces) (carriers : List (List Carrier)) (is : IsFormOf o h f p carriers) (j : ℕ) (code : holds_code (slice_get o.sections j) ≡ true) where
  stay_kind : (x : ℕ) (s : Symbol) → stays o is.form.lists.items s ≡ true → kind_by j x (moved o h is.form.lists.items s) ≡ None
  stay_kind x s stay = go s.home refl (and_parts (s.bind == local) (stays_in o is.form.lists.items s s.home) stay).1
    where
      keeps : Keeps s (moved o h is.form.lists.items s)
      keeps = moved_keeps o h is.form.lists.items s s.home

      at : ℕ
      at = (moved o h is.form.lists.items s).value

      nowhere : (home : Home) → s.home ≡ home → stands_at j x home (moved o h is.form.lists.items s).value ≡ false → kind_by j x (moved o h is.form.lists.items s) ≡ None
      nowhere home e n = elsewhere_by j x (moved o h is.form.lists.items s) (ap (λ (q : Home). stands_at j x q (moved o h is.form.lists.items s).value) (keeps.home ∙ e) ∙ n)

      off : (b : Bool) → (not b) ≡ true → b ≡ false
      off true e = absurd (both_ways false refl e)
      off false e = refl

      go : (home : Home) → s.home ≡ home → stays_in o is.form.lists.items s home ≡ true → kind_by j x (moved o h is.form.lists.items s) ≡ None
      go homes.Undefined e st = nowhere homes.Undefined e refl
      go homes.Absolute e st = nowhere homes.Absolute e refl
      go (homes.Section i) e st =
          elim (cases_Bool (i == j)) [
            | inl y ↦
                let in_code : is_in_code o s.home ≡ true = ap (is_in_code o) e ∙ (ap (λ (n : ℕ). holds_code (slice_get o.sections n)) (eqb-true i j y) ∙ code) in
                let rest = is_some (new_place is.form.lists.items i (even s.value)) || ((s.kind == section_kind) && (s.value == 0)) in
                let left : (not (is_mapping s) && rest) ≡ true = sym (ap (λ (b : Bool). not b || (not (is_mapping s) && rest)) in_code) ∙ st in
                no_mark_by j x (moved o h is.form.lists.items s) (same_mapping s (moved o h is.form.lists.items s) keeps ∙ off (is_mapping s) (and_parts (not (is_mapping s)) rest left).0)
            | inr n ↦ nowhere (homes.Section i) e (and_left (i == j) ((moved o h is.form.lists.items s).value == x) n)
          ]

  -- the mapping symbols of a section of code
  form_kind : (x : ℕ) → kind_at h.symbols j x ≡ kind_at (map mapping_symbol is.form.lists.mappings) j x
  form_kind x =
      let l = is.form.lists in
      let a = map (moved o h l.items) (filter (stays o l.items) o.symbols) in
      let m = map mapping_symbol l.mappings in
      let t = map (target_symbol o l.items) l.targets in
      let no_a : kind_at a j x ≡ None = kind_none a j x (λ s c.
      let q = contains_map (moved o h l.items) (filter (stays o l.items) o.symbols) s c in
      ap (kind_by j x) (sym q.2) ∙ stay_kind x q.0 (contains_filter (stays o l.items) o.symbols q.0 q.1).1) in
      let no_t : kind_at t j x ≡ None = kind_none t j x (λ s c.
      let q = contains_map (target_symbol o l.items) l.targets s c in
      no_mark_by j x s (no_mapping s (ap (λ (z : Symbol). z.kind == notype) (sym q.2)))) in
      let no_b : kind_at (back o h l) j x ≡ None = kind_none (back o h l) j x (λ s c. no_mark_by j x s (shared_no_mapping s (back_shared o h l s c))) in
      ap (λ (xs : List Symbol). kind_at xs j x) is.form.tables.symbols
      ∙ (kind_append (front o h l) (back o h l) j x
      ∙ (ap (λ (k : Option RangeKind). option_or k (kind_at (front o h l) j x)) no_b
      ∙ (kind_append (a ++ m) t j x
      ∙ (ap (λ (k : Option RangeKind). option_or k (kind_at (a ++ m) j x)) no_t ∙ (kind_append a m j x ∙ (ap (option_or (kind_at m j x)) no_a ∙ or_none (kind_at m j x)))))))

  pub marked : (m : Mapping) → Contains is.form.lists.mappings m → m.section ≡ j → kind_at h.symbols j m.at ≡ Some (range_kind m.code)
  marked m c section =
      form_kind m.at ∙ marks_present is.form.lists.mappings j m.at m (rises_keys place_of_mapping place_cmp is.form.lists.mappings is.form.tables.lists.mappings.rise) c section refl

  pub mapped_from_list : (x : ℕ) → is_mapped h j x ≡ true → (m : Mapping) × Contains is.form.lists.mappings m × (m.section ≡ j) × (m.at ≡ x)
  mapped_from_list x e = go (kind_at h.symbols j x) refl (sym (mapped_is h j x) ∙ e)
    where
      go : (k : Option RangeKind) → kind_at h.symbols j x ≡ k → is_some (kind_at h.symbols j x) ≡ true → (m : Mapping) × Contains is.form.lists.mappings m × (m.section ≡ j) × (m.at ≡ x)
      go None e y = absurd (both_ways false refl (sym (ap is_some e) ∙ y))
      go (Some k) e y = marks_absent is.form.lists.mappings j x k (sym (form_kind x) ∙ e)
