-- A relocation of a hardened form that stands for one of the object answers it.
use Rattle.std.specs.Prelude.{◌≡◌, ◌⊎◌, ℕ, ◌+◌, ◌-◌, ◌^◌, ◌==◌, ◌&&◌, ◌||◌, not, Bool, true, false, cond, List, ◌++◌, length, map, filter, unwrap_or, Option, Some, None, slice_get, refl}
use Rattle.std.proofs.Common.{arith, inl, inr, ap, sym, ◌∙◌, subst}
use Rattle.std.proofs.lemmas.Bool.{cases_Bool, both_ways, and_parts, and_from, or_right, eqb-true, eq-eqb}
use Rattle.std.proofs.lemmas.Option.{none-some}
use Rattle.std.proofs.lemmas.List.{length-map, length-append}
use Rattle.std.proofs.lemmas.List.Sums.{length-filter}
use Rattle.elf_model.specs.declared.objects.Symbol.{Symbol}
use Rattle.elf_model.specs.declared.objects.Reloc.{Reloc}
use Rattle.elf_model.specs.declared.objects.RelocKind.{RelocKind}
use Rattle.elf_model.specs.declared.objects.Home.{Home}
use Rattle.elf_model.specs.declared.objects.Home.TheVariants as homes
use Rattle.elf_model.specs.declared.refusals.Refusal.TheVariants as refusal
use Rattle.elf_model.specs.Constants.{local, func}
use Rattle.elf_model.specs.Objects.{ObjectParts, even}
use Rattle.elf_model.proofs.Lists.{get_left, get_right, get_map}
use Rattle.code_ranges.specs.CodeRanges.{holds_code}
use Rattle.reloc_places.specs.Starts.{bytes_of, HasStart}
use Rattle.reloc_places.specs.Relocations.{is_jump, IsRight, is_in_code, is_undefined, is_open_jump, addend, value_of, target_of}
use Rattle.flow_recover.specs.Flows.{FlowParts}
use Rattle.flow_recover.specs.Aims.{is_entry, has_offset, aim_at}
use Rattle.flow_recover.specs.Aims.IsAim.{by_symbol as aims_by}
use Rattle.flow_recover.specs.Aims.IsNamed.{by_address, by_branch}
use Rattle.flow_recover.specs.FlowFaults.{no_start, by_object}
use Rattle.flow_recover.specs.WholeFlows.IsEntry.{named}
use Rattle.hardened_form.specs.Places.{Places as UnitPlaces}
use Rattle.hardened_form.specs.Turns.{zero_addend, is_direct, turns_by, is_turned, Target, old_target, new_addend}
use Rattle.hardened_form.specs.MappingSymbols.{mapping_symbol}
use Rattle.hardened_form.specs.Symbols.{moved, stays, target_symbol}
use Rattle.hardened_form.specs.Carriers.{Carrier}
use Rattle.hardened_form.specs.Relocs.{first_target, IsNewSymbol, StandsFor}
use Rattle.hardened_form.specs.Relocs.IsNewSymbol.{same, own}
use Rattle.sim_images.specs.Counterparts.{IsCounterpart, IsFunctionAt, Answers}
use Rattle.sim_images.specs.Counterparts.Answers.{by_symbol, by_target}
use Rattle.sim_answers.specs.Forms.{IsFormOf, new_places}
use Rattle.sim_answers.proofs.Accepted.{makes_address, not_wrong}
use Rattle.sim_answers.proofs.PointPlaces.{at_point, own_target_point, point_placed}
use Rattle.sim_answers.proofs.SymbolsStay.{entry_placed, counterpart, back}
use Rattle.sim_answers.proofs.Placed.{same_at_last, IsOfPoint, jump_at}

-- the section where an instruction starts is code
start_in_code : (o : ObjectParts) (j x : ℕ) → HasStart o j x → holds_code (slice_get o.sections j) ≡ true
start_in_code o j x start = ap holds_code start.start.range.is_there ∙ start.start.range.in_code

-- of a relocation that does not turn: outside of code, or direct
not_turned : (o : ObjectParts) (r : Reloc) (s : Symbol) → is_turned o r ≡ false → slice_get o.symbols r.symbol ≡ Some s → is_in_code o s.home ≡ true → is_direct o r s ≡ true
not_turned o r s n names c = go (is_direct o r s) (sym (ap (λ (b : Bool). b && not (is_direct o r s)) c) ∙ (sym (ap (turns_by o r) names) ∙ n))
  where
    go : (b : Bool) → not b ≡ false → b ≡ true
    go true e = refl
    go false e = absurd (both_ways true e refl)

pub turned_parts : (o : ObjectParts) (r : Reloc) (s : Symbol) → is_turned o r ≡ true → slice_get o.symbols r.symbol ≡ Some s → (is_in_code o s.home ≡ true) × (is_direct o r s ≡ false)
turned_parts o r s t names =
    let parts = and_parts (is_in_code o s.home) (not (is_direct o r s)) (sym (ap (turns_by o r) names) ∙ t) in
    (parts.0, go (is_direct o r s) parts.1)
  where
    go : (b : Bool) → not b ≡ true → b ≡ false
    go true e = absurd (both_ways false refl e)
    go false e = refl

module _ (o h : ObjectParts) (f : FlowParts) (p : UnitPlaces) (carriers : List (List Carrier)) (is : IsFormOf o h f p carriers) where
  -- a right relocation leads to what has a place
  leads_placed : (k : ℕ) (r : Reloc) (s : Symbol) (j : ℕ) → IsRight o k r → slice_get o.symbols r.symbol ≡ Some s → s.home ≡ homes.Section j → is_in_code o s.home ≡ true → (is_jump r.kind ≡ false) ⊎ IsOfPoint f k
      → ((y : ℕ) × (new_places is j (old_target o r s) ≡ Some y) → ⊥) → ⊥
  leads_placed k r s j right names home code x none = elim (cases_Bool (is_jump r.kind)) [ inl t ↦ jumps t x | inr n ↦ addresses n ]
    where
      at_target : is_jump r.kind ≡ true → (y : ℕ) × (new_places is j (target_of o r s) ≡ Some y) → ⊥
      at_target t y = none (y.0, ap (λ (b : Bool). new_places is j (cond b (target_of o r s) (even (value_of o r s)))) t ∙ y.1)

      addresses : is_jump r.kind ≡ false → ⊥
      addresses n =
          let y = entry_placed o h f p carriers is j (even (value_of o r s)) (named r.section r.offset
          (by_address r s (record { index = k; right = right; kind = makes_address o r right.place n; names = names; home = home; code = code }) refl refl refl)) in
          none (y.0, ap (λ (b : Bool). new_places is j (cond b (target_of o r s) (even (value_of o r s)))) n ∙ y.1)

      own_section : is_jump r.kind ≡ true → (x : IsOfPoint f k) → (r.section ≡ x.point.section) × (r.offset ≡ x.point.offset) × (has_offset x.point.instr ≡ true) → j ≡ r.section → ⊥
      own_section t x at here =
          own_target_point o f is.flow x.point x.listed at.2 k r s x.reloc right names (home ∙ ap (λ (n : ℕ). homes.Section n) (here ∙ at.0)) (λ q.
          let y = point_placed f p is.form.lists.items is.form.tables.lists.items q.0 q.1 in
          at_target t (y.0, ap (λ (n : ℕ). new_places is n (target_of o r s)) (here ∙ at.0 ∙ sym q.2) ∙ (ap (λ (n : ℕ). new_places is q.0.section n) (sym q.3) ∙ y.1)))

      jumps : is_jump r.kind ≡ true → (is_jump r.kind ≡ false) ⊎ IsOfPoint f k → ⊥
      jumps t (inl n) = both_ways (is_jump r.kind) n t
      jumps t (inr x) =
          elim (cases_Bool (j == r.section)) [
            | inl e ↦ own_section t x (jump_at o f is.flow k r x right t) (eqb-true j r.section e)
            | inr e ↦ at_target t (entry_placed o h f p carriers is j (target_of o r s) (named r.section r.offset (by_branch k r s right t names home e refl refl refl)))
          ]

  target_placed : (k : ℕ) (r : Reloc) (s : Symbol) (j : ℕ) → slice_get o.relocs k ≡ Some r → slice_get o.symbols r.symbol ≡ Some s → s.home ≡ homes.Section j → is_in_code o s.home ≡ true
      → (is_jump r.kind ≡ false) ⊎ IsOfPoint f k → (y : ℕ) × (new_places is j (old_target o r s) ≡ Some y)
  target_placed k r s j there names home code x = go (new_places is j (old_target o r s)) refl
    where
      go : (q : Option ℕ) → new_places is j (old_target o r s) ≡ q → (y : ℕ) × (new_places is j (old_target o r s) ≡ Some y)
      go None e = absurd (not_wrong o f is.flow k r there (λ right. leads_placed k r s j right names home code x (λ y. none-some y.0 (sym e ∙ y.1))))
      go (Some y) e = (y, e)

  -- a branch or call that does not turn leads to its symbol itself
  jump_straight : (k : ℕ) (r : Reloc) (s : Symbol) → slice_get o.relocs k ≡ Some r → slice_get o.symbols r.symbol ≡ Some s → IsOfPoint f k → is_jump r.kind ≡ true → is_turned o r ≡ false
      → addend (bytes_of o r.section) r ≡ zero_addend r
  jump_straight k r s there names x jump n =
      same_at_last (addend (bytes_of o r.section) r) (zero_addend r) (λ other. not_wrong o f is.flow k r there (λ right. other (go right (jump_at o f is.flow k r x right jump) s.home refl)))
    where
      zero_is : zero_addend r ≡ 2 ^ 32 - 4
      zero_is = ap (λ (b : Bool). cond b (2 ^ 32 - 4) 0) jump

      open_jump : s.home ≡ homes.Undefined → is_open_jump o r ≡ true
      open_jump e = and_from (is_jump r.kind) (is_undefined (slice_get o.symbols r.symbol)) jump (ap is_undefined names ∙ ap (λ (q : Home). is_undefined (Some (record s { home = q }))) e)

      go : IsRight o k r → (r.section ≡ x.point.section) × (r.offset ≡ x.point.offset) × (has_offset x.point.instr ≡ true) → (home : Home) → s.home ≡ home → addend (bytes_of o r.section) r ≡ zero_addend r
      go right at homes.Undefined e = right.straight (open_jump e) ∙ sym zero_is
      go right at homes.Absolute e =
          let point = at_point o f is.flow x.point x.listed in
          absurd (point.relative at.2 s (target_of o r s) (aims_by k r s (sym point.reloc ∙ x.reloc) right names (ap (λ (q : Home). aim_at x.point.section s q (target_of o r s)) (sym e))))
      go right at (homes.Section j) e =
          elim (cases_Bool (is_in_code o s.home)) [
            | inl c ↦ eqb-true (addend (bytes_of o r.section) r) (zero_addend r) (and_parts ((s.kind == func) || not (s.bind == local)) (addend (bytes_of o r.section) r == zero_addend r) (not_turned o r s n names c)).1
            | inr out ↦
                let outside : holds_code (slice_get o.sections j) ≡ false = sym (ap (is_in_code o) e) ∙ out in
                elim (cases_Bool (j == r.section)) [
                  | inl here ↦
                      let point = at_point o f is.flow x.point x.listed in
                      let code : holds_code (slice_get o.sections x.point.section) ≡ true = ap holds_code point.start.range.is_there ∙ point.start.range.in_code in
                      absurd (both_ways (holds_code (slice_get o.sections j)) outside (ap (λ (m : ℕ). holds_code (slice_get o.sections m)) (eqb-true j r.section here ∙ at.0) ∙ code))
                  | inr apart ↦
                      absurd (is.flow.no_fault refusal.IntoMiddle r.section r.offset (no_start j (target_of o r s) (by_object (by_branch k r s right jump names e apart refl refl refl))
                      (λ start. both_ways (holds_code (slice_get o.sections j)) outside (start_in_code o j (target_of o r s) start)) refl))
                ]
          ]

  -- the function of a target
  target_function : (n : ℕ) (t : Target) (y : ℕ) → slice_get is.form.lists.targets n ≡ Some t → new_places is t.section t.old ≡ Some y → IsFunctionAt h (first_target o is.form.lists + n) t.section y
  target_function n t y at e =
      let l = is.form.lists in
      let stay = map (moved o h l.items) (filter (stays o l.items) o.symbols) in
      let first = stay ++ map mapping_symbol l.mappings in
      let long : length first ≡ first_target o l =
      let a = length-append stay (map mapping_symbol l.mappings) in
      let b = length-map (filter (stays o l.items) o.symbols) (moved o h l.items) ∙ length-filter (stays o l.items) o.symbols in
      let c = length-map l.mappings mapping_symbol in
      omega (arith, a, b, c) in
      let here = get_map (target_symbol o l.items) l.targets n t at in
      let there : slice_get (first ++ map (target_symbol o l.items) l.targets) (first_target o l + n) ≡ Some (target_symbol o l.items t) =
      get_right first (map (target_symbol o l.items) l.targets) n (first_target o l + n) (omega (arith, long)) ∙ here in
      record {
        symbol = target_symbol o l.items t;
        names = ap (λ (xs : List Symbol). slice_get xs (first_target o l + n)) is.form.tables.symbols
            ∙ get_left (first ++ map (target_symbol o l.items) l.targets) (back o h l) (first_target o l + n) (target_symbol o l.items t) there;
        home = refl;
        own = refl;
        function = refl;
        value = ap (λ (q : Option ℕ). unwrap_or q 0 + 1) e;
      }

  pub answered : (k : ℕ) (r : Reloc) (as_kind : RelocKind) (at : ℕ) (q : Reloc) → StandsFor o is.form.lists k r as_kind at q → (is_jump r.kind ≡ false) ⊎ IsOfPoint f k → is_jump q.kind ≡ is_jump r.kind
      → addend (bytes_of h q.section) q ≡ cond (is_jump r.kind) (zero_addend r) (new_addend o r) → Answers o h (new_places is) r q
  answered k r as_kind at q stands x sense number = go stands.symbol
    where
      go : IsNewSymbol o is.form.lists r q.symbol → Answers o h (new_places is) r q
      go (same s n names m) =
          by_symbol (subst (λ (z : ℕ). IsCounterpart o h (new_places is) r.symbol z) (sym m) (counterpart o h f p carriers is r.symbol s names enters)) (number ∙ by_kind x)
          (λ (t, there, code). go_direct t there code)
        where
          enters : (is_in_code o s.home ≡ false) ⊎ (is_entry s ≡ true)
          enters = elim (cases_Bool (is_in_code o s.home)) [
            | inl c ↦ inr (and_parts ((s.kind == func) || not (s.bind == local)) (addend (bytes_of o r.section) r == zero_addend r) (not_turned o r s n names c)).0
            | inr out ↦ inl out
          ]

          plain : is_jump r.kind ≡ false → cond (is_jump r.kind) (zero_addend r) (new_addend o r) ≡ addend (bytes_of o r.section) r
          plain e = ap (λ (b : Bool). cond b (zero_addend r) (new_addend o r)) e ∙ ap (λ (b : Bool). cond b (zero_addend r) (addend (bytes_of o r.section) r)) n

          by_kind : (is_jump r.kind ≡ false) ⊎ IsOfPoint f k → cond (is_jump r.kind) (zero_addend r) (new_addend o r) ≡ addend (bytes_of o r.section) r
          by_kind (inl e) = plain e
          by_kind (inr x) =
              elim (cases_Bool (is_jump r.kind)) [
                | inl e ↦ ap (λ (b : Bool). cond b (zero_addend r) (new_addend o r)) e ∙ sym (jump_straight k r s stands.there names x e n)
                | inr e ↦ plain e
              ]

          go_direct : (t : Symbol) → slice_get o.symbols r.symbol ≡ Some t → is_in_code o t.home ≡ true → addend (bytes_of o r.section) r ≡ zero_addend r
          go_direct t there code =
              eqb-true (addend (bytes_of o r.section) r) (zero_addend r)
              (and_parts ((t.kind == func) || not (t.bind == local)) (addend (bytes_of o r.section) r == zero_addend r) (not_turned o r t n there code)).1
      go (own n t turns target at m) =
          let parts = turned_parts o r target.symbol turns target.names in
          let y = target_placed k r target.symbol t.section stands.there target.names target.home parts.0 x in
          let old : new_places is t.section t.old ≡ Some y.0 = ap (new_places is t.section) target.old ∙ y.1 in
          by_target t.section y.0
          (record { symbol = target.symbol; names = target.names; home = target.home; code = parts.0; goes = y.1; turned = beside target.symbol parts.1 })
          (subst (λ (z : ℕ). IsFunctionAt h z t.section y.0) (sym m) (target_function n t y.0 at old))
          (number ∙ (left (is_jump r.kind) ∙ ap (λ (b : Bool). cond b (2 ^ 32 - 4) 0) (sym sense)))
        where
          beside : (s : Symbol) → is_direct o r s ≡ false → (s.bind ≡ local) ⊎ (addend (bytes_of o r.section) r ≡ zero_addend r → ⊥)
          beside s n =
              elim (cases_Bool (s.bind == local)) [
                | inl e ↦ inl (eqb-true s.bind local e)
                | inr e ↦ inr (λ z. both_ways (is_direct o r s) n
                    (and_from ((s.kind == func) || not (s.bind == local)) (addend (bytes_of o r.section) r == zero_addend r) (or_right (s.kind == func) (not (s.bind == local)) (ap not e))
                    (eq-eqb (addend (bytes_of o r.section) r) (zero_addend r) z)))
              ]

          left : (b : Bool) → cond b (zero_addend r) (new_addend o r) ≡ zero_addend r
          left true = refl
          left false = ap (λ (b : Bool). cond b (zero_addend r) (addend (bytes_of o r.section) r)) turns
