-- The spots of ranges are the places of their faults.
use Rattle.std.proofs.Common.{◌≡◌, ℕ, ◌+◌, ◌%◌, Bool, true, false, cond, List, [], ◌∷◌, ◌++◌, refl, sym, ap, ◌∙◌, subst, inl, inr, arith, Option, Some, None}
use Rattle.std.specs.Prelude.{Contains, slice_get, nat_lt, ◌==◌, ◌&&◌, is_some, is_none}
use Rattle.std.specs.Option.{option_to_list}
use Rattle.std.proofs.lemmas.Bool.{and_parts, and_from, eqb-true, eq-eqb, ltb-true, lt-ltb, cond-true, true≢false}
use Rattle.std.proofs.lemmas.Option.{none-some, same_Some}
use Rattle.std.proofs.lemmas.List.Elements.{Contains-append_left, Contains-append_right, Contains-append_cases}
use Rattle.elf_model.specs.declared.objects.Section.{Section}
use Rattle.elf_model.specs.declared.objects.Symbol.{Symbol}
use Rattle.elf_model.specs.declared.objects.Home.{Home}
use Rattle.elf_model.specs.declared.objects.Home.TheVariants as home
use Rattle.elf_model.specs.declared.ranges.RangeKind.{RangeKind}
use Rattle.elf_model.specs.declared.ranges.RangeKind.TheVariants.{Code, Arm, Data}
use Rattle.elf_model.specs.declared.refusals.Refusal.{Refusal}
use Rattle.elf_model.specs.declared.refusals.Refusal.TheVariants.{NoMapping, ArmCode}
use Rattle.elf_model.specs.declared.refusals.Spot.{Spot}
use Rattle.elf_model.specs.Constants.{func}
use Rattle.elf_model.specs.Objects.{ObjectParts, is_code}
use Rattle.elf_model.specs.Ranges.{IsRange}
use Rattle.code_ranges.specs.declared.spans.Span.{Span}
use Rattle.code_ranges.specs.CodeRanges.{RangeFault}
use Rattle.code_ranges.specs.CodeRanges.RangeFault.{no_mapping, arm_range, arm_function}
use Rattle.code_ranges.specs.Spans.{kind_at}
use Rattle.code_ranges.specs.CodeRanges.{holds_code}
use Rattle.code_ranges.specs.Spots.{spot_of, unmapped_spot, unmapped_spots, is_arm, arm_spot, arm_spots, function_spot_at, function_spot, function_spots}
use Rattle.elf_model.proofs.Elements.{given_by, given_is, given_has, place_of, contains_at}
use Rattle.code_ranges.proofs.KindFacts.{mapped_is}

unmapped_given : (symbols : List Symbol) (j : ℕ) (xs : List Section) → unmapped_spots symbols j xs ≡ given_by (λ k s. unmapped_spot (kind_at symbols k 0) k s) j xs
unmapped_given symbols j [] = refl
unmapped_given symbols j (s ∷ rest) = ap (λ (t : List Spot). option_to_list (unmapped_spot (kind_at symbols j 0) j s) ++ t) (unmapped_given symbols (j + 1) rest)

arm_given : (j : ℕ) (xs : List Span) → arm_spots xs ≡ given_by (λ _ s. arm_spot s) j xs
arm_given j [] = refl
arm_given j (s ∷ rest) = ap (λ (t : List Spot). option_to_list (arm_spot s) ++ t) (arm_given (j + 1) rest)

functions_given : (sections : List Section) (j : ℕ) (xs : List Symbol) → function_spots sections xs ≡ given_by (λ _ f. function_spot sections f) j xs
functions_given sections j [] = refl
functions_given sections j (f ∷ rest) = ap (λ (t : List Spot). option_to_list (function_spot sections f) ++ t) (functions_given sections (j + 1) rest)

-- a spot is where a fault is
abbrev pub IsFaultSpot : ObjectParts → Spot → Type 0
IsFaultSpot o s = RangeFault o s.refusal s.section s.offset × (s.file ≡ 0)

at_spot : (o : ObjectParts) (r : Refusal) (j x : ℕ) (s : Spot) → Some (spot_of r j x) ≡ Some s → RangeFault o r j x → IsFaultSpot o s
at_spot o r j x s e f = subst (λ (z : Spot). IsFaultSpot o z) (same_Some (spot_of r j x) s e) (f, refl)

none_not_some : (k : Option RangeKind) → is_none k ≡ true → is_some k ≡ false
none_not_some None h = refl
none_not_some (Some k) h = absurd (true≢false (sym h))

not_some_none : (k : Option RangeKind) → is_some k ≡ false → is_none k ≡ true
not_some_none None h = refl
not_some_none (Some k) h = absurd (true≢false h)

arm_is : (k : RangeKind) → is_arm k ≡ true → k ≡ Arm
arm_is Code h = absurd (true≢false (sym h))
arm_is Arm h = refl
arm_is Data h = absurd (true≢false (sym h))

unmapped_fault : (o : ObjectParts) (s : Spot) → Contains (unmapped_spots o.symbols 0 o.sections) s → IsFaultSpot o s
unmapped_fault o s h =
    let g = given_is (λ k t. unmapped_spot (kind_at o.symbols k 0) k t) 0 o.sections s (subst (λ (l : List Spot). Contains l s) (unmapped_given o.symbols 0 o.sections) h) in
    let z : 0 + g.index ≡ g.index = omega arith in
    go g.index g.source g.there (subst (λ (n : ℕ). unmapped_spot (kind_at o.symbols n 0) n g.source ≡ Some s) z g.gives)
  where
    go : (j : ℕ) (t : Section) → slice_get o.sections j ≡ Some t → unmapped_spot (kind_at o.symbols j 0) j t ≡ Some s → IsFaultSpot o s
    go j t e h = test (is_code t && nat_lt 0 t.size && is_none (kind_at o.symbols j 0)) refl h
      where
        test : (b : Bool) → (is_code t && nat_lt 0 t.size && is_none (kind_at o.symbols j 0)) ≡ b → cond b (Some (spot_of NoMapping j 0)) None ≡ Some s → IsFaultSpot o s
        test true f h =
            let p = and_parts (is_code t && nat_lt 0 t.size) (is_none (kind_at o.symbols j 0)) f in
            let q = and_parts (is_code t) (nat_lt 0 t.size) p.0 in
            at_spot o NoMapping j 0 s h (no_mapping j t e q.0 (ltb-true 0 t.size q.1) (mapped_is o j 0 ∙ none_not_some (kind_at o.symbols j 0) p.1))
        test false f h = absurd (none-some s h)

function_fault : (o : ObjectParts) (s : Spot) → Contains (function_spots o.sections o.symbols) s → IsFaultSpot o s
function_fault o s h =
    let g = given_is (λ _ f. function_spot o.sections f) 0 o.symbols s (subst (λ (l : List Spot). Contains l s) (functions_given o.sections 0 o.symbols) h) in
    go g.index g.source g.there g.source.home refl g.gives
  where
    go : (k : ℕ) (f : Symbol) → slice_get o.symbols k ≡ Some f → (h : Home) → f.home ≡ h → function_spot_at o.sections f h ≡ Some s → IsFaultSpot o s
    go k f e home.Undefined at g = absurd (none-some s g)
    go k f e home.Absolute at g = absurd (none-some s g)
    go k f e (home.Section j) at g = test (slice_get o.sections j) refl ((f.kind == func) && (f.value % 2 == 0) && holds_code (slice_get o.sections j)) refl g
      where
        test : (t : Option Section) → slice_get o.sections j ≡ t → (b : Bool) → ((f.kind == func) && (f.value % 2 == 0) && holds_code (slice_get o.sections j)) ≡ b
            → cond b (Some (spot_of ArmCode j f.value)) None ≡ Some s → IsFaultSpot o s
        test None x true y g = absurd (true≢false (sym (sym (ap holds_code x) ∙ (and_parts ((f.kind == func) && (f.value % 2 == 0)) (holds_code (slice_get o.sections j)) y).1)))
        test (Some t) x true y g =
            let p = and_parts ((f.kind == func) && (f.value % 2 == 0)) (holds_code (slice_get o.sections j)) y in
            let q = and_parts (f.kind == func) (f.value % 2 == 0) p.0 in
            at_spot o ArmCode j f.value s g (arm_function k j f t e (eqb-true f.kind func q.0) at (eqb-true (f.value % 2) 0 q.1) x (sym (ap holds_code x) ∙ p.1))
        test t x false y g = absurd (none-some s g)

module _ (o : ObjectParts) (spans : List Span) (each : (s : Span) → Contains spans s → IsRange o s.kind s.section s.start s.end) where
  arm_fault : (s : Spot) → Contains (arm_spots spans) s → IsFaultSpot o s
  arm_fault s h =
      let g = given_is (λ _ t. arm_spot t) 0 spans s (subst (λ (l : List Spot). Contains l s) (arm_given 0 spans) h) in
      go g.source (each g.source (contains_at spans g.index g.source g.there)) (is_arm g.source.kind) refl g.gives
    where
      go : (t : Span) → IsRange o t.kind t.section t.start t.end → (b : Bool) → is_arm t.kind ≡ b → cond b (Some (spot_of ArmCode t.section t.start)) None ≡ Some s → IsFaultSpot o s
      go t r true y g = at_spot o ArmCode t.section t.start s g (arm_range t.section t.start t.end (subst (λ (k : RangeKind). IsRange o k t.section t.start t.end) (arm_is t.kind y) r))
      go t r false y g = absurd (none-some s g)

  pub spots_are_faults : (s : Spot) → Contains ((unmapped_spots o.symbols 0 o.sections ++ arm_spots spans) ++ function_spots o.sections o.symbols) s → IsFaultSpot o s
  spots_are_faults s h =
      elim (Contains-append_cases (unmapped_spots o.symbols 0 o.sections ++ arm_spots spans) (function_spots o.sections o.symbols) s h) [
        | inl l ↦ elim (Contains-append_cases (unmapped_spots o.symbols 0 o.sections) (arm_spots spans) s l) [
          | inl u ↦ unmapped_fault o s u
          | inr a ↦ arm_fault s a
        ]
        | inr f ↦ function_fault o s f
      ]

module _ (o : ObjectParts) (spans : List Span) (all : (s : Span) → IsRange o s.kind s.section s.start s.end → Contains spans s) where
  pub faults_have_spots : (r : Refusal) (j x : ℕ) → RangeFault o r j x → Contains ((unmapped_spots o.symbols 0 o.sections ++ arm_spots spans) ++ function_spots o.sections o.symbols) (spot_of r j x)
  faults_have_spots _ _ _ (no_mapping j s e code low un) =
      let spot = spot_of NoMapping j 0 in
      let z : j ≡ 0 + j = omega arith in
      let gives : unmapped_spot (kind_at o.symbols j 0) j s ≡ Some spot =
      cond-true (is_code s && nat_lt 0 s.size && is_none (kind_at o.symbols j 0)) (Some spot) None
      (and_from (is_code s && nat_lt 0 s.size) (is_none (kind_at o.symbols j 0)) (and_from (is_code s) (nat_lt 0 s.size) code (lt-ltb 0 s.size low))
      (not_some_none (kind_at o.symbols j 0) (sym (mapped_is o j 0) ∙ un))) in
      Contains-append_left (unmapped_spots o.symbols 0 o.sections ++ arm_spots spans) (function_spots o.sections o.symbols) spot
      (Contains-append_left (unmapped_spots o.symbols 0 o.sections) (arm_spots spans) spot
      (subst (λ (l : List Spot). Contains l spot) (sym (unmapped_given o.symbols 0 o.sections))
      (given_has (λ k t. unmapped_spot (kind_at o.symbols k 0) k t) 0 o.sections j s spot e (subst (λ (n : ℕ). unmapped_spot (kind_at o.symbols n 0) n s ≡ Some spot) z gives))))
  faults_have_spots _ _ _ (arm_range j start end r) =
      let spot = spot_of ArmCode j start in
      let span : Span = record { section = j; start = start; end = end; kind = Arm } in
      let i = place_of spans span (all span r) in
      Contains-append_left (unmapped_spots o.symbols 0 o.sections ++ arm_spots spans) (function_spots o.sections o.symbols) spot
      (Contains-append_right (unmapped_spots o.symbols 0 o.sections) (arm_spots spans) spot
      (subst (λ (l : List Spot). Contains l spot) (sym (arm_given 0 spans)) (given_has (λ _ t. arm_spot t) 0 spans i.0 span spot i.1 refl)))
  faults_have_spots _ _ _ (arm_function k j f s e kind at even there code) =
      let spot = spot_of ArmCode j f.value in
      let gives : function_spot o.sections f ≡ Some spot =
      ap (λ (h : Home). function_spot_at o.sections f h) at
      ∙ cond-true ((f.kind == func) && (f.value % 2 == 0) && holds_code (slice_get o.sections j)) (Some spot) None
      (and_from ((f.kind == func) && (f.value % 2 == 0)) (holds_code (slice_get o.sections j)) (and_from (f.kind == func) (f.value % 2 == 0) (eq-eqb f.kind func kind) (eq-eqb (f.value % 2) 0 even))
      (ap holds_code there ∙ code)) in
      Contains-append_right (unmapped_spots o.symbols 0 o.sections ++ arm_spots spans) (function_spots o.sections o.symbols) spot
      (subst (λ (l : List Spot). Contains l spot) (sym (functions_given o.sections 0 o.symbols)) (given_has (λ _ f. function_spot o.sections f) 0 o.symbols k f spot e gives))
