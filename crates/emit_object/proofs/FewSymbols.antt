-- How many symbols there are: no more than old ones, and what sections, words and relocations may give.
use Rattle.std.proofs.Common.{◌≡◌, ◌≤◌, ◌⊎◌, inl, inr, ℕ, zero, suc, ◌+◌, ◌*◌, Bool, true, false, cond, List, [], ◌∷◌, ◌++◌, length, map, filter, refl, sym, ap, ◌∙◌, subst, arith, Option, Some, None}
use Rattle.std.specs.Prelude.{slice_get, Contains, not, ◌==◌, ◌||◌}
use Rattle.std.specs.List.{list_any, zip}
use Rattle.std.specs.declared.cmp.Ordering.TheVariants.{Less}
use Rattle.std.specs.Option.{option_map, option_to_list}
use Rattle.std.proofs.lemmas.Bool.{cases_Bool, true≢false, and_parts, eqb-true}
use Rattle.std.proofs.lemmas.List.{length-map, length-append}
use Rattle.std.proofs.lemmas.List.Elements.{Contains-append_left, Contains-append_right}
use Rattle.std.proofs.lemmas.Option.{none-some, same_Some}
use Rattle.elf_model.specs.declared.objects.Section.{Section}
use Rattle.elf_model.specs.declared.objects.Symbol.{Symbol}
use Rattle.elf_model.specs.declared.objects.Reloc.{Reloc}
use Rattle.elf_model.specs.Constants.{local}
use Rattle.elf_model.specs.Objects.{ObjectParts}
use Rattle.elf_model.proofs.Elements.{contains_cases, contains_here, contains_later, place_of, map_contains, given_by, given_has}
use Rattle.code_ranges.specs.Spans.{place_cmp}
use Rattle.code_ranges.proofs.InOrder.{Rises, never_less, rises_keys}
use Rattle.code_ranges.proofs.PlaceOrder.{place_total}
use Rattle.flow_recover.specs.Flows.{FlowParts}
use Rattle.seq_core.specs.Places.{LayoutParts}
use Rattle.hardened_form.specs.Items.{Item}
use Rattle.hardened_form.specs.Turns.{Target, place_of_target, AreTargets}
use Rattle.hardened_form.specs.MappingSymbols.{Mapping, place_of_mapping, words_in, IsMapping, AreMappings, mapping_symbol}
use Rattle.hardened_form.specs.Symbols.{moved, stays, stays_in, is_shared, target_symbol}
use Rattle.branch_layout.specs.Laid.{laid_places as places_of}
use Rattle.emit_object.specs.Laid.{Matches, HasSizes}
use Rattle.emit_object.specs.WordPlaces.{pool_place, islands}
use Rattle.emit_object.specs.TurnedPlaces.{turned_place}
use Rattle.emit_object.specs.TargetPlaces.{target_at}
use Rattle.emit_object.specs.Numbering.{AreNewSymbols}
use Rattle.emit_object.proofs.MappingFacts.{all_words, in_to}
use Rattle.emit_object.proofs.TargetFacts.{turned_to}
use Rattle.emit_object.proofs.WordFacts.{zip_length}

-- a list that rises, of elements of another one, is no longer
module _ {X : Type 0} (before : X → X → Type 0) (never : (x : X) → before x x → ⊥) where
  abbrev without : List X → ℕ → List X
  without [] k = []
  without (y ∷ ys) zero = ys
  without (y ∷ ys) (suc k) = y ∷ without ys k

  shorter : (ys : List X) (k : ℕ) (x : X) → slice_get ys k ≡ Some x → length (without ys k) + 1 ≡ length ys
  shorter [] k x e = absurd (none-some x e)
  shorter (y ∷ ys) zero x e = omega arith
  shorter (y ∷ ys) (suc k) x e = let h = shorter ys k x e in omega (arith, h)

  others : (ys : List X) (k : ℕ) (x z : X) → slice_get ys k ≡ Some x → Contains ys z → (x ≡ z) ⊎ Contains (without ys k) z
  others [] k x z e h = absurd (none-some x e)
  others (y ∷ ys) zero x z e h = elim (contains_cases y ys z h) [ inl s ↦ inl (sym (same_Some y x e) ∙ s) | inr r ↦ inr r ]
  others (y ∷ ys) (suc k) x z e h = elim (contains_cases y ys z h) [
    | inl s ↦ inr (subst (Contains (y ∷ without ys k)) s (contains_here y (without ys k)))
    | inr r ↦ elim (others ys k x z e r) [ inl s ↦ inl s | inr q ↦ inr (contains_later y (without ys k) z q) ]
  ]

  pub no_longer : (xs ys : List X) → Rises before xs → ((x : X) → Contains xs x → Contains ys x) → length xs ≤ length ys
  no_longer [] ys rise all = omega arith
  no_longer (x ∷ xs) ys rise all =
      let k = place_of ys x (all x (contains_here x xs)) in
      let rest = no_longer xs (without ys k.0) rise.1 (λ z h. elim (others ys k.0 x z k.1 (all z (contains_later x xs z h))) [
        | inl s ↦ absurd (never z (subst (λ (y : X). before y z) s (rise.0 z h)))
        | inr r ↦ r
      ]) in
      let less = shorter ys k.0 x k.1 in
      omega (arith, rest, less)

given_few : {X Y : Type 0} (g : ℕ → X → Option Y) (k : ℕ) (xs : List X) → length (given_by g k xs) ≤ length xs
given_few g k [] = omega arith
given_few {X} {Y} g k (x ∷ rest) = go (g k x) (given_few g (k + 1) rest)
  where
    go : (o : Option Y) → length (given_by g (k + 1) rest) ≤ length rest → length (option_to_list o ++ given_by g (k + 1) rest) ≤ suc (length rest)
    go None h = omega (arith, h)
    go (Some y) h = omega (arith, h)

place_never : {X : Type 0} (key : X → ℕ × ℕ) (x : X) → place_cmp (key x) (key x) ≡ Less → ⊥
place_never key x h = never_less place_cmp place_total (key x) (key x) h h

-- each target is of a relocation
pub targets_few : (o : ObjectParts) (f : FlowParts) (targets : List Target) → AreTargets o f targets → length targets ≤ length o.relocs
targets_few o f targets are =
    let one : ℕ → Reloc → Option Target = λ k r. option_map target_at (turned_place o r) in
    let all = no_longer (λ (a b : Target). place_cmp (place_of_target a) (place_of_target b) ≡ Less) (place_never place_of_target) targets (given_by one 0 o.relocs) (rises_keys place_of_target place_cmp targets are.rise)
    (λ t h. let is = (are.exact t).0 h in given_has one 0 o.relocs is.number is.reloc t is.there (ap (option_map target_at) ((turned_to o is.reloc t).1 (is.turned, is.target)))) in
    let few = given_few one 0 o.relocs in
    omega (arith, all, few)

any_at : {X : Type 0} (p : X → Bool) (xs : List X) → list_any p xs ≡ true → (x : X) × Contains xs x × (p x ≡ true)
any_at p [] h = absurd (true≢false (sym h))
any_at p (x ∷ xs) h = elim (cases_Bool (p x)) [
  | inl t ↦ (x, contains_here x xs, t)
  | inr n ↦ let q = any_at p xs (ap (λ (b : Bool). b || list_any p xs) (sym n) ∙ h) in (q.0, contains_later x xs q.0 q.1, q.2)
]

-- what sections and words may give
abbrev firsts : ℕ → Section → Option Mapping
firsts j s = Some (record { section = j; at = 0; code = true })

abbrev data_at : ℕ × ℕ → Mapping
data_at p = record { section = p.0; at = p.1; code = false }

abbrev code_at : ℕ × ℕ → Mapping
code_at p = record { section = p.0; at = p.1 + 4; code = true }

module _ (o h : ObjectParts) (f : FlowParts) (l : LayoutParts) (matches : Matches f l) (sized : HasSizes o h l.sizes) where
  abbrev one : List Mapping
  one = given_by firsts 0 o.sections

  abbrev words : List (ℕ × ℕ)
  words = all_words f l matches

  abbrev all : List Mapping
  all = one ++ (map data_at words ++ map code_at words)

  in_all : (m : Mapping) → IsMapping h f (places_of l) m → Contains all m
  in_all m (IsMapping.first j t e c low n) =
      let old = sized.olds j t e c in
      let same : 0 + j ≡ j = omega arith in
      Contains-append_left one (map data_at words ++ map code_at words) (record { section = j; at = 0; code = true })
      (given_has firsts 0 o.sections j old.section (record { section = j; at = 0; code = true }) old.there (ap (λ (k : ℕ). Some (record { section = k; at = 0; code = true })) same))
  in_all m (IsMapping.word j x has n) =
      let w = any_at (λ (y : ℕ). y == x) (words_in f (places_of l) j) has in
      let there : Contains words (j, x) = subst (λ (y : ℕ). Contains words (j, y)) (eqb-true w.0 x w.2) (in_to f l matches j w.0 w.1) in
      Contains-append_right one (map data_at words ++ map code_at words) (data_at (j, x)) (Contains-append_left (map data_at words) (map code_at words) (data_at (j, x)) (map_contains data_at words (j, x) there))
  in_all m (IsMapping.behind j x foll has) =
      let w = any_at (λ (y : ℕ). y + 4 == x) (words_in f (places_of l) j) foll in
      let there : Contains words (j, w.0) = in_to f l matches j w.0 w.1 in
      Contains-append_right one (map data_at words ++ map code_at words) (record { section = j; at = x; code = true })
      (Contains-append_right (map data_at words) (map code_at words) (record { section = j; at = x; code = true })
      (subst (λ (y : ℕ). Contains (map code_at words) (record { section = j; at = y; code = true })) (eqb-true (w.0 + 4) x w.2) (map_contains code_at words (j, w.0) there)))

  -- each mapping symbol is of a section or a word, two at most of a word
  pub mappings_few : (mappings : List Mapping) → AreMappings h f (places_of l) mappings → length mappings ≤ length o.sections + 2 * (length f.words + length (islands l.units))
  mappings_few mappings are =
      let most = no_longer (λ (a b : Mapping). place_cmp (place_of_mapping a) (place_of_mapping b) ≡ Less) (place_never place_of_mapping) mappings all (rises_keys place_of_mapping place_cmp mappings are.rise)
      (λ m c. in_all m ((are.exact m).0 c)) in
      let few = given_few firsts 0 o.sections in
      let a = length-append one (map data_at words ++ map code_at words) in
      let b = length-append (map data_at words) (map code_at words) in
      let c = length-map words data_at in
      let d = length-map words code_at in
      let e = length-append (map pool_place (zip f.words l.words)) (islands l.units) in
      let g = length-map (zip f.words l.words) pool_place in
      let i = zip_length f.words l.words matches.words in
      omega (arith, most, few, a, b, c, d, e, g, i)

-- no symbol both stays as a local one and is seen by others
module _ {X : Type 0} (p q : X → Bool) (apart : (x : X) → p x ≡ true → q x ≡ false) where
  either : (xs : List X) → length (filter p xs) + length (filter q xs) ≤ length xs
  either [] = omega arith
  either (x ∷ xs) = go (p x) refl (q x) refl (either xs)
    where
      go : (a : Bool) → p x ≡ a → (b : Bool) → q x ≡ b → length (filter p xs) + length (filter q xs) ≤ length xs
          → length (cond a (x ∷ filter p xs) (filter p xs)) + length (cond b (x ∷ filter q xs) (filter q xs)) ≤ suc (length xs)
      go true e true f h = absurd (true≢false (sym f ∙ apart x e))
      go true e false f h = omega (arith, h)
      go false e true f h = omega (arith, h)
      go false e false f h = omega (arith, h)

pub symbols_few : (o h : ObjectParts) (f : FlowParts) (l : LayoutParts) (items : List Item) (symbols : List Symbol) (places : List (ℕ × ℕ)) (begin : ℕ) (numbers : List ℕ)
    → AreNewSymbols o h f l items symbols places begin numbers → Matches f l → HasSizes o h l.sizes → length symbols ≤ length o.symbols + length o.sections + 2 * (length f.words + length (islands l.units)) + length o.relocs
symbols_few o h f l items symbols places begin numbers made matches sized =
    let s = made.lists in
    let kept = map (moved o h s.items) (filter (stays o s.items) o.symbols) in
    let marks = map mapping_symbol s.mappings in
    let functions = map (target_symbol o s.items) s.targets in
    let shared = map (moved o h s.items) (filter is_shared o.symbols) in
    let is = ap length made.all in
    let a = length-append (kept ++ marks ++ functions) shared in
    let b = length-append (kept ++ marks) functions in
    let c = length-append kept marks in
    let d = length-map (filter (stays o s.items) o.symbols) (moved o h s.items) in
    let e = length-map (filter is_shared o.symbols) (moved o h s.items) in
    let g = length-map s.mappings mapping_symbol in
    let i = length-map s.targets (target_symbol o s.items) in
    let j = either (stays o s.items) is_shared (λ x k. ap not (and_parts (x.bind == local) (stays_in o s.items x x.home) k).0) o.symbols in
    let m = mappings_few o h f l matches sized s.mappings made.are.mappings in
    let t = targets_few o f s.targets made.are.targets in
    omega (arith, is, a, b, c, d, e, g, i, j, m, t)
