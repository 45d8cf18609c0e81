-- The numbers of symbols, the functions of targets, and the whole list.
use Rattle.std.proofs.Common.{◌≡◌, ◌<◌, ◌^◌, ℕ, zero, suc, ◌+◌, Bool, true, false, cond, List, [], ◌∷◌, ◌++◌, length, map, filter, take, refl, sym, ap, ◌∙◌, subst, arith, Option, Some, None}
use Rattle.std.specs.List.Sorted.{IsStrictlySortedBy}
use Rattle.std.specs.Prelude.{slice_get, slice_index, Contains, count_by, ◌==◌, not}
use Rattle.std.proofs.lemmas.Bool.{true≢false, and_parts}
use Rattle.std.proofs.lemmas.Option.{none-some, same_Some, slice_get_within}
use Rattle.std.proofs.lemmas.List.{length-map}
use Rattle.std.proofs.lemmas.List as lists
use Rattle.std.proofs.lemmas.List.Sums.{length-filter}
use Rattle.elf_model.specs.declared.objects.Section.{Section}
use Rattle.elf_model.specs.declared.objects.Symbol.{Symbol}
use Rattle.elf_model.specs.Constants.{local}
use Rattle.elf_model.specs.Objects.{ObjectParts}
use Rattle.elf_model.proofs.Lists.{count_cons}
use Rattle.elf_model.proofs.Elements.{map_contains, contains_here, contains_later}
use Rattle.code_ranges.specs.CodeRanges.{holds_code}
use Rattle.code_ranges.specs.Spans.{place_cmp}
use Rattle.reloc_places.specs.Relocations.{is_in_code}
use Rattle.flow_recover.specs.Flows.{FlowParts}
use Rattle.seq_core.specs.Places.{LayoutParts}
use Rattle.hardened_form.specs.Items.{Item}
use Rattle.hardened_form.specs.Rows.{ordinal}
use Rattle.hardened_form.specs.Turns.{turns_by, is_direct, place_of_target, AreTargets}
use Rattle.hardened_form.specs.MappingSymbols.{Mapping, AreMappings, mapping_symbol}
use Rattle.hardened_form.specs.Symbols.{Lists, moved, stays, is_shared, target_symbol}
use Rattle.hardened_form.specs.Relocs.{first_target, first_shared}
use Rattle.branch_layout.specs.Laid.{laid_places as places_of}
use Rattle.emit_object.specs.RowLists.{ordinals_from}
use Rattle.emit_object.specs.TargetPlaces.{target_at}
use Rattle.emit_object.specs.TargetSymbols.{function_by, function_in, functions_of}
use Rattle.emit_object.specs.FirstItems.{AreItemsOf}
use Rattle.emit_object.specs.MovedSymbols.{numbers_from}
use Rattle.emit_object.specs.Numbering.{AreNewSymbols}
use Rattle.emit_object.proofs.RowTurns.{ordinal_at}

-- a symbol's number is counted from those before it
pub number_at : (keeps : Symbol → Bool) (a b : ℕ) (xs : List Symbol) (k : ℕ) (s : Symbol) → slice_get xs k ≡ Some s
    → slice_get (numbers_from keeps a b xs) k ≡ Some (cond (s.bind == local) (a + count_by keeps (take k xs)) (b + count_by is_shared (take k xs)))
number_at keeps a b [] k s e = absurd (none-some s e)
number_at keeps a b (x ∷ xs) zero s e =
    let left : a ≡ a + 0 = omega arith in
    let right : b ≡ b + 0 = omega arith in
    ap (λ (z : Symbol). Some (cond (z.bind == local) a b)) (same_Some x s e) ∙ ap (λ (n : ℕ). Some (cond (s.bind == local) n b)) left ∙ ap (λ (n : ℕ). Some (cond (s.bind == local) (a + 0) n)) right
number_at keeps a b (x ∷ xs) (suc k) s e =
    number_at keeps (cond (keeps x) (a + 1) a) (cond (is_shared x) (b + 1) b) xs k s e
    ∙ ap (λ (n : ℕ). Some (cond (s.bind == local) n (cond (is_shared x) (b + 1) b + count_by is_shared (take k xs)))) (one (keeps x) a (count_by keeps (take k xs)) (count_by keeps (take (suc k) (x ∷ xs))) (count_cons keeps x (take k xs)))
    ∙ ap (λ (n : ℕ). Some (cond (s.bind == local) (a + count_by keeps (take (suc k) (x ∷ xs))) n)) (one (is_shared x) b (count_by is_shared (take k xs)) (count_by is_shared (take (suc k) (x ∷ xs))) (count_cons is_shared x (take k xs)))
  where
    one : (t : Bool) (n m q : ℕ) → q ≡ cond t (1 + m) m → cond t (n + 1) n + m ≡ n + q
    one true n m q e = omega arith
    one false n m q e = omega arith

from_0 : (n : ℕ) → 0 + n ≡ n
from_0 n = omega arith

-- the section of a target is there
pub target_within : (o : ObjectParts) (f : FlowParts) (places : List (ℕ × ℕ)) → AreTargets o f (map target_at places) → (p : ℕ × ℕ) → Contains places p → p.0 < length o.sections
target_within o f places are p here =
    let t = (are.exact (target_at p)).0 (map_contains target_at places p here) in
    let turned : turns_by o t.reloc (Some t.target.symbol) ≡ true = ap (turns_by o t.reloc) (sym t.target.names) ∙ t.turned in
    let code : is_in_code o t.target.symbol.home ≡ true = (and_parts (is_in_code o t.target.symbol.home) (not (is_direct o t.reloc t.target.symbol)) turned).0 in
    go (slice_get o.sections p.0) refl (ap (is_in_code o) (sym t.target.home) ∙ code)
  where
    go : (e : Option Section) → slice_get o.sections p.0 ≡ e → holds_code e ≡ true → p.0 < length o.sections
    go None e c = absurd (true≢false (sym c))
    go (Some s) e c = slice_get_within o.sections p.0 s e

-- the places of targets rise
pub places_rise : (o : ObjectParts) (f : FlowParts) (places : List (ℕ × ℕ)) → AreTargets o f (map target_at places) → IsStrictlySortedBy place_cmp places
places_rise o f places are = subst (IsStrictlySortedBy place_cmp) (back places) are.rise
  where
    back : (ps : List (ℕ × ℕ)) → map place_of_target (map target_at ps) ≡ ps
    back [] = refl
    back (p ∷ ps) = ap (λ (l : List (ℕ × ℕ)). p ∷ l) (back ps)

-- the functions of targets are those of the definition
pub functions_are : (o : ObjectParts) (items : List Item) (places : List (ℕ × ℕ)) → ((p : ℕ × ℕ) → Contains places p → p.0 < length o.sections)
    → functions_of items (ordinals_from 0 o.sections) places ≡ map (target_symbol o items) (map target_at places)
functions_are o items [] low = refl
functions_are o items (p ∷ rest) low =
    let number : slice_index (ordinals_from 0 o.sections) p.0 ≡ ordinal o p.0 = let at = ordinal_at 0 o.sections p.0 (low p (contains_here p rest)) in omega (arith, at) in
    ap (λ (n : ℕ). function_by items n (target_at p) ∷ functions_of items (ordinals_from 0 o.sections) rest) number
    ∙ ap (λ (l : List Symbol). target_symbol o items (target_at p) ∷ l) (functions_are o items rest (λ q h. low q (contains_later p rest q h)))

module _ (o h : ObjectParts) (f : FlowParts) (l : LayoutParts) (items : List Item) (are_items : AreItemsOf f l items)
    (mappings : List Mapping) (are_mappings : AreMappings h f (places_of l) mappings) (places : List (ℕ × ℕ)) (are_targets : AreTargets o f (map target_at places)) where
  abbrev all_lists : Lists
  all_lists = record { items = items; mappings = mappings; targets = map target_at places }

  abbrev kept : List Symbol
  kept = map (moved o h items) (filter (stays o items) o.symbols)

  abbrev shared : List Symbol
  shared = map (moved o h items) (filter is_shared o.symbols)

  module _ (before : List Symbol) (is_before : before ≡ kept ++ map mapping_symbol mappings) (first : ℕ) (is_first : first ≡ length before) where
    first_is : first ≡ first_target o all_lists
    first_is =
        let a : length kept ≡ count_by (stays o items) o.symbols = length-map (filter (stays o items) o.symbols) (moved o h items) ∙ length-filter (stays o items) o.symbols in
        let b : length (map mapping_symbol mappings) ≡ length mappings = length-map mappings mapping_symbol in
        let c : length (kept ++ map mapping_symbol mappings) ≡ length kept + length (map mapping_symbol mappings) = lists.length-append kept (map mapping_symbol mappings) in
        let d = ap length is_before in
        omega (arith, a, b, c, d, is_first)

    module _ (ordinals : List ℕ) (are_ordinals : ordinals ≡ ordinals_from 0 o.sections) (with_functions : List Symbol) (is_with : with_functions ≡ before ++ functions_of items ordinals places)
        (start : ℕ) (is_start : start ≡ length with_functions) where
      functions : functions_of items ordinals places ≡ map (target_symbol o items) (map target_at places)
      functions = ap (λ (ns : List ℕ). functions_of items ns places) are_ordinals ∙ functions_are o items places (target_within o f places are_targets)

      start_is : start ≡ first_shared o all_lists
      start_is =
          let a : length (functions_of items ordinals places) ≡ length places = length-map places (function_in items ordinals) in
          let b : length (map target_at places) ≡ length places = length-map places target_at in
          let c : length (before ++ functions_of items ordinals places) ≡ length before + length (functions_of items ordinals places) = lists.length-append before (functions_of items ordinals places) in
          let d = ap length is_with in
          let e = first_is in
          omega (arith, a, b, c, d, e, is_start, is_first)

      pub are_new_symbols : (few : first + length places < 2 ^ 32) (list : List Symbol) → list ≡ with_functions ++ shared → (numbers : List ℕ) → numbers ≡ numbers_from (stays o items) 0 start o.symbols
          → AreNewSymbols o h f l items list places first numbers
      are_new_symbols few list is_list numbers are_numbers = record {
        lists = all_lists;
        items = refl;
        are = record { items = are_items; mappings = are_mappings; targets = are_targets };
        all =
            is_list ∙ ap (λ (xs : List Symbol). xs ++ shared) (is_with ∙ ap (λ (xs : List Symbol). xs ++ functions_of items ordinals places) is_before ∙ ap (λ (xs : List Symbol). (kept ++ map mapping_symbol mappings) ++ xs) functions);
        numbered = record {
          targets = refl;
          first = first_is;
          few = few;
          olds = λ k s e.
              ap (λ (ns : List ℕ). slice_get ns k) (are_numbers ∙ ap (λ (n : ℕ). numbers_from (stays o items) 0 n o.symbols) start_is)
              ∙ number_at (stays o items) 0 (first_shared o all_lists) o.symbols k s e
              ∙ ap (λ (n : ℕ). Some (cond (s.bind == local) n (first_shared o all_lists + count_by is_shared (take k o.symbols)))) (from_0 (count_by (stays o items) (take k o.symbols)));
        };
      }
