-- The symbols of the generated object, and what their names stand for.
use Rattle.std.proofs.Common.{◌≡◌, ◌<◌, ◌≤◌, ℕ, zero, suc, ◌+◌, Bool, true, cond, List, [], ◌∷◌, ◌++◌, map, filter, refl, sym, ap, ap₂, ◌∙◌, subst, inl, inr, ◌⊎◌, arith, Option, Some}
use Rattle.std.specs.Prelude.{Contains, find, codes, ◌==◌, ◌&&◌}
use Rattle.std.specs.List.{range_with_len}
use Rattle.std.specs.Fmt.{decimal}
use Rattle.std.proofs.lemmas.Bool.{cases_Bool, cases_lt}
use Rattle.elf_model.specs.Constants.{global, weak}
use Rattle.elf_model.specs.Fields.{same_name}
use Rattle.elf_model.proofs.Elements.{contains_cases}
use Rattle.thumb_table.specs.Names.{Defined, numbered, all_symbols, is_defined, globals, weaks, resolved}
use Rattle.sim_images.proofs.EntriesAlike.{same_self}
use Rattle.gen_object.specs.Generated.{code_symbol, function_symbol, generated}
use Rattle.gen_image.proofs.Making.{made_for, all_pass, none_pass, no_more}
use Rattle.gen_image.proofs.Numbering.{same_named}

abbrev pub mapped : Defined
mapped = record { object = 0; index = 0; symbol = code_symbol }

abbrev pub defined : ℕ → ℕ → Defined
defined count k = record { object = 0; index = k + 1; symbol = function_symbol count k }

numbered_functions : (count a n : ℕ) → numbered 0 (a + 1) (map (function_symbol count) (range_with_len a n)) ≡ map (defined count) (range_with_len a n)
numbered_functions count a zero = refl
numbered_functions count a (suc n) = ap (λ (l : List Defined). defined count a ∷ l) (numbered_functions count (a + 1) n)

pub symbols_are : (seed count : ℕ) → all_symbols 0 (generated seed count ∷ []) ≡ mapped ∷ map (defined count) (range_with_len 0 count)
symbols_are seed count =
    ap (λ (l : List Defined). mapped ∷ l) (no_more (numbered 0 1 (map (function_symbol count) (range_with_len 0 count))) ∙ numbered_functions count 0 count)

pub symbol_is : (seed count : ℕ) (d : Defined) → Contains (all_symbols 0 (generated seed count ∷ [])) d → (mapped ≡ d) ⊎ ((k : ℕ) × (k < count) × (defined count k ≡ d))
symbol_is seed count d h =
    elim (contains_cases mapped (map (defined count) (range_with_len 0 count)) d (subst (λ (l : List Defined). Contains l d) (symbols_are seed count) h)) [
      | inl e ↦ inl e
      | inr r ↦
          let g = made_for (defined count) 0 count d r in
          let high : g.0 < 0 + count = g.2 in
          inr (g.0, omega arith, g.3)
    ]

pub globals_are : (seed count : ℕ) → globals (generated seed count ∷ []) ≡ map (defined count) (range_with_len 0 count)
globals_are seed count =
    let p : Defined → Bool = λ d. (d.symbol.bind == global) && is_defined d.symbol.home in
    ap (filter p) (symbols_are seed count) ∙ all_pass p (defined count) 0 count (λ k. refl)

pub weaks_are : (seed count : ℕ) → weaks (generated seed count ∷ []) ≡ []
weaks_are seed count =
    let p : Defined → Bool = λ d. (d.symbol.bind == weak) && is_defined d.symbol.home in
    ap (filter p) (symbols_are seed count) ∙ none_pass p (defined count) 0 count (λ k. refl)

abbrev is_named : List ℕ → Defined → Bool
is_named name d = same_name d.symbol.name name

found : (count k a n : ℕ) → a + n ≤ 4000 → a ≤ k → k < a + n → find (is_named (codes "f" ++ decimal k)) (map (defined count) (range_with_len a n)) ≡ Some (defined count k)
found count k a zero few low high = absurd (omega arith)
found count k a (suc n) few low high =
    let name : List ℕ = codes "f" ++ decimal k in
    let rest : Option Defined = find (is_named name) (map (defined count) (range_with_len (a + 1) n)) in
    elim (cases_lt a k) [
      | inl less ↦
          elim (cases_Bool (is_named name (defined count a))) [
            | inl same ↦ let e = same_named a k (omega arith) (omega arith) same in absurd (omega arith)
            | inr other ↦ ap (λ (b : Bool). cond b (Some (defined count a)) rest) other ∙ found count k (a + 1) n (omega arith) (omega arith) (omega arith)
          ]
      | inr least ↦
          let e : k ≡ a = omega arith in
          let same : is_named name (defined count a) ≡ true = subst (λ (j : ℕ). is_named name (defined count j) ≡ true) e (same_self name) in
          ap (λ (b : Bool). cond b (Some (defined count a)) rest) same ∙ ap (λ (j : ℕ). Some (defined count j)) (sym e)
    ]

pub resolved_is : (seed count k : ℕ) → count ≤ 4000 → k < count → resolved (generated seed count ∷ []) (codes "f" ++ decimal k) ≡ Some (defined count k)
resolved_is seed count k few low =
    let name : List ℕ = codes "f" ++ decimal k in
    ap₂ (λ (g w : List Defined). find (is_named name) (g ++ w)) (globals_are seed count) (weaks_are seed count)
    ∙ ap (find (is_named name)) (no_more (map (defined count) (range_with_len 0 count)))
    ∙ found count k 0 count (omega arith) (omega arith) (omega arith)
