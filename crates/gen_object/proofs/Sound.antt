-- What is generated is an object, within the limits of every input.
use Rattle.std.proofs.Common.{◌≡◌, ℕ, zero, suc, ◌+◌, ◌*◌, ◌-◌, ◌<◌, ◌≤◌, ◌==◌, ◌&&◌, Bool, true, false, List, [], ◌∷◌, length, Some, None, if◌then◌else◌, refl, sym, ap, ap₂, subst, ◌∙◌, arith, map}
use Rattle.std.specs.Prelude.{not}
use Rattle.std.specs.List.{list_all, list_any, range_with_len}
use Rattle.std.proofs.lemmas.Bool.Decides.{nat_tests}
use Rattle.std.proofs.lemmas.List.FromFn.{length-map-range_with_len}
use Rattle.elf_model.specs.declared.objects.Section.{Section}
use Rattle.elf_model.specs.declared.objects.Symbol.{Symbol}
use Rattle.elf_model.specs.declared.objects.Reloc.{Reloc}
use Rattle.elf_model.specs.declared.refusals.TheConstants.Limit.{INPUT}
use Rattle.elf_model.specs.Constants.{local}
use Rattle.elf_model.specs.Objects.{is_section, is_name, is_symbol, is_reloc, is_below, locals_first, rise, is_object, made_of, is_within}
use Rattle.gen_object.specs.Generated.{code_bytes, text_section, code_symbol, function_symbol, call, generated}
use Rattle.gen_object.proofs.Ranges.{all_of_made}
use Rattle.gen_object.proofs.Names.{function_name}
use Rattle.gen_object.proofs.Lengths.{code_length}

section_with : (code : List ℕ) → is_section (text_section code) ≡ true
section_with code = grind (arith, nat_tests)

symbol_with : (code : List ℕ) (count k : ℕ) → 14 * k + 1 ≤ length code → is_name (function_symbol count k).name ≡ true → is_symbol (text_section code ∷ []) (function_symbol count k) ≡ true
symbol_with code count k inside name = grind (arith, nat_tests, name)

symbols_with : (code : List ℕ) (count : ℕ) → count ≤ 4000 → length code + 4 ≡ 14 * count →
    list_all (is_symbol (text_section code ∷ [])) (map (function_symbol count) (range_with_len 0 count)) ≡ true
symbols_with code count few long = all_of_made (is_symbol (text_section code ∷ [])) (function_symbol count) 0 count (λ k low high.
    symbol_with code count k (omega arith) (function_name k (omega arith)))

reloc_with : (code : List ℕ) (symbols : List Symbol) (k : ℕ) → 14 * k + 12 ≤ length code → k + 2 < length symbols → is_reloc (text_section code ∷ []) symbols (call k) ≡ true
reloc_with code symbols k inside named = grind (arith, nat_tests)

relocs_with : (code : List ℕ) (symbols : List Symbol) (count : ℕ) → length code + 4 ≡ 14 * count → length symbols ≡ suc count →
    list_all (is_reloc (text_section code ∷ []) symbols) (map call (range_with_len 0 (count - 1))) ≡ true
relocs_with code symbols count long all = all_of_made (is_reloc (text_section code ∷ []) symbols) call 0 (count - 1) (λ k low high.
    reloc_with code symbols k (omega arith) (omega arith))

none_is_local : (count a n : ℕ) → list_any (λ (t : Symbol). t.bind == local) (map (function_symbol count) (range_with_len a n)) ≡ false
none_is_local count a zero = refl
none_is_local count a (suc n) = none_is_local count (a + 1) n

others_behind : (count a n : ℕ) → locals_first (map (function_symbol count) (range_with_len a n)) ≡ true
others_behind count a zero = refl
others_behind count a (suc n) =
    ap (λ (b : Bool). not b && locals_first (map (function_symbol count) (range_with_len (a + 1) n))) (none_is_local count (a + 1) n) ∙ others_behind count (a + 1) n

below : (a k : ℕ) → a < k → is_below (call a) (call k) ≡ true
below a k less = grind (arith, nat_tests)

calls_rise : (a n : ℕ) → rise (map call (range_with_len a n)) ≡ true
calls_rise a zero = refl
calls_rise a (suc n) =
    ap₂ (λ (b c : Bool). b && c) (all_of_made (is_below (call a)) call (a + 1) n (λ k low high. below a k (omega arith))) (calls_rise (a + 1) n)

object_with : (code : List ℕ) (functions : List Symbol) (relocs : List Reloc) →
    list_all (is_symbol (text_section code ∷ [])) functions ≡ true → locals_first functions ≡ true →
    list_all (is_reloc (text_section code ∷ []) (code_symbol ∷ functions)) relocs ≡ true → rise relocs ≡ true →
    is_object (record { sections = text_section code ∷ []; symbols = code_symbol ∷ functions; relocs = relocs; flags = 0x05000000 }) ≡ true
object_with code functions relocs symbols_are locals relocs_are rises =
    let section = section_with code in
    grind (arith, nat_tests, section, symbols_are, locals, relocs_are, rises)

pub is_sound : (seed count : ℕ) → 1 ≤ count → count ≤ 4000 → is_object (generated seed count) ≡ true
is_sound seed count some few =
    let long = code_length seed count some in
    let counted : length (code_symbol ∷ map (function_symbol count) (range_with_len 0 count)) ≡ suc count = ap suc (length-map-range_with_len (function_symbol count) 0 count) in
    object_with (code_bytes seed count) (map (function_symbol count) (range_with_len 0 count)) (map call (range_with_len 0 (count - 1)))
    (symbols_with (code_bytes seed count) count few long) (others_behind count 0 count)
    (relocs_with (code_bytes seed count) (code_symbol ∷ map (function_symbol count) (range_with_len 0 count)) count long counted) (calls_rise 0 (count - 1))

is_made : (seed count : ℕ) → 1 ≤ count → count ≤ 4000 →
    made_of (generated seed count).sections (generated seed count).symbols (generated seed count).relocs 0x05000000 ≡ Some (generated seed count)
is_made seed count some few =
    let P : Bool → Type 0 = λ b. (if b then Some (generated seed count) else None) ≡ Some (generated seed count) in
    subst P (sym (is_sound seed count some few)) refl

-- The parts make the object.
pub made_is : (seed count : ℕ) (sections : List Section) (symbols : List Symbol) (relocs : List Reloc) → 1 ≤ count → count ≤ 4000 → sections ≡ (generated seed count).sections
    → symbols ≡ (generated seed count).symbols → relocs ≡ (generated seed count).relocs → made_of sections symbols relocs 0x05000000 ≡ Some (generated seed count)
made_is seed count sections symbols relocs some few sections_are symbols_are relocs_are = rw (sections_are, symbols_are, relocs_are) (is_made seed count some few)

within_with : (code : List ℕ) (symbols : List Symbol) (relocs : List Reloc) → length code ≤ 56000 → length symbols ≤ 4001 → length relocs ≤ 4000 →
    is_within (record { sections = text_section code ∷ []; symbols = symbols; relocs = relocs; flags = 0x05000000 }) INPUT ≡ true
within_with code symbols relocs short few_symbols few_relocs = grind (arith, nat_tests)

pub is_small : (seed count : ℕ) → 1 ≤ count → count ≤ 4000 → is_within (generated seed count) INPUT ≡ true
is_small seed count some few =
    let long = code_length seed count some in
    let symbols = length-map-range_with_len (function_symbol count) 0 count in
    let relocs = length-map-range_with_len call 0 (count - 1) in
    within_with (code_bytes seed count) (code_symbol ∷ map (function_symbol count) (range_with_len 0 count)) (map call (range_with_len 0 (count - 1)))
    (omega arith) (omega arith) (omega arith)
