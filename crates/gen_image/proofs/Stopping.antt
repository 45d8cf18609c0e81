-- Where the image of the generated object has stops.
use Rattle.std.proofs.Common.{◌≡◌, ◌<◌, ℕ, zero, suc, ◌+◌, ◌-◌, ◌*◌, ◌%◌, true, false, [], ◌∷◌, map, length, sym, ap, ◌∙◌, subst, inl, inr, ◌⊎◌, arith, Some}
use Rattle.std.specs.Prelude.{Contains, slice_get, codes}
use Rattle.std.specs.List.{range_with_len}
use Rattle.std.proofs.lemmas.Bool.{both_ways}
use Rattle.std.proofs.lemmas.Option.{same_Some}
use Rattle.elf_model.specs.declared.objects.Symbol.{Symbol}
use Rattle.elf_model.specs.Objects.{ObjectParts, even}
use Rattle.elf_model.specs.Ranges.{is_mapping_of}
use Rattle.thumb_table.specs.Layouts.{Placed}
use Rattle.thumb_table.specs.Names.{Defined, all_symbols, is_function, address_of}
use Rattle.thumb_table.specs.Images.{IsDataStart, IsStop, at_function, at_data, at_end}
use Rattle.gen_object.specs.Generated.{code_symbol, function_symbol, code_bytes, generated}
use Rattle.gen_flow.proofs.CodeLengths.{code_length}
use Rattle.gen_flow.specs.GeneratedCode.{IsCount}
use Rattle.gen_flow.proofs.MadeLists.{made_at}
use Rattle.gen_image.proofs.Making.{sole, contains_sole}
use Rattle.gen_image.proofs.Placing.{part}
use Rattle.gen_image.proofs.Symbols.{symbol_is}

-- at a function, or behind the last one
abbrev pub Stop : ℕ → ℕ → Type 0
Stop count a = ((k : ℕ) × k < count × (a ≡ 0x8000 + 14 * k)) ⊎ (a ≡ 0x8000 + 14 * count - 4)

-- no symbol says that data begins
no_data_symbol : (count i : ℕ) (s : Symbol) → slice_get (code_symbol ∷ map (function_symbol count) (range_with_len 0 count)) i ≡ Some s → is_mapping_of (codes "$d") s ≡ false
no_data_symbol count zero s e = ap (is_mapping_of (codes "$d")) (sym (same_Some code_symbol s e))
no_data_symbol count (suc i) s e = ap (is_mapping_of (codes "$d")) (made_at (function_symbol count) count i s e).1

no_data_start : (seed count j x : ℕ) → IsDataStart (generated seed count) j x → ⊥
no_data_start seed count j x h = both_ways (is_mapping_of (codes "$d") h.symbol) (no_data_symbol count h.index h.symbol h.is_there) h.is_kind

function_at : (seed count : ℕ) (d : Defined) → Contains (all_symbols 0 (generated seed count ∷ [])) d → is_function (part seed count ∷ []) d ≡ true
    → (k : ℕ) × k < count × (even (address_of (part seed count ∷ []) d) ≡ 0x8000 + 14 * k)
function_at seed count d h f =
    elim (symbol_is seed count d h) [
      | inl e ↦ absurd (both_ways (is_function (part seed count ∷ []) d) (ap (is_function (part seed count ∷ [])) (sym e)) f)
      | inr g ↦
          let k : ℕ = g.0 in
          let there : 0x8000 + (14 * k + 1) - (0x8000 + (14 * k + 1)) % 2 ≡ 0x8000 + 14 * k = omega arith in
          (k, g.1, ap (λ (z : Defined). even (address_of (part seed count ∷ []) z)) (sym g.2) ∙ there)
    ]

pub stops_are : (seed count a : ℕ) → IsCount count → IsStop (generated seed count ∷ []) (part seed count ∷ []) a → Stop count a
stops_are seed count _ few (at_function d h f) = inl (function_at seed count d h f)
stops_are seed count _ few (at_data p o x h code there starts) =
    absurd (no_data_start seed count p.index x (subst (λ (z : ObjectParts). IsDataStart z p.index x) (sym (sole (generated seed count) p.object o there).1) starts))
stops_are seed count _ few (at_end p h code) =
    let long = code_length seed count few.low in
    let last : 0x8000 + length (code_bytes seed count) ≡ 0x8000 + 14 * count - 4 = omega arith in
    inr (ap (λ (z : Placed). z.start + z.section.size) (sym (contains_sole (part seed count) p h)) ∙ last)
