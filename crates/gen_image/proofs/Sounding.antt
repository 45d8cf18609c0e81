-- Nothing stands in the way of the image.
use Rattle.std.proofs.Common.{◌≡◌, ◌<◌, ◌≤◌, ℕ, ◌+◌, List, [], ◌∷◌, sym, ap, ◌∙◌, subst, inl, inr, arith, Some, None}
use Rattle.std.specs.Prelude.{Contains, slice_get}
use Rattle.std.proofs.lemmas.Bool.{both_ways}
use Rattle.std.proofs.lemmas.Option.{none-some, same_Some}
use Rattle.elf_model.specs.declared.objects.Reloc.{Reloc}
use Rattle.elf_model.specs.declared.refusals.Spot.{Spot}
use Rattle.elf_model.specs.Objects.{ObjectParts}
use Rattle.reloc_places.specs.Relocations.{IsRight}
use Rattle.thumb_table.specs.Layouts.{all_placed}
use Rattle.thumb_table.specs.Names.{Defined, meant, globals}
use Rattle.thumb_table.specs.Links.{is_in_range}
use Rattle.thumb_table.specs.LinkFaults.{NamesNothing, IsSecond, LinkFault, misplaced, undefined, defined_twice, long_code, long_data, high_end, out_of_range}
use Rattle.gen_object.specs.Generated.{function_symbol, generated}
use Rattle.gen_flow.specs.GeneratedCode.{IsCount}
use Rattle.gen_flow.proofs.ObjectCalls.{call_right}
use Rattle.gen_image.specs.GeneratedImages.{placement}
use Rattle.gen_image.proofs.Making.{made_for}
use Rattle.gen_image.proofs.Placing.{code_is_long}
use Rattle.gen_image.proofs.Numbering.{same_number}
use Rattle.gen_image.proofs.Symbols.{defined, globals_are}
use Rattle.gen_image.proofs.Linking.{is_link, reloc_is, link_is}
use Rattle.gen_image.proofs.Reaching.{in_range}

global_is : (seed count : ℕ) (d : Defined) → Contains (globals (generated seed count ∷ [])) d → (k : ℕ) × (k < count) × (defined count k ≡ d)
global_is seed count d h =
    let g = made_for (defined count) 0 count d (subst (λ (l : List Defined). Contains l d) (globals_are seed count) h) in
    let high : g.0 < 0 + count = g.2 in
    (g.0, omega arith, g.3)

no_second : (seed count : ℕ) (d : Defined) → count ≤ 4000 → IsSecond (generated seed count ∷ []) d → ⊥
no_second seed count d few h =
    let a = global_is seed count h.earlier h.was in
    let b = global_is seed count d h.is in
    let a_low : a.0 < count = a.1 in
    let b_low : b.0 < count = b.1 in
    let one = same_number a.0 b.0 (omega arith) (omega arith) (ap (λ (z : Defined). z.symbol.name) a.2 ∙ (h.named ∙ ap (λ (z : Defined). z.symbol.name) (sym b.2))) in
    let same : h.earlier ≡ d = sym a.2 ∙ (ap (defined count) one ∙ b.2) in
    let object : h.earlier.object ≡ d.object = ap (λ (z : Defined). z.object) same in
    let index : h.earlier.index ≡ d.index = ap (λ (z : Defined). z.index) same in
    elim h.before [
      | inl less ↦ omega arith
      | inr later ↦ let less = later.1 in omega arith
    ]

module _ (seed count : ℕ) (few : IsCount count) where
  no_nothing : (i k : ℕ) (r : Reloc) → NamesNothing (generated seed count ∷ []) i k r → ⊥
  no_nothing i k r h =
      let one = reloc_is seed count i k h.object r h.there in
      let link = is_link seed count k few.high one.2 in
      let object : slice_get (generated seed count).symbols r.symbol ≡ Some h.symbol = subst (λ (z : ObjectParts). slice_get z.symbols r.symbol ≡ Some h.symbol) (sym one.1) h.names in
      let names : slice_get (generated seed count).symbols (k + 2) ≡ Some h.symbol = subst (λ (q : Reloc). slice_get (generated seed count).symbols q.symbol ≡ Some h.symbol) (sym one.3) object in
      let same : function_symbol count (k + 1) ≡ h.symbol = same_Some (function_symbol count (k + 1)) h.symbol (sym link.symbol ∙ names) in
      let nothing : meant (generated seed count ∷ []) 0 (k + 2) (function_symbol count (k + 1)) ≡ None =
      ap (meant (generated seed count ∷ []) 0 (k + 2)) same ∙ (ap (λ (q : Reloc). meant (generated seed count ∷ []) 0 q.symbol h.symbol) one.3
      ∙ (ap (λ (n : ℕ). meant (generated seed count ∷ []) n r.symbol h.symbol) (sym one.0) ∙ h.nothing)) in
      none-some (defined count (k + 1)) (sym nothing ∙ link.meant)

  pub no_fault : (spot : Spot) → LinkFault (generated seed count ∷ []) placement spot → ⊥
  no_fault _ (misplaced i k o r there wrong) =
      let one = reloc_is seed count i k o r there in
      wrong (subst (λ (z : ObjectParts). IsRight z k r) one.1 (subst (λ (q : Reloc). IsRight (generated seed count) k q) one.3 (call_right seed count few.low k one.2)))
  no_fault _ (undefined i k r h first) = no_nothing i k r h
  no_fault _ (defined_twice d h first) = no_second seed count d few.high h
  no_fault _ (long_code long) = let size = code_is_long seed count few in let high = few.high in omega arith
  no_fault _ (long_data long) = omega arith
  no_fault _ (high_end high) = omega arith
  no_fault _ (out_of_range l is out) =
      let one = link_is seed count l few.high is in
      both_ways (is_in_range (all_placed (generated seed count ∷ []) placement) l) out
      (ap (is_in_range (all_placed (generated seed count ∷ []) placement)) one.1 ∙ in_range seed count l.number few one.0)
