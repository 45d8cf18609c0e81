-- Symbols of code that are at points, and where they stand now.
use Rattle.std.proofs.Common.{◌≡◌, ◌<◌, ◌^◌, ℕ, ◌+◌, ◌%◌, Bool, true, false, cond, List, refl, sym, ap, ◌∙◌, subst, Option, Some, None}
use Rattle.std.specs.Prelude.{slice_get, slice_index, All}
use Rattle.std.specs.Option.{option_map}
use Rattle.std.proofs.lemmas.Bool.{true≢false}
use Rattle.std.proofs.lemmas.Option.{none-some, same_Some}
use Rattle.std.proofs.lemmas.List.Elements.{All-contains}
use Rattle.elf_model.specs.declared.objects.Section.{Section}
use Rattle.elf_model.specs.declared.objects.Symbol.{Symbol}
use Rattle.elf_model.specs.declared.objects.Home.{Home}
use Rattle.elf_model.specs.declared.objects.Home.TheVariants as homes
use Rattle.elf_model.specs.Objects.{ObjectParts, even}
use Rattle.code_ranges.specs.CodeRanges.{holds_code}
use Rattle.reloc_places.specs.Relocations.{is_in_code}
use Rattle.seq_core.specs.Places.{PlacedParts}
use Rattle.hardened_form.specs.Items.{Item}
use Rattle.hardened_form.specs.Standing.{new_place}
use Rattle.hardened_form.specs.Symbols.{size_of, moved_size, moved_to, moved_in, moved}
use Rattle.emit_object.specs.Laid.{HasSizes, BeginsAt, IsLow}
use Rattle.emit_object.specs.MovedSymbols.{with_section, with_place, place_of_symbol}

-- where a unit begins is low
pub begins_low : (units : List PlacedParts) (at : ℕ) → All IsLow units → BeginsAt units at → at + 1 < 2 ^ 32
begins_low units at low b = subst (λ (n : ℕ). n + 1 < 2 ^ 32) b.begins (All-contains IsLow units b.unit low b.there)

pub is_placed : (o : ObjectParts) (items : List Item) (s : Symbol) (j at : ℕ) → is_in_code o s.home ≡ true → s.home ≡ homes.Section j → Some at ≡ new_place items j (even s.value) → Some (j, at) ≡ place_of_symbol o items s
is_placed o items s j at code home place =
    ap (option_map (with_section j)) place ∙ ap (with_place items s) (sym home) ∙ ap (λ (b : Bool). cond b (with_place items s s.home) None) (sym code)

module _ (o h : ObjectParts) (sizes : List ℕ) (sized : HasSizes o h sizes) (items : List Item) (s : Symbol) (j at : ℕ) where
  -- the size of a code section of the hardened object
  code_size : (e : Option Section) → slice_get o.sections j ≡ e → holds_code e ≡ true → size_of (slice_get h.sections j) ≡ slice_index sizes j
  code_size None e c = absurd (true≢false (sym c))
  code_size (Some t) e c = let new = sized.news j t e c in ap size_of new.there ∙ sized.same j new.section new.there new.code

  split : (i : ℕ) (e : Option ℕ) → option_map (with_section i) e ≡ Some (j, at) → (i ≡ j) × (e ≡ Some at)
  split i None h = absurd (none-some (j, at) h)
  split i (Some y) h = let same : (i, y) ≡ (j, at) = same_Some (i, y) (j, at) h in (ap (λ (p : ℕ × ℕ). p.0) same, ap (λ (p : ℕ × ℕ). Some p.1) same)

  abbrev as_moved : ℕ → Symbol
  as_moved size = record s { value = at + s.value % 2; size = size }

  pub moved_is : (size : ℕ) → size ≡ moved_size items j s at (slice_index sizes j) → Some (j, at) ≡ place_of_symbol o items s → as_moved size ≡ moved o h items s
  moved_is size is placed = go s.home refl (is_in_code o s.home) refl (sym placed)
    where
      go : (home : Home) → s.home ≡ home → (b : Bool) → is_in_code o s.home ≡ b → cond b (with_place items s home) None ≡ Some (j, at) → as_moved size ≡ moved_in o h items s home
      go home e false c p = absurd (none-some (j, at) p)
      go homes.Undefined e true c p = absurd (none-some (j, at) p)
      go homes.Absolute e true c p = absurd (none-some (j, at) p)
      go (homes.Section i) e true c p =
          let parts = split i (new_place items i (even s.value)) p in
          let here : s.home ≡ homes.Section j = e ∙ ap (λ (n : ℕ). homes.Section n) parts.0 in
          let total : size_of (slice_get h.sections j) ≡ slice_index sizes j = code_size (slice_get o.sections j) refl (ap (is_in_code o) (sym here) ∙ c) in
          let place : new_place items j (even s.value) ≡ Some at = ap (λ (n : ℕ). new_place items n (even s.value)) (sym parts.0) ∙ parts.1 in
          ap as_moved (is ∙ ap (moved_size items j s at) (sym total))
          ∙ ap (λ (q : Option ℕ). moved_to items j s q (size_of (slice_get h.sections j))) (sym place)
          ∙ ap (λ (n : ℕ). moved_to items n s (new_place items n (even s.value)) (size_of (slice_get h.sections n))) (sym parts.0)
          ∙ ap (λ (b : Bool). cond b (moved_to items i s (new_place items i (even s.value)) (size_of (slice_get h.sections i))) s) (sym c)
