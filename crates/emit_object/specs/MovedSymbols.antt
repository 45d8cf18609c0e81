-- Symbols of code that stay, and those that are at points.
use Rattle.std.specs.Prelude.{◌≡◌, ◌<◌, ℕ, ◌+◌, ◌^◌, ◌==◌, ◌&&◌, ◌||◌, not, Bool, List, Option, Some, None, if◌then◌else◌, is_some, [], ◌∷◌}
use Rattle.std.specs.Option.{option_map}
use Rattle.elf_model.specs.declared.objects.Symbol.{Symbol}
use Rattle.elf_model.specs.declared.objects.Home.{Home}
use Rattle.elf_model.specs.declared.objects.Home.TheVariants as homes
use Rattle.elf_model.specs.Constants.{local}
use Rattle.elf_model.specs.Objects.{ObjectParts, even}
use Rattle.elf_model.specs.Ranges.{is_mapping}
use Rattle.reloc_places.specs.Relocations.{is_in_code}
use Rattle.flow_recover.specs.Flows.{FlowParts}
use Rattle.seq_core.specs.Places.{LayoutParts}
use Rattle.hardened_form.specs.Items.{Item}
use Rattle.hardened_form.specs.Standing.{new_place}
use Rattle.hardened_form.specs.Symbols.{section_kind, is_shared}
use Rattle.emit_object.specs.FirstItems.{AreItemsOf}

abbrev pub stays_in_code : List Item → Symbol → ℕ → Bool
stays_in_code items s j = not (is_mapping s) && (is_some (new_place items j (even s.value)) || ((s.kind == section_kind) && (s.value == 0)))

-- the section of a symbol of code that is at a point, and the new place of that
abbrev pub with_section : ℕ → ℕ → ℕ × ℕ
with_section j at = (j, at)

abbrev pub with_place : List Item → Symbol → Home → Option (ℕ × ℕ)
with_place items s homes.Undefined = None
with_place items s homes.Absolute = None
with_place items s (homes.Section j) = option_map (with_section j) (new_place items j (even s.value))

abbrev pub place_of_symbol : ObjectParts → List Item → Symbol → Option (ℕ × ℕ)
place_of_symbol o items s = if is_in_code o s.home then with_place items s s.home else None

-- it is this one, which is low
pub record IsPlaced (o : ObjectParts) (f : FlowParts) (l : LayoutParts) (s : Symbol) (place : Option (ℕ × ℕ)) : Type 0 where
  pub is : (items : List Item) → AreItemsOf f l items → place ≡ place_of_symbol o items s
  pub low : (j at : ℕ) → place ≡ Some (j, at) → at + 1 < 2 ^ 32

-- the numbers of symbols, counted on from those before them
abbrev pub numbers_from : (Symbol → Bool) → ℕ → ℕ → List Symbol → List ℕ
numbers_from keeps a b [] = []
numbers_from keeps a b (s ∷ rest) = (if s.bind == local then a else b) ∷ numbers_from keeps (if keeps s then a + 1 else a) (if is_shared s then b + 1 else b) rest
