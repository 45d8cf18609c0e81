-- The numbers of an object's symbols in the hardened one, and of the functions of targets.
use Rattle.std.specs.Prelude.{◌≡◌, ◌<◌, ℕ, ◌+◌, ◌^◌, List, Some, length, map, slice_get}
use Rattle.elf_model.specs.declared.objects.Symbol.{Symbol}
use Rattle.elf_model.specs.Objects.{ObjectParts}
use Rattle.flow_recover.specs.Flows.{FlowParts}
use Rattle.seq_core.specs.Places.{LayoutParts}
use Rattle.hardened_form.specs.Items.{Item}
use Rattle.hardened_form.specs.Symbols.{Lists, new_symbols}
use Rattle.hardened_form.specs.Relocs.{first_target, new_number}
use Rattle.hardened_form.specs.HardenedForms.{AreLists}
use Rattle.branch_layout.specs.Laid.{laid_places as places_of}
use Rattle.emit_object.specs.TargetPlaces.{target_at}

-- The targets, by section and old offset; the number of the first of their functions; and each old symbol's number now.
pub record AreNumbers (o : ObjectParts) (l : Lists) (places : List (ℕ × ℕ)) (begin : ℕ) (numbers : List ℕ) : Type 0 where
  pub targets : map target_at places ≡ l.targets
  pub first : begin ≡ first_target o l
  pub few : begin + length places < 2 ^ 32
  pub olds : (k : ℕ) (s : Symbol) → slice_get o.symbols k ≡ Some s → slice_get numbers k ≡ Some (new_number o l k s)

-- The symbols are those of the hardened object, and these are the numbers.
pub record AreNewSymbols (o h : ObjectParts) (f : FlowParts) (l : LayoutParts) (units : List Item) (symbols : List Symbol) (places : List (ℕ × ℕ)) (begin : ℕ) (numbers : List ℕ) : Type 0 where
  pub lists : Lists
  pub items : lists.items ≡ units
  pub are : AreLists o h f (places_of l) lists
  pub all : symbols ≡ new_symbols o h lists
  pub numbered : AreNumbers o lists places begin numbers
