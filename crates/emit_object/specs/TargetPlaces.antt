-- The places that relocations which stay turn to.
use Rattle.std.specs.Prelude.{◌≡◌, ℕ, Some}
use Rattle.elf_model.specs.declared.objects.Reloc.{Reloc}
use Rattle.elf_model.specs.Objects.{ObjectParts}
use Rattle.flow_recover.specs.Flows.{FlowParts}
use Rattle.hardened_form.specs.Turns.{Target}
use Rattle.emit_object.specs.Lasting.{Lasts}
use Rattle.emit_object.specs.TurnedPlaces.{turned_place}

-- a relocation gives a place
pub record Gives (o : ObjectParts) (f : FlowParts) (r : Reloc) (p : ℕ × ℕ) : Type 0 where
  pub lasts : Lasts o f r
  pub turned : turned_place o r ≡ Some p

abbrev pub target_at : ℕ × ℕ → Target
target_at p = record { section = p.0; old = p.1 }
