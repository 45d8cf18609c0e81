use Rattle.std.proofs.Common.{take}
use Rattle.elf_model.specs.declared.objects.Reloc.{Reloc}
use Rattle.flow_recover.specs.Gains.{PlacesGain, IsFrom}
use Rattle.emit_object.specs.TargetPlaces.{Gives}
use Rattle.emit_object.proofs.targets.target_places.Given as goal

-- the places of the relocations so far
abbrev pub invariant-loop-r : goal.invariant-loop-r
invariant-loop-r l = PlacesGain (λ j x. IsFrom (λ (r : Reloc). Gives l.fn.o l.fn.f r) (take l.r-index l.relocs) (j, x)) l.initial.places l.places
