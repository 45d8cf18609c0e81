use Rattle.std.proofs.Common.{◌≡◌, take}
use Rattle.std.specs.Prelude.{true}
use Rattle.std.specs.List.{list_all}
use Rattle.elf_model.specs.Objects.{is_object}
use Rattle.sim_objects.proofs.given.are_objects.Given as goal

abbrev pub invariant-loop-o : goal.invariant-loop-o
invariant-loop-o l = list_all is_object (take l.o-index l.objects) ≡ true
