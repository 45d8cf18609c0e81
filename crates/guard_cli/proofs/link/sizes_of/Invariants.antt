use Rattle.std.proofs.Common.{◌≡◌, ◌*◌, ◌≤◌, ◌^◌, take}
use Rattle.elf_model.specs.Objects.{is_code}
use Rattle.thumb_table.specs.Images.{is_data}
use Rattle.guard_cli.specs.LinkWork.{bytes_of_all}
use Rattle.guard_cli.proofs.link.sizes_of.Given as goal

abbrev pub invariant-loop-object : goal.invariant-loop-object
invariant-loop-object l = record {
  code : l.code ≡ bytes_of_all is_code (take l.object-index l.objects);
  memory : l.memory ≡ bytes_of_all is_data (take l.object-index l.objects);
  small_code : l.code ≤ l.object-index * 2 ^ 42;
  small_memory : l.memory ≤ l.object-index * 2 ^ 42;
}
