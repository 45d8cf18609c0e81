-- An image's code fits its room, and the image can be run with its stack.
use Rattle.std.proofs.Common.{◌≡◌, ◌≤◌, ◌+◌, List, length, sym, subst, arith}
use Rattle.elf_model.specs.Objects.{ObjectParts}
use Rattle.elf_model.specs.Canonical.{round_up}
use Rattle.thumb_table.specs.declared.placements.Placement.{Placement}
use Rattle.thumb_table.specs.Parts.{Image}
use Rattle.thumb_table.specs.Layouts.{data_bytes_of}
use Rattle.thumb_table.specs.Images.{IsImage}
use Rattle.thumb_table.proofs.PlainImages.{has_room}
use Rattle.skip_machine.specs.Machines.{CanRun}

-- An image's code fits its room.
pub code_in_room : (objects : List ObjectParts) (at : Placement) (image : Image) → IsImage objects at image → length image.code.bytes ≤ image.room
code_in_room objects at image is =
    let a = is.code.size in
    let l = (has_room objects at is.can).code in
    let r = is.room in
    omega arith

-- An image is run with the stack that it was placed with.
pub can_run : (objects : List ObjectParts) (at : Placement) (image : Image) → IsImage objects at image → CanRun image at.stack
can_run objects at image is =
    let bytes = data_bytes_of objects at in
    let base : image.memory.base ≡ at.base + at.room = is.memory.base in
    let size : length image.memory.cells ≡ length bytes = is.memory.size in
    let p = is.placement in
    let c = is.code_base in
    let r = is.room in
    let fits = (has_room objects at is.can).memory in
    let ends = (has_room objects at is.can).last in
    record {
      base = omega arith;
      base_even = let e = p.base_even in let f = p.room_even in omega arith;
      code_fits = code_in_room objects at image is;
      stack_even = p.stack_even;
      stack_low = p.stack_low;
      data_fits = subst (λ n. round_up n 8 + at.stack ≤ 16777216) (sym size) fits;
      end_fits = omega arith;
      marks_rise = is.marks.rise;
      stops_rise = is.stops_rise;
    }
