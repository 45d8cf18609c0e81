use Rattle.std.proofs.Common.{arith}
use Rattle.elf_read.specs.Faults.{IsHeader}
use Rattle.elf_read.proofs.BuiltLists.{push_header_relocs}
use Rattle.elf_read.proofs.building.unsorted_relocs.Goals as goal

pub loop-h-preserved : goal.loop-h-preserved
loop-h-preserved c =
    let here : IsHeader c.args.bytes.now c.loop-h.h = record { behind_null = omega arith; there = omega (arith, c.count-h-end.ensures.number) } in
    record { done = push_header_relocs c.args.bytes.now c.loop-h.h _ _ c.requires.tabled here c.in_ok-push_kept_relocs.ensures c.loop-h.invariant.done; near = omega arith }
