use Rattle.std.proofs.Common.{arith}
use Rattle.elf_read.proofs.strings.text_len.Goals as goal

pub returns-then-table-start : goal.returns-then-table-start
returns-then-table-start c = λ n short inside. c.loop-n.invariant n (omega arith)
