use Rattle.std.proofs.Common.{◌+◌, ◌*◌, arith}
use Rattle.elf_model.specs.Files.{is_kept_symbol, symbol_of}
use Rattle.elf_read.proofs.BuiltLists.{push_kept_from_one}
use Rattle.elf_read.proofs.building.push_symbols.Goals as goal

pub loop-k-preserved : goal.loop-k-preserved
loop-k-preserved c = record {
  done = push_kept_from_one (λ k. c.args.table + 16 * k) (is_kept_symbol c.args.bytes.now) (symbol_of c.args.bytes.now) c.loop-k.k c.args.symbols.now.items _ _ c.loop-k.auto.k c.in_ok-push_symbol.ensures c.loop-k.invariant.done;
  near = omega arith;
}
