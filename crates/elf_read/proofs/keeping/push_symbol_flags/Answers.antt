use Rattle.std.proofs.Common.{◌≡◌, ◌+◌, ◌-◌, ◌*◌, ◌++◌, ℕ, map, ap, ◌∙◌, arith}
use Rattle.elf_model.specs.Files.{is_kept_symbol, from}
use Rattle.elf_read.proofs.Flags.{push_made}
use Rattle.elf_read.proofs.keeping.push_symbol_flags.Goals as goal

pub loop-k-preserved : goal.loop-k-preserved
loop-k-preserved c = record {
  done = push_made (λ k. is_kept_symbol c.args.bytes.now (c.args.table + 16 * k)) c.loop-k.k c.args.flags.now.items _ _ _ c.loop-k.auto.k c.in_ok-push.ensures.items c.loop-k.invariant.done c.is_kept_symbol.ensures;
  near = omega arith;
}

pub returns : goal.returns
returns c =
    let all : c.loop-k.k - 1 ≡ c.args.n - 1 = omega arith in
    c.loop-k.invariant.done ∙ ap (λ (j : ℕ). c.args.flags.now.items ++ map (λ k. is_kept_symbol c.args.bytes.now (c.args.table + 16 * k)) (from 1 j)) all
