use Rattle.std.proofs.Common.{◌≡◌, ℕ, ap, ◌∙◌, arith}
use Rattle.std.specs.List.{flat_map, range_with_len}
use Rattle.gen_object.specs.Generated.{function_bytes}
use Rattle.gen_object.proofs.Steps.{code_more, draws_more}
use Rattle.gen_object.proofs.code.code_bytes.Goals as goal

pub loop-k-preserved : goal.loop-k-preserved
loop-k-preserved c =
    let h = c.loop-k.invariant in
    record {
      bytes = code_more c.args.seed c.args.count c.loop-k.k c.loop-k.x c.loop-k.code.items c.push_function.new.code.items h.bytes h.drawn c.in_ok-x.ensures.appends;
      drawn = c.in_ok-x.ensures.last ∙ draws_more c.args.seed c.loop-k.k c.loop-k.x h.drawn;
    }

pub returns : goal.returns
returns c = let same : c.loop-k.k ≡ c.args.count = omega arith in c.loop-k.invariant.bytes ∙ ap (λ (n : ℕ). flat_map (function_bytes c.args.seed c.args.count) (range_with_len 0 n)) same
