use Rattle.std.proofs.Common.{◌≡◌, ◌∷◌, map}
use Rattle.std.specs.List.{range_with_len}
use Rattle.gen_object.specs.Generated.{code_symbol, function_symbol}
use Rattle.gen_object.proofs.objects.symbols_of.Given as goal

abbrev pub invariant-loop-k : goal.invariant-loop-k
invariant-loop-k l = l.symbols.items ≡ code_symbol ∷ map (function_symbol l.count) (range_with_len 0 l.k)
