use Rattle.std.proofs.Common.{◌∷◌, ◌++◌, [], List, sym, ap, ap₂, ◌∙◌, arith}
use Rattle.std.proofs.lemmas.List.FromFn.{map-range_with_len_more}
use Rattle.elf_model.specs.declared.objects.Symbol.{Symbol}
use Rattle.gen_object.specs.Generated.{code_symbol, function_symbol}
use Rattle.gen_object.proofs.objects.symbols_of.Goals as goal

pub loop-k-preserved : goal.loop-k-preserved
loop-k-preserved c =
    let k = c.loop-k.k in
    let f = function_symbol c.args.count in
    c.in_ok-push.ensures.items ∙ ap₂ (λ (l : List Symbol) (s : Symbol). l ++ s ∷ []) c.loop-k.invariant c.in_ok-function_symbol.ensures
    ∙ ap (λ (l : List Symbol). code_symbol ∷ l) (sym (map-range_with_len_more f 0 k k (omega arith)))
