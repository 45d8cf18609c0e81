use Rattle.std.proofs.Common.{◌∷◌, ◌++◌, [], List, sym, ap, ◌∙◌, arith}
use Rattle.std.proofs.lemmas.List.FromFn.{map-range_with_len_more}
use Rattle.elf_model.specs.declared.objects.Reloc.{Reloc}
use Rattle.gen_object.specs.Generated.{call}
use Rattle.gen_object.proofs.objects.calls_of.Goals as goal

pub loop-k-preserved : goal.loop-k-preserved
loop-k-preserved c =
    let k = c.loop-k.k in
    c.in_ok-push.ensures.items ∙ ap (λ (l : List Reloc). l ++ call k ∷ []) c.loop-k.invariant ∙ sym (map-range_with_len_more call 0 k k (omega arith))
