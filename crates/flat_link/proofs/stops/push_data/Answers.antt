use Rattle.std.proofs.Common.{◌≡◌, List, Some, subst, sym, arith}
use Rattle.std.specs.Prelude.{slice_get}
use Rattle.elf_model.specs.declared.objects.Symbol.{Symbol}
use Rattle.flat_link.proofs.ListFacts.{there_at}
use Rattle.flat_link.proofs.SymbolFacts.{known_there}
use Rattle.flat_link.proofs.stops.push_data.Goals as goal

pub data_place-requires-clause-known : goal.data_place-requires-clause-known
data_place-requires-clause-known c =
    let o = c.requires.symbols in
    known_there c.args.layout.now.objects.now c.args.object o.0 c.loop-k.k c.index-symbols-k.result o.1
    (subst (λ (l : List Symbol). slice_get l c.loop-k.k ≡ Some c.index-symbols-k.result) (sym o.2) (there_at c.args.symbols.now c.loop-k.k c.index-symbols-k.result (omega arith) c.index-symbols-k.is))
