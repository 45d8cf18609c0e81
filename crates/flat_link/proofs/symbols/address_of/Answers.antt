use Rattle.std.proofs.Common.{arith}
use Rattle.flat_link.specs.Known.{defined_of}
use Rattle.flat_link.proofs.SymbolFacts.{low_address}
use Rattle.flat_link.proofs.symbols.address_of.Goals as goal

pub overflow_add-result : goal.overflow_add-result
overflow_add-result c =
    let l = c.args.layout.now in
    omega (arith, low_address l.objects.now l.at c.requires.layout.sound c.requires.layout.fits (defined_of c.args.known.now) c.requires.known (omega arith), c.home_start.ensures)
