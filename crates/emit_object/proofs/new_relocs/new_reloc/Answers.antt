use Rattle.emit_object.proofs.NewRelocFacts.{with_none, with_symbol}
use Rattle.emit_object.proofs.new_relocs.new_reloc.Goals as goal

pub returns-in-None : goal.returns-in-None
returns-in-None c = λ l are k there q. with_none c.args.o.now l k c.args.r.now c.args.kind c.args.at there c.new_symbol.result c.in-None.is (c.new_symbol.ensures l are) q

pub returns-in-Some : goal.returns-in-Some
returns-in-Some c = λ l are k there q. with_symbol c.args.o.now l k c.args.r.now c.args.kind c.args.at there c.new_symbol.result c.in-Some.symbol c.in-Some.is (c.new_symbol.ensures l are) q
