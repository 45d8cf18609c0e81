use Rattle.std.proofs.Common.{◌≡◌, ◌↔◌, true, sym, subst, Bool}
use Rattle.reloc_places.specs.Starts.{IsDataWord}
use Rattle.flow_recover.proofs.NodeFaultFacts.{lacks_is}
use Rattle.flow_recover.proofs.flow_faults.lacks_word.Goals as goal

pub returns-in-Some-literal_place : goal.returns-in-Some-literal_place
returns-in-Some-literal_place c = lacks_is c.args.o.now c.args.v.now.node c.args.v.now.instr c.in-Some.l c.in-Some-literal_place.w c.contains.result (sym c.in-Some.ensures) (sym c.in-Some-literal_place.ensures)
    (subst (λ (b : Bool). (b ≡ true) ↔ IsDataWord c.args.o.now c.args.v.now.node.section c.in-Some-literal_place.w) (sym c.contains.ensures) (c.requires.chart.words c.args.v.now.node.section c.in-Some-literal_place.w))
