use Rattle.std.proofs.Common.{◌≡◌, ◌∙◌, sym, Some}
use Rattle.std.specs.Prelude.{slice_get}
use Rattle.hardened_form.specs.Relocs.{StandsFor}
use Rattle.emit_object.specs.MadeRelocs.{IsMadeAt}
use Rattle.emit_object.proofs.NewRelocFacts.{both_by}
use Rattle.emit_object.proofs.MadeFacts.{given_at, none_at, number_there}
use Rattle.emit_object.proofs.reloc_table.made_at.Goals as goal

pub returns-in-None : goal.returns-in-None
returns-in-None c = λ l are q. none_at c.args.o.now l c.args.s.now (sym c.numbered.ensures ∙ c.in-None.is) q

pub returns-in-Some : goal.returns-in-Some
returns-in-Some c = λ l are q.
    let there : slice_get c.args.o.now.relocs c.args.s.now.number ≡ Some c.in-Some.r = number_there c.args.o.now c.args.s.now.number (c.in-Some.field-0-0, c.in-Some.r) (sym c.numbered.ensures ∙ c.in-Some.is) in
    both_by (c.new_reloc.result ≡ Some q) (StandsFor c.args.o.now l c.args.s.now.number c.in-Some.r c.args.s.now.kind c.args.s.now.at q) (IsMadeAt c.args.o.now l c.args.s.now q)
    (c.new_reloc.ensures l are c.args.s.now.number there q) (given_at c.args.o.now l c.args.s.now c.in-Some.r q there)
