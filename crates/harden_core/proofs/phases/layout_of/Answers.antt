use Rattle.std.proofs.Common.{List, sym, subst}
use Rattle.std.specs.Prelude.{IfErr}
use Rattle.std.proofs.lemmas.Result.{IfErr-weaker}
use Rattle.flow_recover.specs.declared.flows.PoolWord.{PoolWord}
use Rattle.branch_layout.specs.Given.{CanLay}
use Rattle.branch_layout.specs.Faults.{IsLayDenial}
use Rattle.harden_core.specs.Denials.{IsHardenDenial}
use Rattle.harden_core.proofs.PhaseFacts.{layout_denied}
use Rattle.harden_core.proofs.phases.layout_of.Goals as goal

pub lay-requires : goal.lay-requires
lay-requires c =
    subst (λ (ws : List PoolWord). CanLay c.args.units.now ws) (sym c.words.ensures)
    (c.units_can_be_laid.ensures c.args.o.now c.args.f.now c.args.b.now c.args.copies c.args.units.now c.requires.within c.requires.flow c.requires.least c.requires.most c.requires.units)

pub returns-clause-refused : goal.returns-clause-refused
returns-clause-refused c =
    IfErr-weaker c.lay.result (IsLayDenial c.args.units.now c.args.f.now.words) (IsHardenDenial c.args.o.now c.args.b.now c.args.copies)
    (layout_denied c.args.o.now c.args.f.now c.args.b.now c.args.copies c.args.units.now c.requires.flow c.requires.live c.requires.units)
    (subst (λ (ws : List PoolWord). IfErr c.lay.result (IsLayDenial c.args.units.now ws)) c.words.ensures c.lay.ensures.refused)
