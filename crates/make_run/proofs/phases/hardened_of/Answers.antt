use Rattle.std.proofs.Common.{subst}
use Rattle.elf_model.specs.declared.refusals.Deny.{Deny}
use Rattle.sim_relation.specs.Accepted.{boundaries}
use Rattle.harden_core.specs.Denials.{IsHardenDenial}
use Rattle.make_run.proofs.Refusals.{form_never_refused}
use Rattle.make_run.proofs.phases.hardened_of.Goals as goal

pub unreachable-requires : goal.unreachable-requires
unreachable-requires c =
    form_never_refused
    (record {
      recovered = c.generated_flows_are_recovered.ensures;
      live = c.generated_flows_are_live.ensures;
      scratch = c.generated_points_have_scratch.ensures;
      laid = c.generated_units_are_laid.ensures;
    }) c.args.o.now c.in-Err-Refused.field-0-0 c.requires.generated
    (subst (λ (d : Deny). IsHardenDenial c.args.o.now (boundaries 4) 2 d) c.in-Err-Refused.field-0-is c.in-Err-Refused.ensures.refused)
