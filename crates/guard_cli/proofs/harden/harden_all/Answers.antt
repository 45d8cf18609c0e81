use Rattle.std.proofs.Common.{◌∙◌, ap, subst}
use Rattle.elf_model.specs.declared.refusals.Deny.{Deny}
use Rattle.sim_relation.specs.Accepted.{boundaries}
use Rattle.harden_core.specs.Denials.{IsHardenDenial}
use Rattle.guard_cli.proofs.FirstRefusals.{step_hardened, step_refused}
use Rattle.guard_cli.proofs.harden.harden_all.Goals as goal
use Rattle.guard_cli.proofs.harden.harden_all.Goals.{in-Ok+in_ok-push-in-Ok, in-Err-Refused}

pub loop-k-preserved : goal.loop-k-preserved
loop-k-preserved c =
    let objects = c.args.objects.now in
    let k = c.loop-k.k in
    let o = c.index-objects-k.result in
    elim c.match-harden.branch [
      | in-Ok+in_ok-push-in-Ok w ↦
          step_hardened objects k o c.loop-k-test.true c.index-objects-k.is c.loop-k.hardened.items c.match-harden.hardened.items c.loop-k.first c.match-harden.first w.in-Ok.made
          (ap (λ v. v.items) w.hardened-is ∙ w.in_ok-push-in-Ok.ensures.items) w.first-is c.loop-k.invariant
          (record { hardening = w.in-Ok.ensures.hardened; paired = w.in-Ok.ensures.paired })
      | in-Err-Refused w ↦
          step_refused objects k o c.loop-k-test.true c.index-objects-k.is c.loop-k.hardened.items c.match-harden.hardened.items c.loop-k.first c.match-harden.first
          w.in-Err-Refused.spot w.in_file.result w.earlier.result w.in_file.ensures w.earlier.ensures w.first-is c.loop-k.invariant
          (subst (λ (d : Deny). IsHardenDenial o (boundaries 4) 2 d) w.in-Err-Refused.field-0-is w.in-Err-Refused.ensures.refused)
    ]
