use Rattle.std.proofs.Common.{subst}
use Rattle.elf_model.specs.declared.refusals.Deny.{Deny}
use Rattle.elf_read.specs.MapRefusals.{HasNoMap, IsDenied}
use Rattle.make_run.proofs.making.rows_of.Goals as goal

pub unreachable-requires : goal.unreachable-requires
unreachable-requires c =
    let o = c.args.made.now.hardened.object in
    let none = subst (λ (d : Deny). IsDenied (HasNoMap o) d) c.in-Err-Refused.field-0-is c.in-Err-Refused.ensures.refused in
    none.1 c.requires.0 c.requires.1
