use Rattle.std.proofs.Common.{arith}
use Rattle.elf_model.specs.declared.refusals.TheConstants.Limit.{ANY}
use Rattle.guard_cli.specs.Steps.{contents_of}
use Rattle.guard_cli.proofs.Loaded.{as_many, contents_count}
use Rattle.guard_cli.proofs.loading.objects_of.Goals as goal

pub returns-clause-few : goal.returns-clause-few
returns-clause-few c = omega (arith, as_many ANY (contents_of c.args.files.now) c.in_ok-inputs.inputs.objects.items c.in_ok-inputs.ensures.taken, contents_count c.args.files.now)
