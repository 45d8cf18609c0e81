use Rattle.std.proofs.Common.{Result, Ok, Err, IsTrue}
use Rattle.std.specs.Prelude.{All, IfOk}
use Rattle.elf_model.specs.declared.refusals.Deny.{Deny}
use Rattle.elf_model.specs.Objects.{is_within}
use Rattle.guard_cli.specs.declared.loading.Inputs.{Inputs}
use Rattle.guard_cli.specs.Inputs.{AreReadAs}
use Rattle.guard_cli.specs.Steps.{contents_of}
use Rattle.guard_cli.proofs.Loaded.{all_within}
use Rattle.guard_cli.proofs.loading.read_inputs.Goals as goal

pub returns-clause-within : goal.returns-clause-within
returns-clause-within c = within c.read_all.result c.read_all.ensures.read
  where
    within : (r : Result Inputs Deny) → IfOk r (λ inputs. AreReadAs c.args.limit.now (contents_of c.args.files.now) inputs.objects.items) → IfOk r (λ inputs. All (λ o. IsTrue (is_within o c.args.limit.now)) inputs.objects.items)
    within (Ok inputs) are = all_within c.args.limit.now (contents_of c.args.files.now) inputs.objects.items are
    within (Err why) are = are
