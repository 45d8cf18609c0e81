use Rattle.std.proofs.Common.{[], ◌∙◌, sym, ap, subst, List, Option}
use Rattle.elf_model.specs.Objects.{ObjectParts}
use Rattle.thumb_table.specs.Images.{IsImage}
use Rattle.skip_machine.specs.declared.machines.Outcome.{Outcome}
use Rattle.guard_words.specs.Tasks.{run_words}
use Rattle.guard_cli.specs.MachineRuns.{run_work}
use Rattle.guard_cli.specs.Steps.{contents_of, IsMadeAs}
use Rattle.guard_cli.proofs.Carried.{made_saying}
use Rattle.guard_cli.proofs.RunAnswered.{IsRunMade, run_made}
use Rattle.guard_cli.proofs.ImageRoom.{can_run}
use Rattle.guard_cli.proofs.run.decide.Goals as goal

pub run_command-requires-clause-can : goal.run_command-requires-clause-can
run_command-requires-clause-can c = can_run c.deref.result.now c.args.command.now.at c.in_ok-image.image c.in_ok-image.ensures.image

pub returns-clause-made : goal.returns-clause-made
returns-clause-made c =
    let words = run_words c.args.command.now in
    let files = contents_of c.args.files.now in
    let line = c.into_bytes.result.items in
    let made : IsRunMade words files c.in_ok-finished.finished line = record {
      objects = c.in_ok-objects.objects.items;
      image = c.in_ok-image.image;
      inputs = c.in_ok-objects.ensures.taken;
      image_is = subst (λ (os : List ObjectParts). IsImage os c.args.command.now.at c.in_ok-image.image) c.deref.ensures.value c.in_ok-image.ensures.image;
      entry = c.in-Some.entry;
      entry_is = cc;
      run_is = c.in_ok-finished.ensures;
      line_is = ap (λ v. v.items) c.into_bytes.ensures.value ∙ c.in_ok-line.ensures;
    } in
    made_saying (run_work words) files line c.stopped_by.result c.saying.result c.saying.ensures
    (subst (λ (o : Option Outcome). IsMadeAs (run_work words) files [] line o) (sym c.stopped_by.ensures) (run_made words files c.in_ok-finished.finished line made))
