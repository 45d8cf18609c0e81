use Rattle.std.proofs.Common.{◌∙◌, List, ℕ, refl, ap, subst}
use Rattle.std.specs.Prelude.{slice_get}
use Rattle.elf_model.specs.declared.objects.Section.{Section}
use Rattle.elf_model.specs.Files.{StandsFor}
use Rattle.guard_cli.proofs.HardenLoops.{bytes_of_one}
use Rattle.guard_cli.proofs.harden.output_of.Goals as goal

pub returns-clause-sound : goal.returns-clause-sound
returns-clause-sound c = record {
  room = (c.if-not-has_room.ensures.0 refl).0;
  bytes = bytes_of_one c.args.object.now (λ j s e. c.have_bytes.ensures j s (ap (λ (l : List Section). slice_get l j) c.sections.ensures ∙ e));
  stands = subst (λ (b : List ℕ). StandsFor b c.args.object.now) c.in_ok-bytes.ensures.file c.in_ok-bytes.ensures.stands;
}
