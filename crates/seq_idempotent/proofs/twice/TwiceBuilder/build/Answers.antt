use Rattle.std.proofs.Common.{List, sym, ap, subst}
use Rattle.seq_core.specs.Series.{Series}
use Rattle.seq_core.specs.declared.steps.Step.{Step}
use Rattle.seq_core.specs.Builders.{Do, loses, own_test}
use Rattle.seq_idempotent.proofs.InPlace.{twice_does}
use Rattle.seq_idempotent.proofs.twice.TwiceBuilder.build.Goals as goal

pub returns-clause-works : goal.returns-clause-works
returns-clause-works c =
    subst (λ (steps : List Step). Do (own_test c.args.i.now) c.args.i.now (loses c.args.i.now c.args.scratch.now) c.args.copies steps) (sym (ap (λ (s : Series). s.steps) c.in_place.ensures))
    (twice_does (record {
      idempotent = c.idempotent_decodes_in_place.ensures;
      halves = c.halves_in_place.ensures;
      formed = c.decodes_are_formed.ensures;
      apart = c.decodes_are_apart.ensures.apart;
      meanings = c.classes_tell_meanings.ensures;
      more = c.more_may_be_lost.ensures;
      steps = c.steps_do.ensures;
    }) c.args.i.now c.args.scratch.now c.args.copies c.requires)
