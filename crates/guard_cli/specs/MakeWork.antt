-- The work of `make`: nothing is loaded or saved, and five lines are said.
use Rattle.std.specs.Prelude.{◌≡◌, [], ⊤}
use Rattle.guard_words.specs.Words.{MakeWords}
use Rattle.make_run.specs.Making.{IsMade}
use Rattle.guard_cli.specs.Works.{Work}

abbrev pub make_work : MakeWords → Work
make_work m = record {
  inputs = [];
  Accepts = λ loaded. ⊤;
  Refuses = λ loaded spot. ⊥;
  Makes = λ loaded saves said. (saves ≡ []) × IsMade m.seed m.count said;
  Stops = λ loaded outcome line. ⊥;
  Promises = λ loaded saves report before after. ⊤;
}
