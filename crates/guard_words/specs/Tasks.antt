-- What the words mean of a command that is carried out.
use Rattle.std.specs.Prelude.{ℕ, List, [], ◌∷◌, map, string_bytes}
use Rattle.guard_words.specs.declared.tasks.LinkCommand.{LinkCommand}
use Rattle.guard_words.specs.declared.tasks.RunCommand.{RunCommand}
use Rattle.guard_words.specs.declared.tasks.Skipped.{Skipped}
use Rattle.guard_words.specs.declared.tasks.Skipped.TheVariants.{Listed, Drawn}
use Rattle.guard_words.specs.declared.tasks.Task.{Task}
use Rattle.guard_words.specs.declared.tasks.Task.TheVariants as task
use Rattle.guard_words.specs.Words.{Pair, LinkWords, RunWords, Skips, listed, drawn}
use Rattle.guard_words.specs.Meanings.{Meaning, harden, link, run, list, make}

-- an input and its output in turn
abbrev pub pairs_in : List (List ℕ) → List Pair
pairs_in (input ∷ output ∷ names) = record { input = input; output = output } ∷ pairs_in names
pairs_in names = []

abbrev pub link_words : LinkCommand → LinkWords
link_words c = record { at = c.at; output = c.output.now; inputs = map string_bytes c.inputs.now }

abbrev pub skips_by : Skipped → Skips
skips_by (Listed plan) = listed plan
skips_by (Drawn seed) = drawn seed

abbrev pub run_words : RunCommand → RunWords
run_words c = record {
  at = c.at;
  entry = c.entry.now;
  argument = c.argument;
  steps = c.steps;
  skips = skips_by c.skipped;
  inputs = map string_bytes c.inputs.now;
}

-- what the words of a command mean that is carried out
abbrev pub meaning_by : Task → Meaning
meaning_by (task.Harden names) = harden (pairs_in (map string_bytes names.now))
meaning_by (task.Link c) = link (link_words c)
meaning_by (task.Run c) = run (run_words c)
meaning_by (task.List input) = list input.now
meaning_by (task.Make seed count) = make (record { seed = seed; count = count })
