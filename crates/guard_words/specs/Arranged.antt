-- What is read of words with options.
use Rattle.std.specs.Prelude.{◌≡◌, ◌≤◌, ◌++◌, ℕ, List, Option, Some, None, ⊤}
use Rattle.std.specs.Option.{option_copied}
use Rattle.skip_machine.specs.Plans.{IsPlanText}
use Rattle.guard_words.specs.declared.options.OptionName.{OptionName}
use Rattle.guard_words.specs.declared.options.OptionName.TheVariants.{Base, Room, Entry, Argument, Steps, Skip, Seed}
use Rattle.guard_words.specs.declared.options.Options.{Options}
use Rattle.guard_words.specs.declared.settings.Said.{Said}
use Rattle.guard_words.specs.declared.settings.Schedule.{Schedule}
use Rattle.guard_words.specs.declared.settings.Schedule.TheVariants.{Listed, Drawn}
use Rattle.guard_words.specs.declared.tasks.Skipped.{Skipped}
use Rattle.guard_words.specs.declared.tasks.Skipped.TheVariants as skipped
use Rattle.guard_words.specs.Words.{IsFileName, Setting, spelled, value_of, IsNumberOf, IsPlacedBy, AreSkips, listed, drawn}

-- the value of an option, if it was read
abbrev pub value_in : Options → OptionName → Option (List ℕ)
value_in o Base = option_copied o.base
value_in o Room = option_copied o.room
value_in o Entry = option_copied o.entry
value_in o Argument = option_copied o.argument
value_in o Steps = option_copied o.steps
value_in o Skip = option_copied o.skip
value_in o Seed = option_copied o.seed

-- words that begin with an option
pub record BeginsWith (words : List (List ℕ)) (s : Setting) (rest : List (List ℕ)) : Type 0 where
  pub words_are : words ≡ spelled s ++ rest
  pub fits : IsFileName s.value

-- the options that were read are those of the words
abbrev pub AreOptions : Options → List Setting → Type 0
AreOptions o settings = (name : OptionName) → value_in o name ≡ value_of settings name

-- A schedule as it was read, of these values of `--skip` and `--seed`: a plan's text, or a seed.
abbrev pub IsSchedule : Option (List ℕ) → Option (List ℕ) → Schedule → Type 0
IsSchedule skip seed (Listed text) =
    ((steps : List ℕ) × IsPlanText 2 text.now steps) × ((steps : List ℕ) → IsPlanText 2 text.now steps → AreSkips skip seed (listed steps))
IsSchedule skip seed (Drawn n) = AreSkips skip seed (drawn n)

-- a schedule of a plan's text
abbrev pub IsListed : Schedule → Type 0
IsListed (Listed text) = ⊤
IsListed (Drawn n) = ⊥

-- the steps that a schedule skips
abbrev pub AreSkippedBy : Schedule → Skipped → Type 0
AreSkippedBy (Listed text) (skipped.Listed plan) = IsPlanText 2 text.now plan
AreSkippedBy (Drawn n) (skipped.Drawn seed) = seed ≡ n
AreSkippedBy _ _ = ⊥

-- no option but `--base` and `--room`
pub record IsPlacing (value : OptionName → Option (List ℕ)) : Type 0 where
  pub entry : value Entry ≡ None
  pub argument : value Argument ≡ None
  pub steps : value Steps ≡ None
  pub skip : value Skip ≡ None
  pub seed : value Seed ≡ None

-- what the options of `run` say beside its schedule
pub record IsSaid (value : OptionName → Option (List ℕ)) (o : Said) : Type 0 where
  pub placed : IsPlacedBy value o.at
  pub entry : value Entry ≡ Some o.entry.now
  pub argument : IsNumberOf (value Argument) o.argument
  pub steps : IsNumberOf (value Steps) (Some o.steps)
  pub some_steps : 1 ≤ o.steps
  pub few_steps : o.steps ≤ 10000000
