-- That the call of the generated object's first function returns, by ordinary steps.
use Rattle.std.specs.Prelude.{◌<◌, ◌^◌, ℕ, ◌-◌, ◌*◌, false, List, [], ◌∷◌}
use Rattle.thumb_table.specs.Parts.{Image}
use Rattle.thumb_table.specs.States.{State}
use Rattle.thumb_table.specs.Schedules.{Returns, OrdinaryRun}
use Rattle.thumb_table.specs.Calls.{start}
use Rattle.gen_flow.specs.GeneratedCode.{IsCount}
use Rattle.gen_image.specs.GeneratedImages.{IsGeneratedImage}

-- the call of f0 with a number in r0
abbrev pub called : Image → ℕ → State
called image argument = start image 65536 0x8001 (argument ∷ [])

-- A function has five instructions and its call of the next one, which the last one has not.
abbrev pub steps_of : ℕ → ℕ
steps_of count = 6 * count - 1

pub record ReturnsOrdinarily (image : Image) (argument n : ℕ) : Type 0 where
  pub ended : State
  pub returns : Returns image.code (λ i. false) n 0 (called image argument) ended
  pub ordinary : OrdinaryRun image.code (λ i. false) n 0 (called image argument)

abbrev pub GeneratedCallsReturn : Type 0
GeneratedCallsReturn =
    (seed count argument : ℕ) (image : Image) → IsCount count → argument < 2 ^ 32 → IsGeneratedImage seed count image → ReturnsOrdinarily image argument (steps_of count)
