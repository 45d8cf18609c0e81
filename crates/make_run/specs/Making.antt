-- What `make` does: the generated object and its hardened form are run, the one as it is, the other under drawn skips.
use Rattle.std.specs.Prelude.{◌≡◌, ◌≤◌, ℕ, ◌*◌, false, List, [], ◌∷◌, Some, codes, count_by}
use Rattle.std.specs.List.{range_with_len}
use Rattle.elf_model.specs.declared.objects.MapRow.{MapRow}
use Rattle.elf_model.specs.Objects.{ObjectParts, code_size}
use Rattle.elf_model.specs.Maps.{HasMap}
use Rattle.thumb_table.specs.Parts.{Image}
use Rattle.thumb_table.specs.States.{State, read}
use Rattle.thumb_table.specs.Schedules.{is_in, Returns, OrdinaryRun}
use Rattle.thumb_table.specs.Images.{IsImage, entry_of}
use Rattle.thumb_table.specs.Calls.{start}
use Rattle.skip_machine.specs.Draws.{IsDrawn}
use Rattle.sim_relation.specs.AddressMaps.{SameState}
use Rattle.harden_core.specs.declared.hardening.Hardened.{Hardened}
use Rattle.harden_core.specs.Hardening.{IsHardening}
use Rattle.gen_object.specs.Generated.{generated}
use Rattle.gen_image.specs.GeneratedImages.{placement}
use Rattle.gen_runs.specs.GeneratedRuns.{steps_of}
use Rattle.make_run.specs.MakeTexts.{make_report}

-- The call of f0 with 3 in r0, of the image of one object.
pub record CallsFirst (o : ObjectParts) (image : Image) (s : State) : Type 0 where
  pub image_is : IsImage (o ∷ []) placement image
  pub entry : ℕ
  pub entry_is : entry_of image.entries (codes "f0") ≡ Some entry
  pub start_is : s ≡ start image placement.stack entry (3 ∷ [])

-- how many of the first steps a schedule skips
abbrev pub skipped_of : List ℕ → ℕ → ℕ
skipped_of schedule n = count_by (is_in schedule) (range_with_len 0 n)

pub record IsMade (seed count : ℕ) (said : List ℕ) : Type 0 where
  -- the object is hardened for two copies and four results
  pub hardened : Hardened
  pub hardening : IsHardening (generated seed count) 2 4 hardened
  -- its own call returns by ordinary steps, all of which are executed
  pub plain : Image
  pub begun : State
  pub ended : State
  pub call : CallsFirst (generated seed count) plain begun
  pub returns : Returns plain.code (λ i. false) (steps_of count) 0 begun ended
  pub ordinary : OrdinaryRun plain.code (λ i. false) (steps_of count) 0 begun
  -- that of its hardened form returns within the factor's number of times the steps, under the skips that are drawn for so many
  pub hard : Image
  pub hard_begun : State
  pub hard_ended : State
  pub hard_call : CallsFirst hardened.object hard hard_begun
  pub schedule : List ℕ
  pub drawn : IsDrawn seed (hardened.factor * steps_of count) 2 schedule
  pub hard_steps : ℕ
  pub within : hard_steps ≤ hardened.factor * steps_of count
  pub hard_returns : Returns hard.code (is_in schedule) hard_steps 0 hard_begun hard_ended
  -- both end alike, by the map of the hardened object
  pub rows : List MapRow
  pub has_map : HasMap hardened.object rows
  pub same : SameState plain hard (rows ∷ []) 4 ended hard_ended
  pub said_is : said ≡ make_report (record {
    functions = count;
    old_bytes = code_size (generated seed count).sections;
    new_bytes = code_size hardened.object.sections;
    factor = hardened.factor;
    steps = steps_of count;
    r0 = (read ended.core 0).bits;
    hard_steps = hard_steps;
    skips = skipped_of schedule hard_steps;
    hard_r0 = (read hard_ended.core 0).bits;
  })
