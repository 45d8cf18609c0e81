-- What the steps of `make` say.
use Rattle.std.specs.Prelude.{◌≡◌, ◌≤◌, ℕ, false, List, [], ◌∷◌, Some, IsTrue, codes}
use Rattle.elf_model.specs.declared.refusals.TheConstants.Limit.{ANY, INPUT}
use Rattle.elf_model.specs.declared.objects.MapRow.{MapRow}
use Rattle.elf_model.specs.Maps.{HasMap}
use Rattle.elf_model.specs.Objects.{ObjectParts, is_within}
use Rattle.thumb_table.specs.Parts.{Image}
use Rattle.thumb_table.specs.States.{State}
use Rattle.thumb_table.specs.Schedules.{is_in, Returns, ReturnsWithin, OrdinaryRun}
use Rattle.thumb_table.specs.Images.{IsImage, entry_of}
use Rattle.thumb_table.specs.Calls.{start}
use Rattle.skip_machine.specs.Machines.{Machine, state}
use Rattle.sim_relation.specs.AddressMaps.{SameState}
use Rattle.sim_relation.specs.Pairs.{Paired, everywhere}
use Rattle.harden_core.specs.declared.hardening.Hardened.{Hardened}
use Rattle.harden_core.specs.Hardening.{IsHardening}
use Rattle.gen_object.specs.Generated.{generated}
use Rattle.gen_flow.specs.GeneratedCode.{IsCount}
use Rattle.gen_image.specs.GeneratedImages.{placement}
use Rattle.gen_runs.specs.GeneratedRuns.{steps_of}
use Rattle.make_run.specs.declared.lines.Tally.{Tally}
use Rattle.make_run.specs.declared.making.Made.{Made}
use Rattle.make_run.specs.MakeTexts.{MakeTally}

pub record IsGenerated (o : ObjectParts) : Type 0 where
  pub seed : ℕ
  pub count : ℕ
  pub few : IsCount count
  pub is : o ≡ generated seed count

-- what is made of an object, for two copies and four results
pub record IsMadeOf (o : ObjectParts) (h : Hardened) : Type 0 where
  pub hardening : IsHardening o 2 4 h
  pub paired : Paired o h.object h.factor 2 4 everywhere
  pub within : IsTrue (is_within h.object ANY)

-- all that is made of a seed before the runs
pub record IsAllMade (m : Made) : Type 0 where
  pub few : IsCount m.count
  pub object : m.object ≡ generated m.seed m.count
  pub within : IsTrue (is_within m.object INPUT)
  pub hardened : IsMadeOf m.object m.hardened
  pub plain : IsImage (m.object ∷ []) placement m.plain
  pub hard : IsImage (m.hardened.object ∷ []) placement m.hard

-- the call of f0 with 3 in r0 begins in this state
pub record IsBegun (image : Image) (s : State) : Type 0 where
  pub entry : ℕ
  pub entry_is : entry_of image.entries (codes "f0") ≡ Some entry
  pub start_is : s ≡ start image placement.stack entry (3 ∷ [])

-- It returns within so many steps under a schedule.
pub record CanReturn (image : Image) (schedule : List ℕ) (most : ℕ) : Type 0 where
  pub begun : State
  pub is : IsBegun image begun
  pub ended : State
  pub returns : ReturnsWithin image.code (is_in schedule) most 0 begun ended

-- It has returned in a machine.
pub record HasReturned (image : Image) (schedule : List ℕ) (most : ℕ) (m : Machine) : Type 0 where
  pub begun : State
  pub is : IsBegun image begun
  pub within : m.steps ≤ most
  pub returns : Returns image.code (is_in schedule) m.steps 0 begun (state m)

-- So it has by ordinary steps, as many as so many functions take.
pub record HasReturnedPlainly (image : Image) (count : ℕ) (m : Machine) : Type 0 where
  pub begun : State
  pub is : IsBegun image begun
  pub steps : m.steps ≡ steps_of count
  pub returns : Returns image.code (λ i. false) (steps_of count) 0 begun (state m)
  pub ordinary : OrdinaryRun image.code (λ i. false) (steps_of count) 0 begun

-- The hardened object has a map.
abbrev pub HasRows : ObjectParts → Type 0
HasRows o = (rows : List MapRow) × HasMap o rows

-- Two machines have ended alike, by that map.
pub record EndAlike (m : Made) (p q : Machine) : Type 0 where
  pub rows : List MapRow
  pub has_map : HasMap m.hardened.object rows
  pub same : SameState m.plain m.hard (rows ∷ []) 4 (state p) (state q)

-- the numbers of the report
abbrev pub tally_of : Tally → MakeTally
tally_of t = record {
  functions = t.functions;
  old_bytes = t.old_bytes;
  new_bytes = t.new_bytes;
  factor = t.factor;
  steps = t.steps;
  r0 = t.r0;
  hard_steps = t.hard_steps;
  skips = t.skips;
  hard_r0 = t.hard_r0;
}
