-- What is done for more copies is done for fewer.
use Rattle.std.specs.Prelude.{◌≤◌, ℕ, Bool}
use Rattle.elf_model.specs.Objects.{ObjectParts}
use Rattle.flow_recover.specs.declared.flows.Point.{Point}
use Rattle.flow_recover.specs.Flows.{FlowParts}
use Rattle.hardened_form.specs.Places.{UnitPlace, Places}
use Rattle.sim_relation.specs.Sequences.{Sequence}
use Rattle.sim_relation.specs.Doing.{DoesIt}

abbrev pub FewerCopiesDo : Type 0
FewerCopiesDo =
    (o h : ObjectParts) (f : FlowParts) (p : Places) (fewer more : ℕ) (skipped : Bool) (x : Point) (u : UnitPlace) (s : Sequence)
    → fewer ≤ more → DoesIt o h f p more skipped x u s → DoesIt o h f p fewer skipped x u s
