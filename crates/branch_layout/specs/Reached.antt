-- The law that goals are reached.
use Rattle.std.specs.Prelude.{◌≡◌, ◌≢◌, ◌≤◌, ℕ, List, Some, length, slice_get}
use Rattle.seq_core.specs.declared.steps.Step.{Step}
use Rattle.seq_core.specs.declared.steps.Goal.TheVariants.{Nowhere}
use Rattle.seq_core.specs.declared.units.Unit.{Unit as SeqUnit}
use Rattle.flow_recover.specs.declared.flows.PoolWord.{PoolWord}
use Rattle.branch_layout.specs.Copies.{copies_of}
use Rattle.branch_layout.specs.Placings.{Stretch, Placing, places_of}
use Rattle.branch_layout.specs.Goals.{ReachesGoal}
use Rattle.branch_layout.specs.Given.{CanLay}
use Rattle.branch_layout.specs.Layouts.{ArePlaces}
use Rattle.branch_layout.specs.Coding.{offset_of}

-- In places with nothing in the way each copy of a step with a goal reaches it. No sequence has more than eight steps.
abbrev pub GoalsAreReached : Type 0
GoalsAreReached = (units : List SeqUnit) (words : List PoolWord) (p : Placing) → CanLay units words → ArePlaces units words p →
    (k : ℕ) (u : SeqUnit) (s : Stretch) → slice_get units k ≡ Some u → slice_get p.units k ≡ Some s → length u.seq.steps ≤ 8 →
    (j : ℕ) (t : Step) → slice_get (copies_of u.seq.steps) j ≡ Some t → t.goal ≢ Nowhere → ReachesGoal (places_of p) u s.place (offset_of s j) t
