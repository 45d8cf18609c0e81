-- A point of a chart works where its unit serves.
use Rattle.std.proofs.Common.{◌≡◌, ℕ, ◌+◌, Bool, true, false, refl, sym, ap, subst, inl, inr}
use Rattle.std.specs.Prelude.{◌&&◌, length}
use Rattle.thumb_instr.specs.Blocks.{block_condition}
use Rattle.thumb_table.specs.Parts.{CodeBytes}
use Rattle.thumb_table.specs.Conditions.{holds}
use Rattle.flow_recover.specs.declared.flows.Point.{Point}
use Rattle.liveness.specs.Paths.{branch_cond}
use Rattle.seq_core.specs.Does.{Effect, Task, Works}
use Rattle.hardened_form.specs.Places.{UnitPlace}
use Rattle.sim_charts.specs.Charts.{unit_of}
use Rattle.sim_relation.specs.Sequences.{Sequence}
use Rattle.sim_relation.specs.Doing.{loses, task_at, linked_effect, Serves}
use Rattle.sim_relation.specs.Charted.{Known, charted, KeepsOut, PairsWork}

-- The chart's point has the same work.
same_work : (start : ℕ) (x : Point) (u : UnitPlace) (s : Sequence) (known : Known) (effect : Effect) → block_condition known.it ≡ x.cond
    → unit_of (charted start x u s known) effect ≡ task_at start x u s effect
same_work start x u s known effect e =
    ap (λ c. record {
      place = start + u.start;
      end = start + u.end;
      length = length s.steps;
      taken = λ y. holds c y && holds (branch_cond x.instr) y;
      effect = effect;
      loses = loses x.instr s.scratch;
    }) e

works : (code : CodeBytes) (c : ℕ) (may_skip : ℕ → Bool) (t : Task) (skipped : Bool) → Serves skipped code c t → KeepsOut skipped may_skip t.place t.end → Works code c may_skip t
works code c may_skip t true s out = inl s
works code c may_skip t false s out = inr (s may_skip (out refl))

pub pairs_work : PairsWork
pairs_work o h F c K skipped pair k x u s point unit sequence code start link aligned low may stands known cond may_skip out =
    let done = pair.done k x u s point unit sequence in
    let effect = linked_effect start link x u in (
      subst (Works code c may_skip) (sym (same_work start x u s known effect cond)) (works code c may_skip (task_at start x u s effect) (skipped x) (done.does code start link aligned low may stands) out),
      done.short,
    )
