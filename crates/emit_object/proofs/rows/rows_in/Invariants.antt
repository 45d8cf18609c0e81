use Rattle.std.proofs.Common.{◌≡◌, ◌++◌, drop, map}
use Rattle.std.specs.Prelude.{slice_index, None}
use Rattle.std.specs.List.{zip}
use Rattle.branch_layout.specs.Laid.{laid_place as unit_place}
use Rattle.emit_object.specs.RowLists.{rows_from}
use Rattle.emit_object.proofs.rows.rows_in.Given as goal

-- with those of the points to come they are all
abbrev pub invariant-loop-k : goal.invariant-loop-k
invariant-loop-k l =
    l.rows.items ++ rows_from (λ j. slice_index l.ordinals j) l.waiting (drop l.k (zip l.points (map unit_place l.units))) ≡ rows_from (λ j. slice_index l.ordinals j) None (zip l.points (map unit_place l.units))
