use Rattle.std.proofs.Common.{rules, ℕ, Bool}
use Rattle.std.proofs.lemmas.List.Sorted.{IsPartitionPoint-from_clause}
use Rattle.flow_recover.specs.declared.flows.Point.{Point}
use Rattle.flow_recover.specs.Points.{place_of_point}
use Rattle.emit_object.specs.FirstItems.{is_earlier}
use Rattle.emit_object.proofs.FirstFacts.{parted, first_index}
use Rattle.emit_object.proofs.first_items.point_from.Goals as goal

pub returns : goal.returns
returns c =
    let place : ℕ × ℕ = (c.args.section, c.args.offset) in
    let test : Point → Bool = λ y. is_earlier (place_of_point y) place in
    first_index Point place_of_point c.args.points.now place c.partition_point.result
    (IsPartitionPoint-from_clause test c.args.points.now c.partition_point.result c.partition_point.ensures.partitioned (parted Point place_of_point c.args.points.now place c.requires) (λ a r g called. search rules))
