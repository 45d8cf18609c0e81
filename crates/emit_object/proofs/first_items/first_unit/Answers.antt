use Rattle.std.proofs.Common.{ℕ, ◌∙◌, ap, Some}
use Rattle.emit_object.proofs.ItemFacts.{unit_past, unit_other, unit_first}
use Rattle.emit_object.proofs.first_items.first_unit.Goals as goal

pub returns-then-k-points : goal.returns-then-k-points
returns-then-k-points c =
    unit_past c.args.f.now c.args.l.now c.args.section c.args.offset c.point_from-k.result c.requires.points c.requires.count c.points-points.result.now c.points-points.ensures c.point_from-k.ensures c.if-k-points.true

pub returns-then-p-section : goal.returns-then-p-section
returns-then-p-section c =
    unit_other c.args.f.now c.args.l.now c.args.section c.args.offset c.point_from-k.result c.requires.points c.requires.count c.points-points.result.now c.points-points.ensures c.point_from-k.ensures c.index-points-k.result
    c.if-k-points.false c.index-points-k.is c.if-p-section.true

pub returns : goal.returns
returns c =
    ap (λ (n : ℕ). Some (c.index-points-k.result.offset, n)) c.start.ensures
    ∙ unit_first c.args.f.now c.args.l.now c.args.section c.args.offset c.point_from-k.result c.requires.points c.requires.count c.points-points.result.now c.points-points.ensures c.point_from-k.ensures c.index-points-k.result
    c.if-k-points.false c.index-points-k.is c.units-units.result.now _ c.units-units.ensures c.index-units-k.is c.if-p-section.false
