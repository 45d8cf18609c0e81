use Rattle.std.proofs.Common.{◌≡◌, ◌<◌, List, length, slice_get, Some, refl, subst, arith}
use Rattle.elf_model.proofs.Elements.{contains_at}
use Rattle.thumb_instr.specs.Operands.{has}
use Rattle.flow_recover.specs.declared.flows.Point.{Point}
use Rattle.liveness.proofs.PointFacts.{read_there}
use Rattle.point_units.proofs.LackFacts.{live_is, none_lacks}
use Rattle.point_units.proofs.UnitFacts.{unit_more}
use Rattle.point_units.proofs.units.all_units.Goals as goal

pub unit_at-requires-clause-enough : goal.unit_at-requires-clause-enough
unit_at-requires-clause-enough c =
    let points = c.points-x-items.result.now in
    let low : c.loop-p.p < length points = omega (arith, c.loop-p-test.true) in
    let here : slice_get points c.loop-p.p ≡ Some c.x-item.result = read_there points points c.loop-p.p c.x-item.result refl low c.x-item.is in
    let there = subst (λ (l : List Point). slice_get l c.loop-p.p ≡ Some c.x-item.result) c.points-x-items.ensures here in
    let live = live_is c.args.f.now c.args.b.now c.args.l.now c.requires.live c.x-item.result c.after-live.result (c.after-live.ensures c.x-item.result there) in
    none_lacks c.args.f.now c.args.b.now c.x-item.result (has c.after-live.result.0) live c.requires.enough (contains_at c.args.f.now.points c.loop-p.p c.x-item.result there)

pub loop-p-preserved : goal.loop-p-preserved
loop-p-preserved c =
    let points = c.points-x-items.result.now in
    let low : c.loop-p.p < length points = omega (arith, c.loop-p-test.true) in
    let here : slice_get points c.loop-p.p ≡ Some c.x-item.result = read_there points points c.loop-p.p c.x-item.result refl low c.x-item.is in
    let there = subst (λ (l : List Point). slice_get l c.loop-p.p ≡ Some c.x-item.result) c.points-x-items.ensures here in
    let live = live_is c.args.f.now c.args.b.now c.args.l.now c.requires.live c.x-item.result c.after-live.result (c.after-live.ensures c.x-item.result there) in
    unit_more c.args.o.now c.args.f.now c.args.b.now c.args.copies c.args.f.now.points c.loop-p.p c.loop-p.units.items c.push.new.self.items c.x-item.result c.in_ok-unit_at.field-0 there
    (c.in_ok-unit_at.ensures c.args.b.now live) c.in_ok-push.ensures.items c.loop-p.invariant
