use Rattle.std.proofs.Common.{◌≡◌, ◌<◌, List, length, get_or, slice_get, Some, None, refl, ap, ◌∙◌, subst, arith}
use Rattle.thumb_instr.specs.Operands.{has}
use Rattle.flow_recover.specs.declared.flows.Point.{Point}
use Rattle.liveness.proofs.PointFacts.{read_there}
use Rattle.point_units.specs.Spots.{IsLackAt}
use Rattle.point_units.proofs.LackFacts.{live_is, next_spots}
use Rattle.point_units.proofs.lacks.lacking_spots.Goals.{in-Some+in_ok-push, in_default}
use Rattle.point_units.proofs.lacks.lacking_spots.Goals as goal

pub loop-p-preserved : goal.loop-p-preserved
loop-p-preserved c =
    let points = c.points-x-items.result.now in
    let low : c.loop-p.p < length points = omega (arith, c.loop-p-test.true) in
    let here : slice_get points c.loop-p.p ≡ Some c.x-item.result = read_there points points c.loop-p.p c.x-item.result refl low c.x-item.is in
    let there = subst (λ (l : List Point). slice_get l c.loop-p.p ≡ Some c.x-item.result) c.points-x-items.ensures here in
    let live = live_is c.args.f.now c.args.b.now c.args.l.now c.requires.live c.x-item.result c.after.result (c.after.ensures c.x-item.result there) in
    let less = subst (λ (l : List Point). c.loop-p.p < length l) c.points-x-items.ensures low in
    let is = subst (λ (l : List Point). c.x-item.result ≡ get_or l c.loop-p.p c.x-item.result) c.points-x-items.ensures c.x-item.is in
    elim c.match-branch-2.branch [
      | in-Some+in_ok-push w ↦
          next_spots c.args.f.now c.args.b.now c.loop-p.p c.x-item.result (has c.after.result.0) c.loop-p.spots.items c.match-branch-2.spots.items (Some w.in-Some.spot) less is c.loop-p.invariant live
          (subst (IsLackAt c.x-item.result (has c.after.result.0)) w.in-Some.is c.in_ok-spot.ensures) (ap (λ v. v.items) w.spots-is ∙ w.in_ok-push.ensures.items)
      | in_default w ↦
          next_spots c.args.f.now c.args.b.now c.loop-p.p c.x-item.result (has c.after.result.0) c.loop-p.spots.items c.match-branch-2.spots.items None less is c.loop-p.invariant live
          (subst (IsLackAt c.x-item.result (has c.after.result.0)) w.in_default.is c.in_ok-spot.ensures) (ap (λ v. v.items) w.spots-is)
    ]
