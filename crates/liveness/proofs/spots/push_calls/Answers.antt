use Rattle.std.proofs.Common.{◌≡◌, ◌<◌, ℕ, Some, inl, length, refl, sym, subst, arith}
use Rattle.std.specs.Prelude.{slice_get}
use Rattle.liveness.proofs.PointFacts.{read_there}
use Rattle.liveness.proofs.spots.push_calls.Goals as goal

pub call_spot-requires : goal.call_spot-requires
call_spot-requires c = λ q e.
    let low : c.loop-x.x-index < length c.points-x-items.result.now = omega arith in
    let here : slice_get c.points-x-items.result.now c.loop-x.x-index ≡ Some c.x-item.result = read_there c.points-x-items.result.now c.points-x-items.result.now c.loop-x.x-index c.x-item.result refl low c.x-item.is in
    let there : slice_get c.args.f.now.points c.loop-x.x-index ≡ Some c.x-item.result = subst (λ l. slice_get l c.loop-x.x-index ≡ Some c.x-item.result) c.points-x-items.ensures here in
    subst (λ (n : ℕ). q < n) (sym c.requires.sized) (c.requires.flow.edges c.loop-x.x-index q c.x-item.result there (inl e))
