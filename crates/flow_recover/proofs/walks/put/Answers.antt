use Rattle.std.proofs.Common.{◌≡◌, ◌<◌, ◌∙◌, sym, ap, refl, arith, false, Bool, Some, length}
use Rattle.std.specs.Prelude.{slice_get}
use Rattle.std.proofs.lemmas.Option.{slice_get-get_or}
use Rattle.flow_recover.proofs.WalkFacts.{put_new}
use Rattle.flow_recover.proofs.walks.put.Goals as goal

pub returns : goal.returns
returns c =
    let within : c.args.i < length c.args.walk.now.come.items = let same = c.requires.shape.come in let there = c.requires.there in omega arith in
    let unmarked : slice_get c.args.walk.now.come.items c.args.i ≡ Some false = slice_get-get_or c.args.walk.now.come.items c.args.i c.index.result.now within ∙ ap (λ (b : Bool). Some b) (sym c.index.ensures ∙ c.if-index.false) in
    put_new c.args.i c.args.walk.now _ c.put-put.result unmarked refl refl refl (record { waits = c.put-put.ensures.waits; waiting = c.put-put.ensures.waiting; size = c.put-put.ensures.size })
