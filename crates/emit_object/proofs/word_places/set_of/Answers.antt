use Rattle.flow_recover.specs.Gains.{IsFrom}
use Rattle.flow_recover.proofs.GainFacts.{no_place, place_more, places_more, places_all}
use Rattle.emit_object.proofs.TargetFacts.{gained}
use Rattle.emit_object.proofs.WordFacts.{IsSame, all_same}
use Rattle.emit_object.proofs.word_places.set_of.Goals as goal

pub loop-p-preserved : goal.loop-p-preserved
loop-p-preserved c =
    places_more IsSame c.args.list.now c.loop-p.p-index _ c.new-set.result c.loop-p.set c.insert.new.self c.loop-p-test.true c.loop-p.invariant (place_more c.loop-p.set c.insert.new.self _ _ c.in_ok-insert.ensures.updates.0)

pub returns : goal.returns
returns c = λ p.
    let is = gained (IsFrom IsSame c.args.list.now) c.new-set.result c.loop-p.set (no_place c.new-set.result c.new-set.ensures.empty)
    (places_all IsSame c.args.list.now c.loop-p.p-index c.new-set.result c.loop-p.set c.loop-p-test.false c.loop-p.invariant) p in
    let same = all_same c.args.list.now p in (
      λ h. same.0 (is.0 h),
      λ h. is.1 (same.1 h),
    )
