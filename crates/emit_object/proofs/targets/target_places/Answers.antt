use Rattle.elf_model.specs.declared.objects.Reloc.{Reloc}
use Rattle.flow_recover.specs.Gains.{IsFrom}
use Rattle.flow_recover.proofs.GainFacts.{no_place, places_start, places_more, places_all}
use Rattle.emit_object.specs.TargetPlaces.{Gives}
use Rattle.emit_object.proofs.TargetFacts.{gained}
use Rattle.emit_object.proofs.targets.target_places.Goals as goal

pub loop-r-init : goal.loop-r-init
loop-r-init c = places_start (λ (r : Reloc). Gives c.args.o.now c.args.f.now r) c.args.relocs.now c.new-places.result

pub loop-r-preserved : goal.loop-r-preserved
loop-r-preserved c =
    places_more (λ (r : Reloc). Gives c.args.o.now c.args.f.now r) c.args.relocs.now c.loop-r.r-index _ c.new-places.result c.loop-r.places c.note_target.new.places c.loop-r-test.true c.loop-r.invariant
    c.in_ok-note_target.ensures

pub returns : goal.returns
returns c =
    gained (IsFrom (λ (r : Reloc). Gives c.args.o.now c.args.f.now r) c.args.relocs.now) c.new-places.result c.loop-r.places (no_place c.new-places.result c.new-places.ensures.empty)
    (places_all (λ (r : Reloc). Gives c.args.o.now c.args.f.now r) c.args.relocs.now c.loop-r.r-index c.new-places.result c.loop-r.places c.loop-r-test.false c.loop-r.invariant)
