use Rattle.std.proofs.Common.{◌≡◌, List, length, ap, refl, arith}
use Rattle.elf_model.specs.declared.objects.Reloc.{Reloc}
use Rattle.flow_recover.specs.RelocFaults.{IsRelocSpot}
use Rattle.flow_recover.proofs.GainFacts.{gains_item, gains_all}
use Rattle.flow_recover.proofs.RelocSpots.{all_relocs}
use Rattle.flow_recover.proofs.reloc_faults.push_relocs.Goals as goal

pub loop-r-preserved : goal.loop-r-preserved
loop-r-preserved c =
    gains_item (IsRelocSpot c.args.o.now) c.args.o.now.relocs c.relocs-r-items.result.now c.loop-r.r-index _ _ c.args.spots.now.items c.loop-r.spots.items c.push_reloc.new.spots.items
    c.relocs-r-items.ensures c.loop-r-test.true refl c.loop-r.invariant c.in_ok-push_reloc.ensures

pub returns : goal.returns
returns c =
    let same : length c.relocs-r-items.result.now ≡ length c.args.o.now.relocs = ap (λ (xs : List Reloc). length xs) c.relocs-r-items.ensures in
    all_relocs c.args.o.now c.args.spots.now.items c.loop-r.spots.items c.sound.ensures
    (gains_all (IsRelocSpot c.args.o.now) c.args.o.now.relocs c.loop-r.r-index c.args.spots.now.items c.loop-r.spots.items (omega (arith, same)) c.loop-r.invariant)
