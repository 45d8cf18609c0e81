use Rattle.std.proofs.Common.{◌≡◌, length, ap, arith, List}
use Rattle.std.specs.BTreeMap.{get}
use Rattle.elf_model.specs.declared.objects.Reloc.{Reloc}
use Rattle.code_ranges.specs.Spans.{place_cmp}
use Rattle.code_ranges.proofs.ObjectFacts.{reloc_sound}
use Rattle.reloc_places.proofs.RelocTable.{loop_at, relocs_few, reach_step, placed_step, all_placed}
use Rattle.reloc_places.proofs.relocations.relocs_by_place.Goals as goal

pub may_stand-right-requires-clause-good : goal.may_stand-right-requires-clause-good
may_stand-right-requires-clause-good c =
    reloc_sound c.args.o.now c.loop-k.k _ c.sound.ensures (loop_at c.args.o.now c.relocs-r-items.result.now c.loop-k.k _ c.relocs-r-items.ensures c.loop-k-test.true)

pub overflow_cast-index : goal.overflow_cast-index
overflow_cast-index c =
    let few = relocs_few c.args.o.now c.requires.within in
    let same : length c.relocs-r-items.result.now ≡ length c.args.o.now.relocs = ap (λ (xs : List Reloc). length xs) c.relocs-r-items.ensures in
    omega (arith, few, same)

pub loop-k-preserved : goal.loop-k-preserved
loop-k-preserved c = record {
  reach = reach_step c.args.o.now c.relocs-r-items.result.now c.loop-k.k _ c.sound.ensures c.relocs-r-items.ensures c.loop-k-test.true c.loop-k.reach c.loop-k.invariant.reach c.reach_with-reach.result c.reach_with-reach.ensures;
  placed =
      placed_step c.args.o.now c.relocs-r-items.result.now c.loop-k.k _ c.sound.ensures c.relocs-r-items.ensures c.loop-k-test.true c.loop-k.reach c.loop-k.invariant.reach
      c.end_in.result c.may_stand-right.result (λ j x. get place_cmp c.loop-k.relocs (j, x)) (λ j x. get place_cmp c.note_reloc.new.relocs (j, x))
      c.end_in.ensures c.may_stand-right.ensures c.loop-k.invariant.placed c.in_ok-note_reloc.ensures;
}

pub returns : goal.returns
returns c =
    let same : length c.relocs-r-items.result.now ≡ length c.args.o.now.relocs = ap (λ (xs : List Reloc). length xs) c.relocs-r-items.ensures in
    all_placed c.args.o.now c.loop-k.k (λ j x. get place_cmp c.loop-k.relocs (j, x)) (omega (arith, same)) c.loop-k.invariant.placed
