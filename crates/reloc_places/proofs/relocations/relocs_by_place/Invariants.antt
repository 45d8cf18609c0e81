use Rattle.std.specs.BTreeMap.{get}
use Rattle.code_ranges.specs.Spans.{place_cmp}
use Rattle.reloc_places.proofs.RelocOrder.{IsReach}
use Rattle.reloc_places.proofs.RelocTable.{ArePlaced}
use Rattle.reloc_places.proofs.relocations.relocs_by_place.Given as goal

abbrev pub invariant-loop-k : goal.invariant-loop-k
invariant-loop-k l = record {
  reach : IsReach l.o.relocs l.k l.reach;
  placed : ArePlaced l.o l.k (λ j x. get place_cmp l.relocs (j, x));
}
