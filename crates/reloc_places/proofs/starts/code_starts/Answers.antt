use Rattle.std.proofs.Common.{false, ◌+◌, ℕ, sym, subst, arith, ap, length}
use Rattle.std.specs.Prelude.{slice_index_or}
use Rattle.std.specs.BTreeMap.{BTreeMap, get}
use Rattle.std.proofs.lemmas.Option.{slice_get-get_or}
use Rattle.code_ranges.specs.declared.ranges.Range.{Range}
use Rattle.code_ranges.specs.Spans.{place_cmp}
use Rattle.reloc_places.proofs.StartTables.{StartsUpTo, bounded, more_starts, same_starts, all_starts}
use Rattle.reloc_places.proofs.starts.code_starts.Goals as goal
use Rattle.reloc_places.proofs.starts.code_starts.Goals.{then-r+in_ok-note_range, else-r}

pub note_range-requires-clause-in_bytes : goal.note_range-requires-clause-in_bytes
note_range-requires-clause-in_bytes c =
    let r : Range = slice_index_or c.args.ranges.now c.loop-r.r-index (record { section = 0; start = 0; end = 0; code = false }) in
    let at = slice_get-get_or c.args.ranges.now c.loop-r.r-index (record { section = 0; start = 0; end = 0; code = false }) c.loop-r-test.true in
    let b = bounded c.args.o.now c.args.ranges.now c.loop-r.r-index r c.sound.ensures c.requires.within c.requires.ranges at in
    let same = ap length c.bytes_of.ensures in
    omega (arith, same, b)

pub note_range-requires-clause-small : goal.note_range-requires-clause-small
note_range-requires-clause-small c =
    let at = slice_get-get_or c.args.ranges.now c.loop-r.r-index _ c.loop-r-test.true in
    (bounded c.args.o.now c.args.ranges.now c.loop-r.r-index _ c.sound.ensures c.requires.within c.requires.ranges at).small

pub loop-r-preserved : goal.loop-r-preserved
loop-r-preserved c =
    let at = slice_get-get_or c.args.ranges.now c.loop-r.r-index _ c.loop-r-test.true in
    let up = λ (m : BTreeMap (ℕ × ℕ) ℕ). StartsUpTo c.args.o.now c.args.ranges.now (c.loop-r.r-index + 1) (λ j x. get place_cmp m (j, x)) in
    elim c.if-r.branch [
      | then-r+in_ok-note_range w ↦
          subst up (sym w.starts-is)
          (more_starts c.args.o.now c.args.ranges.now c.loop-r.r-index _ w.bytes_of.result.now _ _ c.requires.ranges at w.if-r.true w.bytes_of.ensures c.loop-r.invariant w.in_ok-note_range.ensures.noted w.in_ok-note_range.ensures.others)
      | else-r w ↦ subst up (sym w.starts-is) (same_starts c.args.o.now c.args.ranges.now c.loop-r.r-index _ _ at w.if-r.false c.loop-r.invariant)
    ]

pub returns : goal.returns
returns c = all_starts c.args.o.now c.args.ranges.now c.loop-r.r-index _ c.requires.ranges (omega arith) c.loop-r.invariant
