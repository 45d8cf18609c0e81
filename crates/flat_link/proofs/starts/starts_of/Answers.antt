use Rattle.std.proofs.Common.{◌+◌, ℕ, sym, ◌∙◌, subst, arith, ap, length}
use Rattle.std.specs.Prelude.{slice_index_or}
use Rattle.std.specs.BTreeMap.{BTreeMap, get}
use Rattle.std.proofs.lemmas.Option.{slice_get-get_or}
use Rattle.elf_model.specs.declared.ranges.RangeKind.TheVariants.{Code}
use Rattle.code_ranges.specs.declared.spans.Span.{Span}
use Rattle.code_ranges.specs.Spans.{place_cmp}
use Rattle.flat_link.proofs.SpanTables.{StartsUpTo, bounded, more_starts, same_starts, all_starts}
use Rattle.flat_link.proofs.starts.starts_of.Goals as goal
use Rattle.flat_link.proofs.starts.starts_of.Goals.{then-is_thumb+in_ok-note_range, else-is_thumb}

pub note_range-requires-clause-in_bytes : goal.note_range-requires-clause-in_bytes
note_range-requires-clause-in_bytes c =
    let r : Span = slice_index_or c.args.spans.now c.loop-r.r-index (record { section = 0; start = 0; end = 0; kind = Code }) in
    let at = slice_get-get_or c.args.spans.now c.loop-r.r-index (record { section = 0; start = 0; end = 0; kind = Code }) c.loop-r-test.true in
    let b = bounded c.args.o.now c.args.spans.now c.loop-r.r-index r c.sound.ensures c.requires.within c.requires.ranges at in
    let same = ap length c.bytes_of.ensures in
    omega (arith, same, b)

pub note_range-requires-clause-small : goal.note_range-requires-clause-small
note_range-requires-clause-small c =
    let at = slice_get-get_or c.args.spans.now c.loop-r.r-index _ c.loop-r-test.true in
    (bounded c.args.o.now c.args.spans.now c.loop-r.r-index _ c.sound.ensures c.requires.within c.requires.ranges at).small

pub loop-r-preserved : goal.loop-r-preserved
loop-r-preserved c =
    let at = slice_get-get_or c.args.spans.now c.loop-r.r-index _ c.loop-r-test.true in
    let up = λ (m : BTreeMap (ℕ × ℕ) ℕ). StartsUpTo c.args.o.now c.args.spans.now (c.loop-r.r-index + 1) (λ j x. get place_cmp m (j, x)) in
    elim c.if-is_thumb.branch [
      | then-is_thumb+in_ok-note_range w ↦
          subst up (sym w.starts-is)
          (more_starts c.args.o.now c.args.spans.now c.loop-r.r-index _ w.bytes_of.result.now _ _ c.requires.ranges at (sym c.is_thumb.ensures ∙ w.if-is_thumb.true) w.bytes_of.ensures c.loop-r.invariant w.in_ok-note_range.ensures.noted w.in_ok-note_range.ensures.others)
      | else-is_thumb w ↦ subst up (sym w.starts-is) (same_starts c.args.o.now c.args.spans.now c.loop-r.r-index _ _ at (sym c.is_thumb.ensures ∙ w.if-is_thumb.false) c.loop-r.invariant)
    ]

pub returns : goal.returns
returns c = all_starts c.args.o.now c.args.spans.now c.loop-r.r-index _ c.requires.ranges (omega arith) c.loop-r.invariant
