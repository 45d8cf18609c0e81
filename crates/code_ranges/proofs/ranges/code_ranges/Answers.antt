use Rattle.std.proofs.Common.{◌≡◌, List, sym, ap, subst, ◌∙◌, map, Some}
use Rattle.elf_model.specs.declared.refusals.Spot.{Spot}
use Rattle.code_ranges.specs.declared.ranges.Range.{Range}
use Rattle.code_ranges.specs.declared.spans.Span.{Span}
use Rattle.code_ranges.specs.CodeRanges.{AreRanges}
use Rattle.code_ranges.specs.Spans.{range_of}
use Rattle.code_ranges.specs.Spots.{IsFirst}
use Rattle.code_ranges.proofs.RangeFacts.{AreSpans, all_spots, spans_made, spots_made, refusal_is, ranges_are}
use Rattle.code_ranges.proofs.ranges.code_ranges.Goals as goal

pub returns-in-Some-clause-refused : goal.returns-in-Some-clause-refused
returns-in-Some-clause-refused c =
    let found : AreSpans c.args.o.now c.in_ok-spans.spans.items =
    spans_made c.args.o.now c.symbols.result.now c.sections.result.now c.in_ok-starts.starts c.in_ok-marks.marks.items c.deref.result.now c.in_ok-spans.spans.items c.sound.ensures c.symbols.ensures
    c.in_ok-starts.ensures c.in_ok-marks.ensures.ordered c.in_ok-marks.ensures.marks c.sections.ensures c.deref.ensures.value c.in_ok-spans.ensures in
    let listed : c.deref-3.result.now ≡ all_spots c.args.o.now c.in_ok-spans.spans.items =
    spots_made c.args.o.now c.symbols-2.result.now c.sections-2.result.now c.in_ok-spans.spans.items c.deref-2.result.now c.in_ok-spots.spots.items c.deref-3.result.now c.symbols-2.ensures c.sections-2.ensures
    c.deref-2.ensures.value c.in_ok-spots.ensures c.deref-3.ensures.value in
    refusal_is c.args.o.now c.in_ok-spans.spans.items found c.in-Some.spot (subst (λ (l : List Spot). IsFirst l (Some c.in-Some.spot)) listed c.in-Some.ensures)

pub returns-clause-ranges : goal.returns-clause-ranges
returns-clause-ranges c =
    let found : AreSpans c.args.o.now c.in_ok-spans.spans.items =
    spans_made c.args.o.now c.symbols.result.now c.sections.result.now c.in_ok-starts.starts c.in_ok-marks.marks.items c.deref.result.now c.in_ok-spans.spans.items c.sound.ensures c.symbols.ensures
    c.in_ok-starts.ensures c.in_ok-marks.ensures.ordered c.in_ok-marks.ensures.marks c.sections.ensures c.deref.ensures.value c.in_ok-spans.ensures in
    let listed : c.deref-3.result.now ≡ all_spots c.args.o.now c.in_ok-spans.spans.items =
    spots_made c.args.o.now c.symbols-2.result.now c.sections-2.result.now c.in_ok-spans.spans.items c.deref-2.result.now c.in_ok-spots.spots.items c.deref-3.result.now c.symbols-2.ensures c.sections-2.ensures
    c.deref-2.ensures.value c.in_ok-spots.ensures c.deref-3.ensures.value in
    let made : map range_of c.in_ok-spans.spans.items ≡ c.in_ok-ranges_of-in-None.field-0.items =
    sym (c.in_ok-ranges_of-in-None.ensures ∙ ap (λ (l : List Span). map range_of l) c.deref-in-None.ensures.value) in
    subst (λ (l : List Range). AreRanges c.args.o.now l) made (ranges_are c.args.o.now c.in_ok-spans.spans.items found (sym listed ∙ c.in-None.ensures))
