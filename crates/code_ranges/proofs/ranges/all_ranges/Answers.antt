use Rattle.std.proofs.Common.{◌≡◌, IfOk, List, Result, Ok, Err}
use Rattle.code_ranges.specs.declared.spans.Span.{Span}
use Rattle.code_ranges.specs.AllRanges.{AreAllRanges}
use Rattle.code_ranges.specs.Spans.{spans_from}
use Rattle.code_ranges.proofs.RangeFacts.{spans_made, all_ranges_are}
use Rattle.code_ranges.proofs.ranges.all_ranges.Goals as goal

pub returns : goal.returns
returns c = go c.spans_of.result (λ spans. spans.items) c.spans_of.ensures
  where
    go : {V E : Type 0} (r : Result V E) (items : V → List Span) → IfOk r (λ v. items v ≡ spans_from c.sections.result.now c.deref.result.now) → IfOk r (λ v. AreAllRanges c.args.o.now (items v))
    go (Ok v) items h = all_ranges_are c.args.o.now (items v)
        (spans_made c.args.o.now c.symbols.result.now c.sections.result.now c.in_ok-starts.starts c.in_ok-marks.marks.items c.deref.result.now (items v) c.sound.ensures c.symbols.ensures
        c.in_ok-starts.ensures c.in_ok-marks.ensures.ordered c.in_ok-marks.ensures.marks c.sections.ensures c.deref.ensures.value h)
    go (Err e) items h = h
