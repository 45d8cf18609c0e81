use Rattle.std.proofs.Common.{◌+◌, ◌∷◌, [], List, drop, get_or, subst, arith}
use Rattle.std.proofs.lemmas.List.{drop_more, drop_all}
use Rattle.elf_model.specs.declared.ranges.RangeKind.TheVariants.{Code}
use Rattle.code_ranges.specs.declared.spans.Span.{Span}
use Rattle.listing.proofs.Ahead.{IsListedTo, listed_to_next, listed_to_end}
use Rattle.listing.proofs.contents.push_contents.Goals as goal

abbrev no_span : Span
no_span = record { section = 0; start = 0; end = 0; kind = Code }

pub loop-s-preserved : goal.loop-s-preserved
loop-s-preserved c =
    let spans : List Span = c.args.spans.now in
    let h : IsListedTo c.args.bytes.now spans c.loop-s.at c.loop-s.it (get_or spans c.loop-s.s-index no_span ∷ drop (c.loop-s.s-index + 1) spans) c.args.text.now.items c.loop-s.text.items =
    subst (λ (l : List Span). IsListedTo c.args.bytes.now spans c.loop-s.at c.loop-s.it l c.args.text.now.items c.loop-s.text.items)
    (drop_more spans c.loop-s.s-index no_span c.loop-s-test.true) c.loop-s.invariant in
    listed_to_next c.args.bytes.now spans c.loop-s.at c.loop-s.it _ c.in_ok-it-2.it (get_or spans c.loop-s.s-index no_span) (drop (c.loop-s.s-index + 1) spans) _ _ _ _
    h c.in_ok-it.ensures c.in_ok-it-2.ensures

pub returns : goal.returns
returns c =
    let spans : List Span = c.args.spans.now in
    let h : IsListedTo c.args.bytes.now spans c.loop-s.at c.loop-s.it [] c.args.text.now.items c.loop-s.text.items =
    subst (λ (l : List Span). IsListedTo c.args.bytes.now spans c.loop-s.at c.loop-s.it l c.args.text.now.items c.loop-s.text.items)
    (drop_all c.loop-s.s-index spans (omega arith)) c.loop-s.invariant in
    listed_to_end c.args.bytes.now spans c.loop-s.at c.loop-s.it c.in_ok-push_gap.field-0 _ _ _ h c.in_ok-push_gap.ensures
