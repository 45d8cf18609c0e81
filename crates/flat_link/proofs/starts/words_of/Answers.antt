use Rattle.std.proofs.Common.{◌+◌, ℕ, sym, ◌∙◌, subst, arith}
use Rattle.std.specs.BTreeSet.{BTreeSet, contains}
use Rattle.std.proofs.lemmas.Option.{slice_get-get_or}
use Rattle.code_ranges.specs.Spans.{place_cmp}
use Rattle.flat_link.proofs.SpanTables.{WordsUpTo, bounded, more_words, same_words, all_words}
use Rattle.flat_link.proofs.starts.words_of.Goals as goal
use Rattle.flat_link.proofs.starts.words_of.Goals.{then-is_data+in_ok-note_words, else-is_data}

pub note_words-requires-clause-small : goal.note_words-requires-clause-small
note_words-requires-clause-small c =
    let at = slice_get-get_or c.args.spans.now c.loop-r.r-index _ c.loop-r-test.true in
    (bounded c.args.o.now c.args.spans.now c.loop-r.r-index _ c.sound.ensures c.requires.within c.requires.ranges at).small

pub note_words-requires-clause-has_bytes : goal.note_words-requires-clause-has_bytes
note_words-requires-clause-has_bytes c =
    let at = slice_get-get_or c.args.spans.now c.loop-r.r-index _ c.loop-r-test.true in
    (bounded c.args.o.now c.args.spans.now c.loop-r.r-index _ c.sound.ensures c.requires.within c.requires.ranges at).has_bytes

pub loop-r-preserved : goal.loop-r-preserved
loop-r-preserved c =
    let at = slice_get-get_or c.args.spans.now c.loop-r.r-index _ c.loop-r-test.true in
    let up = λ (m : BTreeSet (ℕ × ℕ)). WordsUpTo c.args.o.now c.args.spans.now (c.loop-r.r-index + 1) (λ j x. contains place_cmp m (j, x)) in
    elim c.if-is_data.branch [
      | then-is_data+in_ok-note_words w ↦
          subst up (sym w.words-is)
          (more_words c.args.o.now c.args.spans.now c.loop-r.r-index _ _ _ c.requires.ranges at (sym c.is_data.ensures ∙ w.if-is_data.true) c.loop-r.invariant w.in_ok-note_words.ensures.noted w.in_ok-note_words.ensures.others)
      | else-is_data w ↦ subst up (sym w.words-is) (same_words c.args.o.now c.args.spans.now c.loop-r.r-index _ _ at (sym c.is_data.ensures ∙ w.if-is_data.false) c.loop-r.invariant)
    ]

pub returns : goal.returns
returns c = all_words c.args.o.now c.args.spans.now c.loop-r.r-index _ c.requires.ranges (omega arith) c.loop-r.invariant
