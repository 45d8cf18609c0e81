use Rattle.emit_object.proofs.ItemFacts.{word_past, word_other, word_first}
use Rattle.emit_object.proofs.first_items.first_word.Goals as goal

pub returns-then-k-words : goal.returns-then-k-words
returns-then-k-words c =
    word_past c.args.f.now c.args.l.now c.args.section c.args.offset c.word_from-k.result c.requires.words c.requires.count c.words-words.result.now c.words-words.ensures c.word_from-k.ensures c.if-k-words.true

pub returns-then-w-section : goal.returns-then-w-section
returns-then-w-section c =
    word_other c.args.f.now c.args.l.now c.args.section c.args.offset c.word_from-k.result c.requires.words c.requires.count c.words-words.result.now c.words-words.ensures c.word_from-k.ensures _ c.if-k-words.false c.if-w-section.true

pub returns : goal.returns
returns c =
    word_first c.args.f.now c.args.l.now c.args.section c.args.offset c.word_from-k.result c.requires.words c.requires.count c.words-words.result.now c.words-words.ensures c.word_from-k.ensures _ c.if-k-words.false
    c.words-places.result.now c.words-places.ensures c.if-w-section.false
