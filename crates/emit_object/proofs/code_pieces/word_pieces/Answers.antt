use Rattle.emit_object.proofs.WordPieces.{words_more, words_all}
use Rattle.emit_object.proofs.code_pieces.word_pieces.Goals as goal

pub loop-k-preserved : goal.loop-k-preserved
loop-k-preserved c =
    words_more c.args.o.now c.args.words.now c.args.places.now c.requires.count c.loop-k.k c.loop-k.pieces.items c.loop-k.invariant _ c.in_ok-word_piece.field-0 c.push.new.self.items c.loop-k-test.true c.in_ok-word_piece.ensures
    c.in_ok-push.ensures.items

pub returns : goal.returns
returns c = words_all c.args.o.now c.args.words.now c.args.places.now c.requires.count c.loop-k.k c.loop-k.pieces.items c.loop-k.invariant c.loop-k-test.false
