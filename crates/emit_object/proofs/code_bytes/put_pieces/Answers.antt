use Rattle.emit_object.specs.CodeBytes.{contents_of}
use Rattle.emit_object.proofs.PutFacts.{fits_next, put_next}
use Rattle.emit_object.proofs.code_bytes.put_pieces.Goals as goal

pub put_piece-requires : goal.put_piece-requires
put_piece-requires c =
    fits_next c.args.pieces.now (contents_of c.args.all.now.items) (contents_of c.loop-p.all.items) c.requires c.loop-p.p-index c.p-item.result c.loop-p-test.true c.p-item.is c.loop-p.invariant

pub loop-p-preserved : goal.loop-p-preserved
loop-p-preserved c =
    put_next c.args.pieces.now (contents_of c.args.all.now.items) (contents_of c.loop-p.all.items) c.requires c.loop-p.p-index c.p-item.result c.loop-p-test.true c.p-item.is c.loop-p.invariant
    (contents_of c.put_piece.new.all.items) c.put_piece.ensures
