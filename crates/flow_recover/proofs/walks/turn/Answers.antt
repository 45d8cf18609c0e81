use Rattle.std.proofs.Common.{refl}
use Rattle.flow_recover.proofs.WalkFacts.{turned}
use Rattle.flow_recover.proofs.walks.turn.Goals as goal

pub returns : goal.returns
returns c = turned c.args.o.now c.args.n c.args.walk.now c.go_on-next.new.walk _ c.go_on-next.result c.sound.ensures c.requires.within c.go_on-next.ensures refl refl refl c.in_ok-insert.ensures.updates.0
