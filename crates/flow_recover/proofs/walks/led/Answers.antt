use Rattle.flow_recover.proofs.WalkFacts.{leads_known}
use Rattle.flow_recover.proofs.walks.led.Goals as goal

pub returns : goal.returns
returns c =
    leads_known c.args.o.now c.args.v.now.node c.args.walk.now c.come_to.new.walk c.come_to-2.new.walk c.next_of-next.result c.aimed_of.result c.clear.result c.in_block.result c.requires.walk c.next_of-next.ensures c.aimed_of.ensures c.clear.ensures c.in_block.ensures c.come_to.ensures
    c.come_to-2.ensures
