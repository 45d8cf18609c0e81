use Rattle.std.proofs.Common.{Ok, Err}
use Rattle.flow_recover.proofs.NodeOrder.{node_total, node_exact}
use Rattle.flow_recover.proofs.Searches.{searched}
use Rattle.flow_recover.proofs.indexes.node_index.Goals as goal

pub returns-in-Ok : goal.returns-in-Ok
returns-in-Ok c = searched node_total node_exact c.args.nodes.now c.requires.order c.args.n (Ok c.in-Ok.q) c.in-Ok.ensures.bound c.in-Ok.ensures.position

pub returns-in-Err : goal.returns-in-Err
returns-in-Err c = searched node_total node_exact c.args.nodes.now c.requires.order c.args.n (Err c.in-Err.field-0) c.in-Err.ensures.bound c.in-Err.ensures.position
