use Rattle.std.proofs.Common.{Ok, Err}
use Rattle.code_ranges.proofs.PlaceOrder.{place_total, place_exact}
use Rattle.flow_recover.proofs.Searches.{searched}
use Rattle.flow_recover.proofs.indexes.place_index.Goals as goal

pub returns-in-Ok : goal.returns-in-Ok
returns-in-Ok c = searched place_total place_exact c.args.places.now c.requires.order c.args.place (Ok c.in-Ok.q) c.in-Ok.ensures.bound c.in-Ok.ensures.position

pub returns-in-Err : goal.returns-in-Err
returns-in-Err c = searched place_total place_exact c.args.places.now c.requires.order c.args.place (Err c.in-Err.field-0) c.in-Err.ensures.bound c.in-Err.ensures.position
