use Rattle.std.proofs.Common.{sym, ◌∙◌}
use Rattle.emit_object.proofs.KeptFacts.{turned_cleared, straight_cleared}
use Rattle.emit_object.proofs.kept_bytes.clear_turned.Goals as goal

pub returns-then-is_turned : goal.returns-then-is_turned
returns-then-is_turned c = turned_cleared c.args.o.now c.args.r.now c.args.all.now.items c.clear_in.new.all.items (sym c.is_turned.ensures ∙ c.if-is_turned.true) c.clear_in.ensures

pub returns-else-is_turned : goal.returns-else-is_turned
returns-else-is_turned c = straight_cleared c.args.o.now c.args.r.now c.args.all.now.items (sym c.is_turned.ensures ∙ c.if-is_turned.false)
