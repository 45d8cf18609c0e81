use Rattle.std.proofs.Common.{◌∙◌, sym}
use Rattle.sim_relation.proofs.SameTests.{cell_is, cell_from}
use Rattle.sim_relation.proofs.sameness.is_same_cell.Goals as goal

pub returns : goal.returns
returns c = (
  λ e. cell_is c.args.map.now c.args.plain c.args.hard c.valid.ensures (sym c.has_same_byte.ensures ∙ e),
  λ s. c.has_same_byte.ensures ∙ cell_from c.args.map.now c.args.plain c.args.hard c.valid.ensures s,
)
