use Rattle.std.proofs.Common.{refl}
use Rattle.flow_recover.proofs.PointFacts.{is_point_wide}
use Rattle.flow_recover.proofs.points.point_of.Goals as goal

pub returns : goal.returns
returns c = record {
  section = refl;
  offset = refl;
  wide = is_point_wide c.args.o.now c.args.v.now.node c.args.v.now.behind c.requires.visit.behind;
  instr = c.requires.visit.found;
  cond = c.block_condition.ensures;
  exit = c.exit_of.ensures;
  next = c.next_index.ensures;
  reloc = c.reloc_of.ensures c.args.o.now c.requires.chart;
  word = c.loaded_word.ensures;
}
