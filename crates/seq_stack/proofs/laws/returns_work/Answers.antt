use Rattle.seq_stack.proofs.Popped.{returns_work}
use Rattle.seq_stack.proofs.laws.returns_work.Goals as goal

pub returns : goal.returns
returns c = returns_work (record {
  formed = c.decodes_are_formed.ensures;
  stack = c.decodes_use_stack.ensures;
  constants = c.moves_are_constants.ensures;
  pop = c.pops_into_pc_work.ensures;
  more = c.more_may_be_lost.ensures;
  steps = c.steps_do.ensures;
  moves = c.made_steps_are_coded.ensures.moves;
  sums = c.made_steps_are_coded.ensures.sums;
  transfers = c.made_steps_are_coded.ensures.transfers;
})
