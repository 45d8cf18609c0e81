use Rattle.seq_stack.proofs.MovedLists.{moved_lists_work}
use Rattle.seq_stack.proofs.laws.moved_lists_work.Goals as goal

pub returns : goal.returns
returns c = moved_lists_work (record {
  apart = c.decodes_are_apart.ensures.apart;
  formed = c.decodes_are_formed.ensures;
  constants = c.moves_are_constants.ensures;
  down = c.lists_downwards_work.ensures;
  up = c.lists_upwards_work.ensures;
  plain = c.plain_steps_do.ensures;
  moves = c.made_steps_are_coded.ensures.moves;
  sums = c.made_steps_are_coded.ensures.sums;
  transfers = c.made_steps_are_coded.ensures.transfers;
})
