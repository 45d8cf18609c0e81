use Rattle.seq_stack.proofs.Stepped.{stack_steps_work}
use Rattle.seq_stack.proofs.laws.stack_steps_work.Goals as goal

pub returns : goal.returns
returns c = stack_steps_work (record {
  formed = c.decodes_are_formed.ensures;
  stack = c.decodes_use_stack.ensures;
  flags = c.decodes_keep_flags.ensures;
  through = c.decodes_through_scratch.ensures;
  plain = c.plain_steps_do.ensures;
  rows = c.full_codes_are_rows.ensures;
  moves = c.made_steps_are_coded.ensures.moves;
})
