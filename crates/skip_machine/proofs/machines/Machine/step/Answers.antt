use Rattle.thumb_table.specs.CoreStates.{state_of}
use Rattle.skip_machine.proofs.Sizes.{move_keeps, still_sound}
use Rattle.skip_machine.proofs.machines.Machine.step.Goals as goal

pub invariant_of-self-in-Ok : goal.invariant_of-self-in-Ok
invariant_of-self-in-Ok c =
    let s = c.self.inside in
    let t = c.make_move.new in
    still_sound s.code s.memory t.m c.self.invariant (move_keeps s.code c.args.skipped (state_of s.core s.memory) (state_of t.s t.m) c.in-Ok.ensures.done)
