use Rattle.thumb_instr.proofs.Members.{has_member}
use Rattle.thumb_instr.proofs.register_sets.RegSet.members.Goals as goal

pub returns : goal.returns
returns c = λ k. has_member c.args.self.0 k
