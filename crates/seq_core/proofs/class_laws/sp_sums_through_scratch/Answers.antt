use Rattle.seq_core.proofs.Halves.{sp_sum_is_done}
use Rattle.seq_core.proofs.class_laws.sp_sums_through_scratch.Goals as goal

pub returns : goal.returns
returns c = sp_sum_is_done
