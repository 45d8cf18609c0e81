use Rattle.hardened_form.proofs.TargetRowForm.{target_row}
use Rattle.hardened_form.proofs.laws.target_row_reads.Goals as goal

pub returns : goal.returns
returns c = target_row
