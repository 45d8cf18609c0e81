use Rattle.hardened_form.proofs.CallRowForm.{call_row}
use Rattle.hardened_form.proofs.laws.call_row_has_its_form.Goals as goal

pub returns : goal.returns
returns c = call_row
