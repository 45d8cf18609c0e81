use Rattle.hardened_form.proofs.FirstRowForm.{first_row}
use Rattle.hardened_form.proofs.laws.first_row_has_its_form.Goals as goal

pub returns : goal.returns
returns c = first_row
