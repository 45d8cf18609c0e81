use Rattle.hardened_form.proofs.AlikeForms.{forms_alike}
use Rattle.hardened_form.proofs.laws.forms_differ_in_code_alone.Goals as goal

pub returns : goal.returns
returns c = forms_alike
