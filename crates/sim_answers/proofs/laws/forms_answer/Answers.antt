use Rattle.sim_answers.proofs.FormsAnswer.{forms_answer}
use Rattle.sim_answers.proofs.laws.forms_answer.Goals as goal

pub returns : goal.returns
returns c = forms_answer
