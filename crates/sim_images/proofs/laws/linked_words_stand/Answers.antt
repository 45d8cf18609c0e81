use Rattle.sim_images.proofs.Words.{word_linked}
use Rattle.sim_images.proofs.laws.linked_words_stand.Goals as goal

pub returns : goal.returns
returns c = word_linked
