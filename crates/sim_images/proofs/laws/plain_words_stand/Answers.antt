use Rattle.sim_images.proofs.PlainWords.{word_as_is}
use Rattle.sim_images.proofs.laws.plain_words_stand.Goals as goal

pub returns : goal.returns
returns c = word_as_is
