use Rattle.seq_core.proofs.Products.{high_product_is_done}
use Rattle.seq_core.proofs.class_laws.high_words_through_scratch.Goals as goal

pub returns : goal.returns
returns c = high_product_is_done
