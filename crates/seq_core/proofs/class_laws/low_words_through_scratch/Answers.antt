use Rattle.seq_core.proofs.Products.{low_product_is_done}
use Rattle.seq_core.proofs.class_laws.low_words_through_scratch.Goals as goal

pub returns : goal.returns
returns c = low_product_is_done
