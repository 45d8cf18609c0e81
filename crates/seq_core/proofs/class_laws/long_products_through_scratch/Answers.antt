use Rattle.seq_core.proofs.Products.{long_product_is_done}
use Rattle.seq_core.proofs.class_laws.long_products_through_scratch.Goals as goal

pub returns : goal.returns
returns c = long_product_is_done
