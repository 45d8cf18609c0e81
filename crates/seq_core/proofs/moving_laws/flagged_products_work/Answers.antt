use Rattle.seq_core.proofs.Copied.{flagged_product_is_done}
use Rattle.seq_core.proofs.moving_laws.flagged_products_work.Goals as goal

pub returns : goal.returns
returns c = flagged_product_is_done
