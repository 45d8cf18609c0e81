use Rattle.hardened_form.proofs.OneList.{items_once, rows_once}
use Rattle.hardened_form.proofs.laws.rows_and_items_are_one_list.Goals as goal

pub returns-clause-rows : goal.returns-clause-rows
returns-clause-rows c = rows_once

pub returns-clause-items : goal.returns-clause-items
returns-clause-items c = items_once
