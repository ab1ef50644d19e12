use Rattle.store_rows.proofs.{KeyLemmas.keys_one_to_one, OrderLemmas.keys_order}
use Rattle.store_rows.proofs.WholeLemmas.{item_again, one_to_one, key_alone}
use Rattle.store_rows.proofs.laws.rows_are_one_to_one.Goals as goal

pub returns-clause-rows : goal.returns-clause-rows
returns-clause-rows c = one_to_one

pub returns-clause-keys : goal.returns-clause-keys
returns-clause-keys c = keys_one_to_one

pub returns-clause-alone : goal.returns-clause-alone
returns-clause-alone c = key_alone

pub returns-clause-back : goal.returns-clause-back
returns-clause-back c = item_again

pub returns-clause-order : goal.returns-clause-order
returns-clause-order c = keys_order
