use Rattle.std.proofs.Common.{arith}
use Rattle.store_rows.proofs.WholeLemmas.{is_alone, is_found, is_refused}
use Rattle.store_rows.proofs.rows.item_found.Goals as goal

pub returns-clause-found : goal.returns-clause-found
returns-clause-found c = is_found c.args.format c.args.key.now c.args.value.now c.item_of.result (λ i. omega (arith, c.type_inv.key i)) (λ i. omega (arith, c.type_inv.value i)) c.item_of.ensures

pub returns-clause-alone : goal.returns-clause-alone
returns-clause-alone c = is_alone c.args.format c.args.key.now c.args.value.now c.item_of.result c.item_of.ensures

pub returns-clause-only : goal.returns-clause-only
returns-clause-only c = is_refused c.args.format c.args.key.now c.args.value.now c.item_of.result c.item_of.ensures
