use Rattle.store_resuming.proofs.RestoreLemmas.{ordered_chain}
use Rattle.store_resuming.proofs.restoring.chain_of_rows.Goals as goal

pub returns-in-Ok-clause-chain : goal.returns-in-Ok-clause-chain
returns-in-Ok-clause-chain c = ordered_chain _ _ c.in-Ok.chain c.in-Ok.ensures.chain
