use Rattle.store_resuming.proofs.RestoreLemmas.{loaded_chain}
use Rattle.store_resuming.proofs.restoring.restore.Goals as goal

pub returns-in-Ok-chain_told-clause-chain : goal.returns-in-Ok-chain_told-clause-chain
returns-in-Ok-chain_told-clause-chain g c =
    let told = rw c.deref.ensures.value at c.in-Ok-chain_told.ensures.chain in
    loaded_chain _ _ _ _ c.in-Ok.ensures.rows c.load_rows.ensures.ascending c.in-Ok.ensures.told _ _ told

pub returns-in-Ok-chain_told-clause-unkept : goal.returns-in-Ok-chain_told-clause-unkept
returns-in-Ok-chain_told-clause-unkept g c = λ off. absurd (c.in-Ok.ensures.unkept off)
