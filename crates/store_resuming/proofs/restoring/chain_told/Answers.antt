use Rattle.store_resuming.proofs.RestoreLemmas.{none_told_fault, refused}
use Rattle.store_resuming.proofs.restoring.chain_told.Goals as goal

pub returns-in-Err-clause-fault : goal.returns-in-Err-clause-fault
returns-in-Err-clause-fault c = refused _ c.in-Err.fault c.in-Err.ensures.fault c.in-Err.ensures.none

pub returns-in-Err-chain_of-clause-fault : goal.returns-in-Err-chain_of-clause-fault
returns-in-Err-chain_of-clause-fault c = none_told_fault c.in-Ok.format _ c.in-Err-chain_of.fault c.in-Ok.ensures.format c.in-Err-chain_of.ensures.fault
