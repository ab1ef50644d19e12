use Rattle.std.proofs.Common.{◌^◌, ◌<◌, List, subst}
use Rattle.base_messages.specs.declared.genesis.GenesisDelegation.{GenesisDelegation}
use Rattle.chain_whole.proofs.DelegatedLemmas.{amounts, high_delegated}
use Rattle.chain_whole.proofs.supplies.supplies_at_start.Goals as goal

pub returns-in-None : goal.returns-in-None
returns-in-None c = high_delegated c.args.genesis.now (subst (λ (l : List GenesisDelegation). 10 ^ 18 < amounts l) c.as_slice-delegations.ensures c.in-None.ensures)
