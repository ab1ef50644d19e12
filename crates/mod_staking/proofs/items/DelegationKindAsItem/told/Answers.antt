use Rattle.mod_staking.proofs.ItemLemmas.{delegation-rowed}
use Rattle.mod_staking.proofs.items.DelegationKindAsItem.told.Goals as goal

pub returns : goal.returns
returns c = delegation-rowed
