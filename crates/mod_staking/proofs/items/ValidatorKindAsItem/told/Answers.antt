use Rattle.mod_staking.proofs.ItemLemmas.{validator-rowed}
use Rattle.mod_staking.proofs.items.ValidatorKindAsItem.told.Goals as goal

pub returns : goal.returns
returns c = validator-rowed
