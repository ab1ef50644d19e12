use Rattle.mod_unbonding.proofs.ItemLemmas.{unbonding-rowed}
use Rattle.mod_unbonding.proofs.items.UnbondingKindAsItem.told.Goals as goal

pub returns : goal.returns
returns c = unbonding-rowed
