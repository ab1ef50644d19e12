use Rattle.mod_staking.proofs.ListedLemmas.{power_placed}
use Rattle.mod_staking.proofs.places.ByPowerListing.told.Goals as goal

pub returns : goal.returns
returns c = power_placed
