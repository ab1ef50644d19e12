use Rattle.mod_staking.proofs.ListedLemmas.{bonded_placed}
use Rattle.mod_staking.proofs.places.BondedListing.told.Goals as goal

pub returns : goal.returns
returns c = bonded_placed
