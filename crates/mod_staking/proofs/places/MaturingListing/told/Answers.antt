use Rattle.mod_staking.proofs.ListedLemmas.{maturing_placed}
use Rattle.mod_staking.proofs.places.MaturingListing.told.Goals as goal

pub returns : goal.returns
returns c = maturing_placed
