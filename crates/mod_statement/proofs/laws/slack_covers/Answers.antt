use Rattle.mod_statement.proofs.Listing as listing
use Rattle.mod_statement.proofs.laws.slack_covers.Goals as goal

pub returns : goal.returns
returns c = listing.slack_covers
