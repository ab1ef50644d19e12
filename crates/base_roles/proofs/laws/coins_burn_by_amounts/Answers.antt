use Rattle.base_roles.proofs.BurnLemmas.{burns_by_amounts, burns_lower_supplies}
use Rattle.base_roles.proofs.laws.coins_burn_by_amounts.Goals as goal

pub returns : goal.returns
returns c = record { amounts = burns_by_amounts; supplies = burns_lower_supplies }
