use Rattle.std.proofs.Common.{◌∙◌}
use Rattle.store_soundness.proofs.KeyLemmas.{balance_read}
use Rattle.store_soundness.proofs.places.balance_of.Goals as goal

pub returns : goal.returns
returns c = c.number_of.ensures ∙ balance_read c.args.balances.now.entries c.args.place.now
