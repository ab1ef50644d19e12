use Rattle.std.proofs.Common.{◌∙◌}
use Rattle.store_soundness.proofs.KeyLemmas.{account_tested}
use Rattle.store_soundness.proofs.places.is_account.Goals as goal

pub returns : goal.returns
returns c = c.is_same.ensures ∙ account_tested c.args.who.now c.args.other.now
