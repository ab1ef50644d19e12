use Rattle.std.proofs.Common.{◌∙◌}
use Rattle.store_soundness.proofs.BackingLemmas.{delegated}
use Rattle.store_soundness.proofs.shares.have_shares.Goals as goal

pub returns : goal.returns
returns c = c.have_totals.ensures ∙ delegated c.args.delegations.now.entries c.args.validators.now.entries _ c.in_ok-totals.ensures
