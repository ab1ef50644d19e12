use Rattle.std.proofs.Common.{◌∙◌}
use Rattle.store_soundness.proofs.BackingLemmas.{supplied}
use Rattle.store_soundness.proofs.backing.are_supplies_sound.Goals as goal

pub returns : goal.returns
returns c = c.have_totals.ensures ∙ supplied c.args.balances.now.entries c.args.supplies.now.entries _ c.in_ok-totals.ensures
