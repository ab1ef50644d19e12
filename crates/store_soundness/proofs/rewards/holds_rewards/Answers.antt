use Rattle.std.proofs.Common.{◌∙◌}
use Rattle.store_soundness.proofs.AccountLemmas.{owed_alike}
use Rattle.store_soundness.proofs.rewards.holds_rewards.Goals as goal

pub returns : goal.returns
returns c =
    let r = c.args.records.now in
    c.holds_owed.ensures ∙ owed_alike r.lists.balances.entries r.lists.shared.purses.entries r.pool _ c.in_ok-owed.ensures
