use Rattle.std.proofs.Common.{◌≡◌}
use Rattle.mod_staking.specs.Items.{is_stake, items_of}
use Rattle.store_loading.proofs.HoldLemmas.{Holding}
use Rattle.store_loading.proofs.loading.put_stakes.Given as goal

abbrev pub invariant-loop-item : goal.invariant-loop-item
invariant-loop-item g l =
    Holding is_stake l.items l.item-index (items_of l.staking.staked)
    × (l.staking.marks ≡ l.initial.staking.marks)
    × (l.staking.spent ≡ l.initial.staking.spent)
    × (l.staking.power_reduction ≡ l.initial.staking.power_reduction)
