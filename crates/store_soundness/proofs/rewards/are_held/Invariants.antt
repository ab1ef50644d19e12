use Rattle.std.proofs.Common.{◌≡◌, drop, map}
use Rattle.base_types.specs.Orders.{denom_cmp}
use Rattle.base_coins.specs.declared.coin.DecCoin.{DecCoin}
use Rattle.base_roles.specs.Entries.{number_at}
use Rattle.store_soundness.specs.Accounts.{are_held}
use Rattle.store_soundness.proofs.rewards.are_held.Given as goal

abbrev pub invariant-loop-coin : goal.invariant-loop-coin
invariant-loop-coin l =
    are_held l.balances.entries (number_at denom_cmp l.owed.entries) (map (λ (c : DecCoin). (c.denom, c.amount)) (drop l.coin-index l.coin-items))
    ≡ are_held l.balances.entries (number_at denom_cmp l.owed.entries) l.coins
