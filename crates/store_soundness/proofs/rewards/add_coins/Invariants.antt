use Rattle.std.proofs.Common.{◌≡◌, drop, map}
use Rattle.base_coins.specs.declared.coin.DecCoin.{DecCoin}
use Rattle.store_soundness.specs.Accounts.{coin_totals}
use Rattle.store_soundness.proofs.rewards.add_coins.Given as goal

abbrev pub invariant-loop-coin : goal.invariant-loop-coin
invariant-loop-coin l = coin_totals (map (λ (c : DecCoin). (c.denom, c.amount)) (drop l.coin-index l.coin-items)) l.owed.entries ≡ coin_totals l.coins l.fn.owed.entries
