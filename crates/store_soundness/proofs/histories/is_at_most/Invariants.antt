use Rattle.std.proofs.Common.{◌≡◌, drop, map}
use Rattle.base_coins.specs.declared.coin.DecCoin.{DecCoin}
use Rattle.store_soundness.specs.Histories.{is_at_most}
use Rattle.store_soundness.proofs.histories.is_at_most.Given as goal

abbrev pub invariant-loop-coin : goal.invariant-loop-coin
invariant-loop-coin l = is_at_most (map (λ (c : DecCoin). (c.denom, c.amount)) (drop l.coin-index l.coin-items)) l.others ≡ is_at_most l.coins l.others
