use Rattle.std.proofs.Common.{◌≡◌, drop, map}
use Rattle.base_coins.specs.declared.coin.DecCoin.{DecCoin}
use Rattle.rule_modules.specs.Sound.{names_in}
use Rattle.store_soundness.specs.Ranges.{with_names}
use Rattle.store_soundness.proofs.names.add_coins.Given as goal

abbrev pub invariant-loop-coin : goal.invariant-loop-coin
invariant-loop-coin l = with_names l.names.keys (names_in (map (λ (c : DecCoin). (c.denom, c.amount)) (drop l.coin-index l.coin-items))) ≡ with_names l.fn.names.keys (names_in l.coins)
