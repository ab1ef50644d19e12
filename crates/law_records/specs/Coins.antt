-- What coins of records are by their types: lists of coins.
use Rattle.std.specs.Prelude.{All}
use Rattle.base_coins.specs.Coins.{IsMoney}
use Rattle.rule_modules.specs.Sound.{PurseIsSound}
use Rattle.store_records.specs.Plain.{PlainSeen}

-- the community pool, purses and the ratios of ended periods are lists of coins
pub record AreCoins (r : PlainSeen) : Type 0 where
  pub pool : IsMoney r.pool
  pub purses : All (λ e. PurseIsSound e.1) r.lists.shared.purses
  pub ratios : All (λ h. IsMoney h.1.ratio) r.lists.shared.histories
