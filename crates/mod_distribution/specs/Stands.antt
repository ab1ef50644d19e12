-- How the records that distribution keeps stand for plain ones, of which no ratio is ever deleted.
use Rattle.std.specs.Prelude.{◌≡◌}
use Rattle.rule_modules.specs.Distribution.{Shared}
use Rattle.mod_periods.specs.Stands.{KeepsRewards}
use Rattle.mod_distribution.specs.Kept.{KeptShared}

-- The records that are kept stand for plain ones: of ended periods exactly those have a record to which something refers;
-- all other records are the same. So they stand for several plain ones, which agree on all that is owed, on heights
-- and on slash events.
pub record KeepsShared (k : KeptShared) (d : Shared) : Type 0 where
  pub rewards : KeepsRewards k.rewards d.rewards
  pub purses : k.purses ≡ d.purses
  pub withdraw : k.withdraw ≡ d.withdraw
