-- What a reward reads of the kept records.
use Rattle.std.specs.Prelude.{◌≡◌, ℕ, ◌^◌, ◌≤◌, ◌==◌, if◌then◌else◌, true, nat_le, List, [], All, AllPairs, filter, Some, is_some, Result}
use Rattle.base_decimals.specs.declared.over.Over.{Over}
use Rattle.base_coins.specs.Coins.{Money, IsMoney, amount_of, coins_added, coins_taken, coins_mul_cut}
use Rattle.base_roles.specs.declared.entities.Historical.{Historical}
use Rattle.base_roles.specs.declared.entities.StartingInfo.{StartingInfo}
use Rattle.base_roles.specs.declared.entities.SlashEvent.{SlashEvent}
use Rattle.base_roles.specs.Flow.{◌>>=◌}
use Rattle.rule_modules.specs.Periods.{earned, stretches_of}
use Rattle.mod_periods.specs.Kept.{Kept, record_of, events_of}
use Rattle.mod_periods.specs.Steps.{ratio_of}

-- the events that are not below a height
abbrev pub events_since : ℕ → List SlashEvent → List SlashEvent
events_since height events = filter (λ e. nat_le height e.height) events

-- the ratios that a reward reads: this one of the period up to which it goes, and those of the records
abbrev pub ratios_with : Kept → List ℕ → ℕ → Money → ℕ → Money
ratios_with k operator ending ratio period = if period == ending then ratio else ratio_of k operator period

-- what a start earns up to a period with this ratio
abbrev pub kept_reward : Kept → List ℕ → StartingInfo → ℕ → Money → ℕ → Result Money Over
kept_reward k operator s ending ratio value = earned (ratios_with k operator ending ratio) (stretches_of s (events_of k operator) ending value) []

-- a total with what one stretch gives: the growth of the ratio times the stake, cut
abbrev pub stretch_added : Money → Money → Money → ℕ → Result Money Over
stretch_added total begin end stake = do
  part ← coins_mul_cut (coins_taken end begin) stake
  coins_added total part

-- What a reward needs of the records that it reads: they stand, in the order of the periods, and their ratios do not fall.
pub record CanEarn (k : Kept) (operator : List ℕ) (s : StartingInfo) (ending : ℕ) (ratio : Money) : Type 0 where
  pub start : is_some (record_of k operator s.period) ≡ true
  pub events : All (λ e. is_some (record_of k operator e.period) ≡ true) (events_of k operator)
  pub fractions : All (λ e. e.fraction ≤ 10 ^ 18) (events_of k operator)
  pub ascend : AllPairs (λ a b. a.period ≤ b.period) (events_of k operator)
  pub coins : (a : ℕ) (x : Historical) → record_of k operator a ≡ Some x → IsMoney x.ratio
  pub rise : (a b : ℕ) (x y : Historical) → a ≤ b → record_of k operator a ≡ Some x → record_of k operator b ≡ Some y → (denom : List ℕ) → amount_of x.ratio denom ≤ amount_of y.ratio denom
  pub last : (a : ℕ) (x : Historical) → record_of k operator a ≡ Some x → (denom : List ℕ) → amount_of x.ratio denom ≤ amount_of ratio denom
  pub same : (x : Historical) → record_of k operator ending ≡ Some x → x.ratio ≡ ratio
