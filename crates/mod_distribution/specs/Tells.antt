-- What distribution's hooks tell of themselves, by plain records.
use Rattle.std.specs.Prelude.{◌≡◌, ℕ, max, true, false, List, [], ◌∷◌, ◌++◌, map, Some}
use Rattle.std.specs.List.Sorted.{IsStrictlySortedBy}
use Rattle.std.specs.Map.{keys_of}
use Rattle.base_types.specs.Orders.{addr_cmp}
use Rattle.base_roles.specs.Hooks.{Tells}
use Rattle.base_roles.specs.Owing.{Lists}
use Rattle.rule_modules.specs.Distribution.{Shared, distribution_told}
use Rattle.rule_modules.specs.Owed.{owed_from_distribution}
use Rattle.rule_modules.specs.Periods.{Periods, Rewards, starts_of}
use Rattle.rule_modules.specs.Sound.{StandsFor, PursesAreSound, RewardsAreSound}

-- the greatest of numbers, and 0 where there is none
abbrev pub greatest : List ℕ → ℕ
greatest [] = 0
greatest (n ∷ ns) = max n (greatest ns)

-- the heights of the starts and of the slash events of each operator
abbrev pub heights_of : Rewards → List (List ℕ × Periods) → List ℕ
heights_of r [] = []
heights_of r (e ∷ es) = map (λ s. s.height) (starts_of r e.0) ++ (map (λ x. x.height) e.1.events ++ heights_of r es)

-- the greatest height of a start or a slash event
abbrev pub last_height : Rewards → ℕ
last_height r = greatest (heights_of r r.periods)

-- rewards are started at operators alone
abbrev pub StartAtOperators : Lists → Type 0
StartAtOperators l = (delegator operator : List ℕ) → l.started delegator operator ≡ true → l.operators operator ≡ true

-- The records are sound, and stand for these operators and started pairs.
pub record AreFor (d : Shared) (l : Lists) : Type 0 where
  pub stands : StandsFor d l
  pub started : StartAtOperators l
  pub purses : PursesAreSound d.purses
  pub rewards : RewardsAreSound (last_height d.rewards) d.rewards
  pub payees : IsStrictlySortedBy addr_cmp (keys_of d.withdraw)

-- Distribution owes all that is outstanding and the pool. A removed validator's call exceeds nothing, nor does that after
-- one was bonded, which does nothing.
abbrev pub distribution_tells : Tells Shared
distribution_tells = record {
  told = distribution_told;
  stands = AreFor;
  owes = λ d. Some (owed_from_distribution d);
  height = λ d. last_height d.rewards;
  quiet = λ d. false;
  sure = λ d. true;
  most_steps = λ d. 0;
}
