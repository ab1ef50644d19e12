-- Purses of validators and the community pool (`x/distribution/keeper`: `AllocateTokensToValidator`, `WithdrawValidatorCommission`,
-- `FundCommunityPool`, `DistributeFromFeePool`).
use Rattle.std.specs.Prelude.{ℕ, Bool, if◌then◌else◌, List, [], ◌∷◌, ◌++◌, unwrap_or, is_some, Result, Ok}
use Rattle.base_decimals.specs.declared.over.Over.{Over}
use Rattle.base_types.specs.Orders.{addr_cmp}
use Rattle.base_coins.specs.Coins.{Money, coins_added, coins_taken, coins_mul_even, smaller_of, whole_coins, fractions, first_short}
use Rattle.base_roles.specs.declared.entities.Purse.{Purse}
use Rattle.base_roles.specs.declared.facts.Fact.{Fact}
use Rattle.base_roles.specs.declared.facts.Fact.TheVariants as fact
use Rattle.base_roles.specs.Entries.{at, with, without}
use Rattle.base_roles.specs.Items.{no_purse}
use Rattle.base_roles.specs.Flow.{◌>>=◌}
use Rattle.rule_modules.specs.Amounts.{is_empty, in_units}

-- the purse of each operator, and the community pool
pub record Purses : Type 0 where
  pub purses : List (List ℕ × Purse)
  pub pool : Money

-- the purse of an operator
abbrev pub purse_of : Purses → List ℕ → Purse
purse_of p operator = unwrap_or (at addr_cmp p.purses operator) no_purse

-- the purses with this one of an operator
abbrev pub with_purse : List ℕ → Purse → Purses → Purses
with_purse operator purse p = record p { purses = with addr_cmp p.purses operator purse }

-- coins join the pool (`FeePool.CommunityPool`)
abbrev pub pool_joined : Money → Purses → Result Purses Over
pool_joined coins p = do
  pool ← coins_added p.pool coins
  Ok (record p { pool = pool })

-- coins that joined the pool are told, where there are any
abbrev pub pooled_told : Money → List Fact → List Fact
pooled_told coins facts = if is_empty coins then facts else facts ++ fact.Pooled coins ∷ []

-- A share of the fees joins what is outstanding; the part of the rate joins the commission, and the rest the current
-- rewards (`AllocateTokensToValidator`). Answers the rest.
abbrev pub share_joined : Money → ℕ → Purse → Result (Money × Purse) Over
share_joined share rate p = do
  part ← coins_mul_even share rate
  commission ← coins_added p.commission part
  let rest = coins_taken share part
  current ← coins_added p.current rest
  outstanding ← coins_added p.outstanding share
  Ok (rest, record { outstanding = outstanding; commission = commission; current = current })

-- the current rewards are taken for the ratio (`IncrementValidatorPeriod`)
abbrev pub current_emptied : List ℕ → Purses → Purses
current_emptied operator p = with_purse operator (record (purse_of p operator) { current = [] }) p

-- what is lost of the current rewards to the pool: the smaller of them and what is outstanding (the smaller: own)
abbrev pub current_lost : Purse → Money
current_lost p = smaller_of p.current p.outstanding

-- The current rewards leave for the pool, where a validator has no tokens (`IncrementValidatorPeriod`). Answers what is lost.
abbrev pub current_pooled : List ℕ → Purses → Result (Money × Purses) Over
current_pooled operator p = do
  let purse = purse_of p operator
  let lost = current_lost purse
  let less = record purse { outstanding = coins_taken purse.outstanding lost; current = [] }
  p1 ← pool_joined lost (with_purse operator less p)
  Ok (lost, p1)

-- A reward leaves what is outstanding, as far as that goes (`withdrawDelegationRewards`: `rewardsRaw.Intersect(outstanding)`);
-- its fractions join the pool. Answers what left.
abbrev pub paid_out : List ℕ → Money → Purses → Result (Money × Purses) Over
paid_out operator full p = do
  let purse = purse_of p operator
  let reward = smaller_of full purse.outstanding
  let less = record purse { outstanding = coins_taken purse.outstanding reward }
  p1 ← pool_joined (fractions reward) (with_purse operator less p)
  Ok (reward, p1)

-- the whole coins of a commission that are paid, as far as what is outstanding goes (the smaller: own)
abbrev pub commission_due : Purse → Money
commission_due p = smaller_of (whole_coins p.commission) (whole_coins p.outstanding)

-- the purse after its commission was paid (`WithdrawValidatorCommission`)
abbrev pub commission_paid : Purse → Purse
commission_paid p =
    let paid = in_units (commission_due p) in
    record p { outstanding = coins_taken p.outstanding paid; commission = coins_taken p.commission paid }

-- what a removed validator's operator is due: the commission, as far as what is outstanding goes (the smaller: own)
abbrev pub due_at_last : Purse → Money
due_at_last p = smaller_of p.commission p.outstanding

-- A purse is closed (`AfterValidatorRemoved`): the whole coins of what is due are paid, and its fractions and the rest
-- of what is outstanding join the pool. Answers what is paid and what joins.
abbrev pub closed : List ℕ → Purses → Result (Money × Money × Purses) Over
closed operator p = do
  let purse = purse_of p operator
  let due = due_at_last purse
  rest ← coins_added (fractions due) (coins_taken purse.outstanding due)
  p1 ← pool_joined rest (record p { purses = without addr_cmp p.purses operator })
  Ok (whole_coins due, rest, p1)

-- some coin is above what the pool has, both as unbounded numbers (`DistributeFromFeePool`: `SafeSub`)
abbrev pub is_above_pool : Money → Purses → Bool
is_above_pool coins p = is_some (first_short p.pool (in_units coins))

-- coins leave the pool (`DistributeFromFeePool`)
abbrev pub pool_lowered : Money → Purses → Purses
pool_lowered coins p = record p { pool = coins_taken p.pool (in_units coins) }
