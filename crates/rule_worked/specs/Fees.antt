-- Worked rows of fees, rewards and the pool.
use Rattle.std.specs.Prelude.{◌≡◌, ℕ, ◌*◌, ◌^◌, false, List, [], ◌∷◌, ◌++◌, Option, Some, Ok, option_map}
use Rattle.base_types.specs.declared.account.Account.TheVariants as account
use Rattle.base_types.specs.declared.account.Module.TheVariants as holder
use Rattle.base_coins.specs.Coins.{Money}
use Rattle.base_roles.specs.declared.facts.Fact.TheVariants as fact
use Rattle.base_roles.specs.declared.entities.StartingInfo.{StartingInfo}
use Rattle.base_roles.specs.declared.refusal.Refusal.TheVariants.{InsufficientFunds, RateInvalid, NoTokens, NoCommission, PoolTooSmall, NotAuthority, WithdrawFixed}
use Rattle.rule_modules.specs.Chain.{State, shared_in}
use Rattle.rule_modules.specs.Effects.{accepted, refused_at, delegate, undelegate, withdraw_reward, withdraw_commission, set_withdraw_address, fund_community_pool, community_pool_spend}
use Rattle.base_roles.specs.Staked.{validator_at}
use Rattle.rule_modules.specs.Distribution.{pending}
use Rattle.rule_modules.specs.Periods.{start_of, periods_of, ratio_at}
use Rattle.rule_modules.specs.Purses.{purse_of}
use Rattle.rule_modules.specs.Fixtures.{addr, user, coin, coins, decimals, params, validates, stakes, Beginning, Block, pays, says, block, empty, signs, proves, after, last_endings, balance, begun_facts}

-- ---- one validator, with stakes of 1,000,000 and 2,000,000, shares fees of 1,000

-- the validator, at a tax and a commission
abbrev pub two_stakes : ℕ → ℕ → Beginning
two_stakes tax rate = record {
  params = record params { community_tax = tax };
  holdings = (9, 1000) ∷ [];
  validators = validates 1 rate ∷ [];
  stakes = stakes 1 1 1000000 ∷ stakes 2 1 2000000 ∷ [];
}

-- the fees are paid, then allocated, then both withdraw
abbrev pub fees_shared : List Block
fees_shared =
    block 1 [] [] (pays 9 1000 [] ∷ [])
    ∷ block 2 (signs 1 3 ∷ []) [] (says (withdraw_reward (addr 1) (addr 1)) ∷ says (withdraw_reward (addr 2) (addr 1)) ∷ [])
    ∷ []

-- what both have, the ratio, the commission, what is outstanding, and the pool
abbrev pub shared_out : State → ℕ × ℕ × Money × Money × Money × Money
shared_out w =
    let purse = purse_of (shared_in w).purses (addr 1) in
    (balance 1 w, balance 2 w, ratio_at (periods_of (shared_in w).rewards (addr 1)).ratios 3, purse.commission, purse.outstanding, (shared_in w).purses.pool)

-- a tax of 0.02 and a commission of 0.1: the commission is 98, the ratio 0.000294, they have 294 and 588, the pool 20
abbrev pub WithTaxAndCommission : Type 0
WithTaxAndCommission =
    after (two_stakes (2 * 10 ^ 16) (10 ^ 17)) fees_shared shared_out
    ≡ Ok (294, 588, decimals (294 * 10 ^ 12), decimals (98 * 10 ^ 18), decimals (98 * 10 ^ 18), decimals (20 * 10 ^ 18))

-- neither: the ratio is 0.000333333333333333, they have 333 and 666, 0.999999999999 joins the pool, and 10^-12 stays
abbrev pub WithoutTaxAndCommission : Type 0
WithoutTaxAndCommission =
    after (two_stakes 0 0) fees_shared shared_out
    ≡ Ok (333, 666, decimals 333333333333333, [], decimals (10 ^ 6), decimals (999999999999 * 10 ^ 6))

-- ---- three validators of equal power, a tax of 0.02 and a fee of 5,000

-- three validators with 300,000 units of power each
abbrev pub three_equal : Beginning
three_equal = record {
  params = record params { community_tax = 2 * 10 ^ 16 };
  holdings = (9, 5000) ∷ [];
  validators = validates 1 (5 * 10 ^ 16) ∷ validates 2 (10 ^ 17) ∷ validates 3 (2 * 10 ^ 17) ∷ [];
  stakes = stakes 1 1 (3 * 10 ^ 11) ∷ stakes 2 2 (3 * 10 ^ 11) ∷ stakes 3 3 (3 * 10 ^ 11) ∷ [];
}

-- each vote has 1633.3333333333333317, and the pool 100.0000000000000049
abbrev pub SharedByThree : Type 0
SharedByThree =
    begun_facts three_equal (block 1 [] [] (pays 9 5000 [] ∷ []) ∷ []) (block 2 (signs 1 300000 ∷ signs 2 300000 ∷ signs 3 300000 ∷ []) [] [])
    ≡ Ok (
    fact.Transfer (account.Module holder.FeeCollector) (account.Module holder.Distribution) (coins 5000)
    ∷ fact.Allocated (addr 1) (decimals 1633333333333333331700)
    ∷ fact.Allocated (addr 2) (decimals 1633333333333333331700)
    ∷ fact.Allocated (addr 3) (decimals 1633333333333333331700)
    ∷ fact.Pooled (decimals 100000000000000004900)
    ∷ [])

-- ---- a delegator of balance 100, whose reward of 50.4 is paid by the hook of its next delegation

-- the validator and its two delegators
abbrev pub small_wallet : Beginning
small_wallet = record {
  params = params;
  holdings = (2, 100) ∷ (9, 100) ∷ [];
  validators = validates 1 0 ∷ [];
  stakes = stakes 1 1 496000 ∷ stakes 2 1 504000 ∷ [];
}

-- fees of 100 are allocated, then the second delegates n
abbrev pub delegates_more : ℕ → List Block
delegates_more n =
    block 1 [] [] (pays 9 100 [] ∷ [])
    ∷ block 2 (signs 1 1 ∷ []) [] (says (delegate (addr 2) (addr 1) (coin n)) ∷ [])
    ∷ []

-- what the delegator has, and where its rewards begin
abbrev pub wallet_and_start : State → ℕ × Option StartingInfo
wallet_and_start w = (balance 2 w, start_of (shared_in w).rewards (addr 2) (addr 1))

-- its reward is pending
abbrev pub RewardIsPending : Type 0
RewardIsPending =
    after small_wallet (block 1 [] [] (pays 9 100 [] ∷ []) ∷ block 2 (signs 1 1 ∷ []) [] [] ∷ [])
    (λ w. option_map (λ v. pending v (addr 2) (504000 * 10 ^ 18) (shared_in w) w.view) (validator_at w.mine.staked (addr 1)))
    ≡ Ok (Some (Ok (decimals (504 * 10 ^ 17))))

-- 150 are delegated: nothing is left
abbrev pub DelegatingWithReward : Type 0
DelegatingWithReward =
    (after small_wallet (delegates_more 150) wallet_and_start ≡ Ok (0, Some (record { period = 3; stake = 504150 * 10 ^ 18; height = 2 })))
    × (last_endings small_wallet (delegates_more 150) ≡ Ok (accepted ∷ []))

-- 151 are too many: the reward is pending as before
abbrev pub DelegatingTooMuch : Type 0
DelegatingTooMuch =
    (after small_wallet (delegates_more 151) wallet_and_start ≡ Ok (100, Some (record { period = 2; stake = 504000 * 10 ^ 18; height = 0 })))
    × (last_endings small_wallet (delegates_more 151) ≡ Ok (refused_at 0 InsufficientFunds ∷ []))

-- ---- a validator that lost all tokens by evidence with a factor of 1

-- one validator, and a factor of 1 for evidence
abbrev pub all_at_stake : Beginning
all_at_stake = record {
  params = record params { slash_fraction_double_sign = 10 ^ 18 };
  holdings = (9, 200) ∷ [];
  validators = validates 1 (10 ^ 17) ∷ [];
  stakes = stakes 1 1 1000000 ∷ [];
}

-- evidence at height 2, then a delegation, an undelegation, and fees of 100
abbrev pub all_slashed : List Block
all_slashed =
    empty 1
    ∷ block 2 [] (proves 1 1 1 ∷ []) (says (delegate (addr 9) (addr 1) (coin 5)) ∷ says (undelegate (addr 1) (addr 1) (coin 5)) ∷ pays 9 100 [] ∷ [])
    ∷ []

-- shares over no tokens take no delegation, and an amount has no shares
abbrev pub NothingLeftToDelegate : Type 0
NothingLeftToDelegate = last_endings all_at_stake all_slashed ≡ Ok (refused_at 0 RateInvalid ∷ refused_at 0 NoTokens ∷ accepted ∷ [])

-- fees are allocated to it still
abbrev pub AllocatedWithoutTokens : Type 0
AllocatedWithoutTokens =
    after all_at_stake (all_slashed ++ block 3 (signs 1 1 ∷ []) [] [] ∷ []) (λ w. purse_of (shared_in w).purses (addr 1))
    ≡ Ok (record { outstanding = decimals (100 * 10 ^ 18); commission = decimals (10 * 10 ^ 18); current = decimals (90 * 10 ^ 18) })

-- a withdrawal sends the current rewards to the pool, and pays nothing
abbrev pub WithdrawingWithoutTokens : Type 0
WithdrawingWithoutTokens =
    after {A = ℕ × Money × Money} all_at_stake (all_slashed ++ block 3 (signs 1 1 ∷ []) [] (says (withdraw_reward (addr 1) (addr 1)) ∷ []) ∷ [])
    (λ w. (balance 1 w, (shared_in w).purses.pool, (purse_of (shared_in w).purses (addr 1)).outstanding))
    ≡ Ok (0, decimals (90 * 10 ^ 18), decimals (10 * 10 ^ 18))

-- ---- the community pool, commission, and who is paid

-- a user who has 50
abbrev pub pool_of_fifty : Beginning
pool_of_fifty = record {
  params = record params { withdraw_addr_enabled = false };
  holdings = (3, 50) ∷ [];
  validators = validates 1 0 ∷ [];
  stakes = stakes 1 1 1000000 ∷ [];
}

-- 50 are given; 51 are more than the pool has, 50 are not; another address may not spend; without commission none is
-- paid; and no other address may be paid where that is not allowed
abbrev pub PoolAndCommission : Type 0
PoolAndCommission =
    last_endings pool_of_fifty (block 1 [] [] (
    says (fund_community_pool (addr 3) (coins 50))
    ∷ says (community_pool_spend (addr 153) (user 4) (coins 51))
    ∷ says (community_pool_spend (addr 3) (user 4) (coins 50))
    ∷ says (community_pool_spend (addr 153) (user 4) (coins 50))
    ∷ says (withdraw_commission (addr 1))
    ∷ says (set_withdraw_address (addr 1) (user 4))
    ∷ []) ∷ [])
    ≡ Ok (accepted ∷ refused_at 0 PoolTooSmall ∷ refused_at 0 NotAuthority ∷ accepted ∷ refused_at 0 NoCommission ∷ refused_at 0 WithdrawFixed ∷ [])
