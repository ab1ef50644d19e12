-- Worked rows of shares over fewer tokens, and of a validator that is removed and created again.
use Rattle.std.specs.Prelude.{◌≡◌, ℕ, ◌-◌, ◌*◌, ◌^◌, false, List, [], ◌∷◌, Option, Some, None, option_map, Result, Ok, Err}
use Rattle.base_types.specs.declared.account.Account.TheVariants as account
use Rattle.base_types.specs.declared.account.Module.TheVariants as holder
use Rattle.base_types.specs.declared.status.BondStatus.TheVariants.{Unbonded}
use Rattle.base_coins.specs.Coins.{Money}
use Rattle.base_roles.specs.declared.entities.Purse.{Purse}
use Rattle.base_roles.specs.declared.entities.StartingInfo.{StartingInfo}
use Rattle.base_roles.specs.declared.entities.UnbondingEntry.{UnbondingEntry}
use Rattle.base_roles.specs.declared.entities.Validator.{Validator}
use Rattle.base_roles.specs.declared.refusal.Refusal.{Refusal}
use Rattle.base_roles.specs.declared.refusal.Refusal.TheVariants.{Overflow}
use Rattle.base_decimals.specs.Decimals.{quotient_over}
use Rattle.base_decimals.specs.Fractions.{Fraction}
use Rattle.base_shares.specs.Burns.{ratio_of, unit}
use Rattle.base_roles.specs.World.{over_mine}
use Rattle.base_roles.specs.Holdings.{no_holdings}
use Rattle.base_roles.specs.Staked.{validator_at, delegation}
use Rattle.base_roles.specs.Flow.{◌>>=◌, each}
use Rattle.rule_modules.specs.Chain.{State, shared_in}
use Rattle.rule_modules.specs.Effects.{Effect, delegate, undelegate, create_validator}
use Rattle.rule_modules.specs.Periods.{Periods, Rewards, start_of, slashed_stake}
use Rattle.rule_modules.specs.Slashing.{slash_fraction}
use Rattle.rule_modules.specs.Unbondings.{entries_of}
use Rattle.rule_modules.specs.Fixtures.{addr, cons, user, coin, decimals, params, time_of, validates, given, balance}
use Rattle.rule_modules.specs.Ideal.{whole, ◌⊕◌, ◌⊗◌}
use Rattle.law_rewards.specs.Worked.{IsWorth}

-- an unbonded validator with 100 shares over 99 tokens, all its operator's
abbrev pub hundred_over_99 : Validator
hundred_over_99 = record {
  operator = addr 1;
  cons = cons 1;
  status = Unbonded;
  jailed = false;
  tokens = 99;
  shares = 100 * 10 ^ 18;
  commission = record { rate = 0; max_rate = 10 ^ 18; max_change = 10 ^ 18; updated = 0 };
  min_self = 1;
  unbonding_height = 0;
  unbonding_time = 0;
}

-- 3.9 are outstanding, of which 3.7 are commission; the pool has 0.1; its operator has 10 and another user too
abbrev pub standing : State
standing = record {
  mine = record {
    staked = record { validators = (addr 1, hundred_over_99) ∷ []; delegations = ((addr 1, addr 1), 100 * 10 ^ 18) ∷ [] };
    unbondings = [];
    redelegations = [];
  };
  hooks = (
    record {
      rewards = record {
        periods = (addr 1, record { current = 3; ratios = (2, []) ∷ (1, []) ∷ (0, []) ∷ []; events = [] }) ∷ [];
        starts = ((addr 1, addr 1), record { period = 2; stake = 99 * 10 ^ 18; height = 3 }) ∷ [];
      };
      purses = record {
        purses = (addr 1, record { outstanding = decimals (39 * 10 ^ 17); commission = decimals (37 * 10 ^ 17); current = [] }) ∷ [];
        pool = decimals (10 ^ 17);
      };
      withdraw = [];
    },
    [],
  );
  view = record {
    bank = given (user 1) 10 (given (user 2) 10 (given (account.Module holder.NotBonded) 99 (given (account.Module holder.Distribution) 4 no_holdings)));
    ctx = record { height = 5; time = time_of 5; params = params };
    facts = [];
  };
  log = [];
}

-- what is asked of the state that effects leave, one after another
abbrev pub left_of : {A : Type 0} → State → List Effect → (State → A) → Result A Refusal
left_of from effects f = do
  w ← each (λ effect s. effect s) effects from
  Ok (f w)

-- the same of the state above
abbrev pub left_by : {A : Type 0} → List Effect → (State → A) → Result A Refusal
left_by effects f = left_of standing effects f

-- the amounts of the unbonding entries of the operator, and its validator's tokens and shares
abbrev pub entries_and_stake : State → List ℕ × Option (ℕ × ℕ)
entries_and_stake w = (amounts (entries_of w.mine.unbondings (addr 1) (addr 1)), option_map (λ v. (v.tokens, v.shares)) (validator_at w.mine.staked (addr 1)))
  where
    amounts : List UnbondingEntry → List ℕ
    amounts [] = []
    amounts (e ∷ es) = e.balance ∷ amounts es

-- delegating 10 gives 10.101010101010101010 shares
abbrev pub DelegatingTen : Type 0
DelegatingTen = left_by (delegate (addr 2) (addr 1) (coin 10) ∷ []) (λ w. delegation w.mine.staked (addr 2) (addr 1)) ≡ Ok (Some 10101010101010101010)

-- undelegating 10 removes as many shares, whose value rounds to 10, and gives 10
abbrev pub UndelegatingTen : Type 0
UndelegatingTen = left_by (undelegate (addr 1) (addr 1) (coin 10) ∷ []) entries_and_stake ≡ Ok (10 ∷ [], Some (89, 89898989898989898990))

-- undelegating 98 gives 97, since the value of the shares rounds to less than 98
abbrev pub UndelegatingAlmostAll : Type 0
UndelegatingAlmostAll = left_by (undelegate (addr 1) (addr 1) (coin 98) ∷ []) entries_and_stake ≡ Ok (97 ∷ [], Some (2, 1010101010101010102))

-- the rewards of what is left start with its value at the old tokens and shares, which is 1, and not with the 2 tokens
abbrev pub StartedAtOldTokens : Type 0
StartedAtOldTokens =
    left_by (undelegate (addr 1) (addr 1) (coin 98) ∷ []) (λ w. start_of (shared_in w).rewards (addr 1) (addr 1))
    ≡ Ok (Some (record { period = 3; stake = 10 ^ 18; height = 5 }))

-- undelegating 99 removes the validator: 3 go to the operator and 0.9 to the pool
abbrev pub UndelegatingAll : Type 0
UndelegatingAll =
    (left_by (undelegate (addr 1) (addr 1) (coin 99) ∷ []) entries_and_stake ≡ Ok (99 ∷ [], None))
    × (left_by {A = ℕ × Money} (undelegate (addr 1) (addr 1) (coin 99) ∷ []) (λ w. (balance 1 w, (shared_in w).purses.pool)) ≡ Ok (13, decimals (10 ^ 18)))

-- and nothing of its records is left
abbrev pub NothingIsLeft : Type 0
NothingIsLeft = left_by {A = Rewards × List (List ℕ × Purse)} (undelegate (addr 1) (addr 1) (coin 99) ∷ []) (λ w. ((shared_in w).rewards, (shared_in w).purses.purses)) ≡ Ok (record { periods = []; starts = [] }, [])

-- the operator creates a validator of 10 again
abbrev pub created_again : List Effect
created_again =
    undelegate (addr 1) (addr 1) (coin 99)
    ∷ create_validator (record (validates 1 0) { amount = coin 10 })
    ∷ []

-- its first delegation ends period 1, and starts there
abbrev pub CreatedAgain : Type 0
CreatedAgain =
    left_by {A = List (List ℕ × Periods) × Option StartingInfo} created_again (λ w. ((shared_in w).rewards.periods, start_of (shared_in w).rewards (addr 1) (addr 1)))
    ≡ Ok (
      (addr 1, record { current = 2; ratios = (1, []) ∷ (0, []) ∷ []; events = [] }) ∷ [],
      Some (record { period = 1; stake = 10 * 10 ^ 18; height = 5 }),
    )

-- 10^12 shares over one token: 10^9 more are over, with the operands of their quotient
abbrev pub IssuingTooMany : Type 0
IssuingTooMany =
    delegate (addr 2) (addr 1) (coin (10 ^ 9)) (over_mine (λ c. record c { staked = record c.staked { validators = (addr 1, record hundred_over_99 { tokens = 1; shares = 10 ^ 30 }) ∷ [] } }) standing)
    ≡ Err (Overflow (quotient_over (10 ^ 30) (10 ^ 9) 1))

-- a burn of 1 of 3 tokens records 0.333333333333333334, and a stake of 1 becomes 0.666666666666666666
abbrev pub BurningOneOfThree : Type 0
BurningOneOfThree =
    (slash_fraction 1 3 ≡ 333333333333333334)
    × (slashed_stake (10 ^ 18) (slash_fraction 1 3) ≡ 666666666666666666)

-- ---- what a removal leaves of the worth of others

-- the shares that are not undelegated with 10
abbrev pub others : ℕ
others = 89898989898989898990

-- the same validator, where its operator has these, and another user has the rest
abbrev pub two_delegations : State
two_delegations = record standing {
  mine = record standing.mine {
    staked = record standing.mine.staked {
      delegations = ((addr 1, addr 1), others) ∷ ((addr 1, addr 2), 100 * 10 ^ 18 - others) ∷ [];
    };
  };
  hooks = (
    record (shared_in standing) {
      rewards = record (shared_in standing).rewards {
        starts =
            ((addr 1, addr 1), record { period = 2; stake = 89 * 10 ^ 18; height = 3 })
            ∷ ((addr 1, addr 2), record { period = 2; stake = 10 ^ 19 - 1; height = 3 })
            ∷ [];
      };
    },
    [],
  );
}

-- the validator's tokens and shares, and the shares of its operator and of the other user
abbrev pub stakes_of_two : State → Option (ℕ × ℕ) × Option ℕ × Option ℕ
stakes_of_two w = (
  option_map (λ v. (v.tokens, v.shares)) (validator_at w.mine.staked (addr 1)),
  delegation w.mine.staked (addr 1) (addr 1),
  delegation w.mine.staked (addr 2) (addr 1),
)

-- so many shares are worth this, in exact tokens
abbrev pub worth : ℕ → ℕ → ℕ → Fraction
worth part tokens shares = ratio_of (part * tokens) shares

-- The user undelegates 10, which is all that it has. The operator's shares stay, and were worth 89.0000000000000000001
-- tokens; they are worth 89 then, which is less by a tenth of a unit.
pub record OthersLoseATenth : Type 0 where
  pub before : stakes_of_two two_delegations ≡ (Some (99, 100 * 10 ^ 18), Some others, Some (100 * 10 ^ 18 - others))
  pub removal : left_of {A = Option (ℕ × ℕ) × Option ℕ × Option ℕ} two_delegations (undelegate (addr 2) (addr 1) (coin 10) ∷ []) stakes_of_two
      ≡ Ok (Some (89, others), Some others, None)
  pub worth_before : IsWorth (worth others 99 (100 * 10 ^ 18)) (ratio_of 890000000000000000001 (10 ^ 19))
  pub worth_then : IsWorth (worth others 89 others) (whole 89)
  pub a_tenth : IsWorth (worth others 99 (100 * 10 ^ 18)) (worth others 89 others ⊕ ratio_of 1 10 ⊗ unit)
