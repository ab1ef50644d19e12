-- A worked history of four blocks with fees, a delegation, an undelegation, a missed vote, evidence, withdrawals and
-- what is mature.
use Rattle.std.specs.Prelude.{◌≡◌, ◌+◌, ◌*◌, ◌^◌, true, false, List, [], ◌∷◌, Option, Some, None, Result, Ok}
use Rattle.base_types.specs.declared.account.Account.TheVariants as account
use Rattle.base_types.specs.declared.account.Module.TheVariants as holder
use Rattle.base_types.specs.declared.status.BondStatus.TheVariants.{Bonded, Unbonding, Unbonded}
use Rattle.base_roles.specs.declared.facts.Fact.{Fact}
use Rattle.base_roles.specs.declared.facts.Fact.TheVariants as fact
use Rattle.base_roles.specs.declared.refusal.Refusal.{Refusal}
use Rattle.base_roles.specs.declared.refusal.Refusal.TheVariants.{TooManyShares, Tombstoned}
use Rattle.base_roles.specs.Flow.{◌>>=◌}
use Rattle.base_messages.specs.declared.block.Block.{Block}
use Rattle.base_messages.specs.declared.faults.BlockFault.{BlockFault}
use Rattle.base_messages.specs.declared.genesis.Genesis.{Genesis}
use Rattle.base_messages.specs.declared.message.Msg.TheVariants as msg
use Rattle.base_messages.specs.declared.report.BlockReport.{BlockReport}
use Rattle.base_messages.specs.declared.report.Outcome.TheVariants.{Accepted, Refused}
use Rattle.rule_modules.specs.Amounts.{seconds}
use Rattle.rule_modules.specs.Evidence.{forever}
use Rattle.rule_modules.specs.Fixtures.{addr, cons, user, coin, coins, decimals, params, time_of, signs, misses, proves}
use Rattle.rule_machine.specs.GenesisState.{chain_started}
use Rattle.rule_machine.specs.Report.{Report, report_of}
use Rattle.rule_histories.specs.WholeRows.{holds, operates, delegates, block_of, pays, ran}

-- ---- the genesis and the blocks

-- validators of 2,000,000 and 1,000,000, the second with a commission of 0.1; two more users
abbrev pub two_powers : Genesis
two_powers = record {
  time = time_of 0;
  params = params;
  accounts = holds 3 2000000 ∷ holds 9 1000 ∷ [];
  validators = operates 1 0 ∷ operates 2 (10 ^ 17) ∷ [];
  delegations = delegates 1 1 2000000 ∷ delegates 2 2 1000000 ∷ [];
}

-- user 3 delegates 1,000,000 to the second, with a fee of 300
abbrev pub first : Block
first = block_of 1 (signs 1 2 ∷ signs 2 1 ∷ []) [] (
    pays 3 300 (msg.Delegate (record { delegator = addr 3; validator = addr 2; amount = coin 1000000 }) ∷ [])
    ∷ [])

-- the second misses a vote; user 3 undelegates 400,000, and the first operator withdraws
abbrev pub second : Block
second = block_of 2 (signs 1 2 ∷ misses 2 1 ∷ []) [] (
    pays 3 0 (msg.Undelegate (record { delegator = addr 3; validator = addr 2; amount = coin 400000 }) ∷ [])
    ∷ pays 1 0 (msg.WithdrawReward (record { delegator = addr 1; validator = addr 1 }) ∷ [])
    ∷ [])

-- evidence of height 2 against the second; user 9 funds the pool, and user 3 asks for 600,000 more
abbrev pub third : Block
third = block_of 3 (signs 1 2 ∷ signs 2 1 ∷ []) (proves 2 2 1 ∷ []) (
    pays 9 100 (msg.FundCommunityPool (record { depositor = addr 9; coins = coins 50 }) ∷ [])
    ∷ pays 3 7 (msg.Undelegate (record { delegator = addr 3; validator = addr 2; amount = coin 600000 }) ∷ [])
    ∷ [])

-- 21 days after the third block the second operator asks to leave jail, and withdraws its commission
abbrev pub fourth : Block
fourth = record (block_of 4 (signs 1 2 ∷ []) [] (
    pays 2 0 (msg.Unjail (record { validator = addr 2 }) ∷ [])
    ∷ pays 2 0 (msg.WithdrawCommission (record { validator = addr 2 }) ∷ [])
    ∷ [])) { time = time_of 3 + seconds 1814400 }

-- ---- what is told

-- what the genesis tells
abbrev pub facts_at_start : Genesis → Result (List Fact) Refusal
facts_at_start g = do
  s ← chain_started g
  Ok s.facts

-- at the genesis a period of each ends, and both are bonded
abbrev pub GenesisIsTold : Type 0
GenesisIsTold = facts_at_start two_powers ≡ Ok (
    fact.Period (addr 1) 1 []
    ∷ fact.Started (addr 1) (addr 1) 1 (2000000 * 10 ^ 18)
    ∷ fact.Period (addr 2) 1 []
    ∷ fact.Started (addr 2) (addr 2) 1 (1000000 * 10 ^ 18)
    ∷ fact.Changed (addr 1) Bonded
    ∷ fact.Changed (addr 2) Bonded
    ∷ fact.Transfer (account.Module holder.NotBonded) (account.Module holder.Bonded) (coins 3000000)
    ∷ [])

-- the delegation ends a period, and starts
abbrev pub first_told : BlockReport
first_told = record {
  height = 1;
  time = time_of 1;
  begun = [];
  txs = record {
    facts =
        fact.Transfer (user 3) (account.Module holder.FeeCollector) (coins 300)
        ∷ fact.Period (addr 2) 2 []
        ∷ fact.Transfer (user 3) (account.Module holder.Bonded) (coins 1000000)
        ∷ fact.Started (addr 3) (addr 2) 2 (1000000 * 10 ^ 18)
        ∷ [];
    outcome = Accepted;
  } ∷ [];
  ended = [];
}

-- two thirds and a third of the fees are shared; both transactions pay a reward first
abbrev pub second_told : BlockReport
second_told = record {
  height = 2;
  time = time_of 2;
  begun =
      fact.Transfer (account.Module holder.FeeCollector) (account.Module holder.Distribution) (coins 300)
      ∷ fact.Allocated (addr 1) (decimals 199999999999999999800)
      ∷ fact.Allocated (addr 2) (decimals 99999999999999999900)
      ∷ fact.Pooled (decimals 300)
      ∷ [];
  txs = record {
    facts =
        fact.Period (addr 2) 3 (decimals 44999999999999)
        ∷ fact.Transfer (account.Module holder.Distribution) (user 3) (coins 44)
        ∷ fact.Pooled (decimals 999999999999000000)
        ∷ fact.Paid (addr 3) (addr 2) (addr 3) (decimals 44999999999999000000) (coins 44)
        ∷ fact.Started (addr 3) (addr 2) 3 (600000 * 10 ^ 18)
        ∷ fact.Transfer (account.Module holder.Bonded) (account.Module holder.NotBonded) (coins 400000)
        ∷ [];
    outcome = Accepted;
  } ∷ record {
    facts =
        fact.Period (addr 1) 2 (decimals 99999999999999)
        ∷ fact.Transfer (account.Module holder.Distribution) (user 1) (coins 199)
        ∷ fact.Pooled (decimals 999999999998000000)
        ∷ fact.Paid (addr 1) (addr 1) (addr 1) (decimals 199999999999998000000) (coins 199)
        ∷ fact.Started (addr 1) (addr 1) 2 (2000000 * 10 ^ 18)
        ∷ [];
    outcome = Accepted;
  } ∷ [];
  ended = [];
}

-- Of 50,000 the entry loses 20,000, and the validator 30,000 of 1,600,000; it is jailed for ever, and leaves the set.
-- Its shares are worth less now, so 600,000 are more than user 3 has.
abbrev pub third_told : BlockReport
third_told = record {
  height = 3;
  time = time_of 3;
  begun =
      fact.Burn holder.NotBonded (coin 20000)
      ∷ fact.Period (addr 2) 4 (decimals 44999999999999)
      ∷ fact.Slashed (addr 2) (1875 * 10 ^ 13) 30000
      ∷ fact.Burn holder.Bonded (coin 30000)
      ∷ fact.Jailed (addr 2)
      ∷ fact.Tombstoned (addr 2)
      ∷ [];
  txs = record {
    facts =
        fact.Transfer (user 9) (account.Module holder.FeeCollector) (coins 100)
        ∷ fact.Transfer (user 9) (account.Module holder.Distribution) (coins 50)
        ∷ fact.Pooled (decimals (50 * 10 ^ 18))
        ∷ [];
    outcome = Accepted;
  } ∷ record {
    facts = fact.Transfer (user 3) (account.Module holder.FeeCollector) (coins 7) ∷ [];
    outcome = Refused 0 TooManyShares;
  } ∷ [];
  ended =
      fact.Changed (addr 2) Unbonding
      ∷ fact.Transfer (account.Module holder.Bonded) (account.Module holder.NotBonded) (coins 1570000)
      ∷ [];
}

-- all fees go to the one vote; the second is unbonded, and user 3 has what is left of its entry
abbrev pub fourth_told : BlockReport
fourth_told = record {
  height = 4;
  time = time_of 3 + seconds 1814400;
  begun =
      fact.Transfer (account.Module holder.FeeCollector) (account.Module holder.Distribution) (coins 107)
      ∷ fact.Allocated (addr 1) (decimals (107 * 10 ^ 18))
      ∷ [];
  txs =
      record { facts = []; outcome = Refused 0 Tombstoned }
      ∷ record {
        facts =
            fact.Transfer (account.Module holder.Distribution) (user 2) (coins 9)
            ∷ fact.Commission (addr 2) (addr 2) (coins 9)
            ∷ [];
        outcome = Accepted;
      }
      ∷ [];
  ended =
      fact.Changed (addr 2) Unbonded
      ∷ fact.Transfer (account.Module holder.NotBonded) (user 3) (coins 380000)
      ∷ [];
}

-- the four blocks are told so
abbrev pub BlocksAreTold : Type 0
BlocksAreTold =
    ran {A = List BlockReport × Option BlockFault} two_powers (first ∷ second ∷ third ∷ fourth ∷ []) (λ r. (r.reports, r.fault))
    ≡ Ok (first_told ∷ second_told ∷ third_told ∷ fourth_told ∷ [], None)

-- ---- the report at the end

-- 50,000 of 5,001,000 are burned, and the accounts hold the rest; the second validator is jailed; the rewards of the
-- first two delegations are 107 and 44.999999999999
abbrev pub life_reported : Report
life_reported = record {
  supply = coins 4951000;
  accounts =
      (user 1, coins 199)
      ∷ (user 2, coins 9)
      ∷ (user 3, coins 1379737)
      ∷ (user 9, coins 850)
      ∷ (account.Module holder.Bonded, coins 2000000)
      ∷ (account.Module holder.NotBonded, coins 1570000)
      ∷ (account.Module holder.Distribution, coins 205)
      ∷ [];
  validators = (
    record {
      operator = addr 1;
      cons = cons 1;
      status = Bonded;
      jailed = false;
      tokens = 2000000;
      shares = 2000000 * 10 ^ 18;
      commission = record { rate = 0; max_rate = 10 ^ 18; max_change = 10 ^ 18; updated = time_of 0 };
      min_self = 1;
      unbonding_height = 0;
      unbonding_time = 0;
    },
    record { outstanding = decimals 107000000000001999800; commission = []; current = decimals (107 * 10 ^ 18) },
  )
      ∷ (
        record {
          operator = addr 2;
          cons = cons 2;
          status = Unbonded;
          jailed = true;
          tokens = 1570000;
          shares = 1600000 * 10 ^ 18;
          commission = record { rate = 10 ^ 17; max_rate = 10 ^ 18; max_change = 10 ^ 18; updated = time_of 0 };
          min_self = 1;
          unbonding_height = 3;
          unbonding_time = time_of 3 + seconds 1814400;
        },
        record { outstanding = decimals 46000000000000999900; commission = decimals 999999999999999990; current = [] },
      )
      ∷ [];
  delegations =
      ((addr 1, addr 1), 2000000 * 10 ^ 18)
      ∷ ((addr 2, addr 2), 1000000 * 10 ^ 18)
      ∷ ((addr 3, addr 2), 600000 * 10 ^ 18)
      ∷ [];
  pending =
      record { delegator = addr 1; operator = addr 1; coins = Some (decimals (107 * 10 ^ 18)) }
      ∷ record { delegator = addr 2; operator = addr 2; coins = Some (decimals 44999999999999000000) }
      ∷ record { delegator = addr 3; operator = addr 2; coins = Some [] }
      ∷ [];
  unbondings = [];
  redelegations = [];
  signing =
      (cons 1, record { start = 0; counted = 4; missed = 0; jailed_until = 0; tombstoned = false })
      ∷ (cons 2, record { start = 0; counted = 3; missed = 1; jailed_until = forever; tombstoned = true })
      ∷ [];
  pool = decimals 51999999999997000300;
}

-- the report after the four blocks
abbrev pub EndIsReported : Type 0
EndIsReported = ran two_powers (first ∷ second ∷ third ∷ fourth ∷ []) (λ r. report_of r.state) ≡ Ok life_reported
