-- Worked histories of the whole machine, from a genesis through whole blocks.
use Rattle.std.specs.Prelude.{◌≡◌, ℕ, zero, suc, ◌+◌, ◌-◌, ◌*◌, ◌^◌, ◌%◌, ◌<◌, ◌==◌, nat_le, if◌then◌else◌, Bool, List, [], ◌∷◌, ◌++◌, map, length, Option, Some, None, Ok}
use Rattle.std.specs.List.{filter_map}
use Rattle.base_types.specs.declared.account.Account.TheVariants as account
use Rattle.base_types.specs.declared.account.Module.TheVariants as holder
use Rattle.base_coins.specs.Coins.{Money, amount_of}
use Rattle.base_roles.specs.declared.facts.Fact.{Fact}
use Rattle.base_roles.specs.declared.facts.Fact.TheVariants as fact
use Rattle.base_roles.specs.declared.messages.Vote.{Vote}
use Rattle.base_roles.specs.Log.{LogEntry}
use Rattle.base_roles.specs.Log as log
use Rattle.base_messages.specs.declared.block.Block.{Block}
use Rattle.base_messages.specs.declared.block.Tx.{Tx}
use Rattle.base_messages.specs.declared.faults.BlockFault.{BlockFault}
use Rattle.base_messages.specs.declared.genesis.Genesis.{Genesis}
use Rattle.base_messages.specs.declared.message.Msg.TheVariants as msg
use Rattle.base_messages.specs.declared.report.BlockReport.{BlockReport}
use Rattle.base_messages.specs.declared.report.Outcome.{Outcome}
use Rattle.base_messages.specs.declared.report.Outcome.TheVariants.{Accepted}
use Rattle.base_messages.specs.declared.report.TxReport.{TxReport}
use Rattle.rule_modules.specs.Amounts.{count_where}
use Rattle.rule_modules.specs.Fixtures.{addr, user, uatom, coin, coins, decimals, params, time_of, signs, proves}
use Rattle.rule_modules.specs.Ideal.{history_of, is_left, overclaim_of}
use Rattle.rule_modules.specs.Periods.{last_ended, periods_of, ratio_at}
use Rattle.rule_modules.specs.Purses.{purse_of}
use Rattle.rule_machine.specs.Machine.{Run}
use Rattle.rule_histories.specs.WholeRows.{holds, operates, delegates, block_of, pays, ran}
use Rattle.rule_modules.specs.Chain.{shared_in}

-- ---- forty delegators of three validators

-- so many numbers from one on
abbrev pub numbers_from : ℕ → ℕ → List ℕ
numbers_from start zero = []
numbers_from start (suc n) = start ∷ numbers_from (start + 1) n

-- users 101 to 140
abbrev pub forty : List ℕ
forty = numbers_from 101 40

-- the operator to which a user delegates: 1, 2 and 3 in turn
abbrev pub operator_for : ℕ → ℕ
operator_for who = (who - 101) % 3 + 1

-- forty accounts of 2,500,000,000,000, of which each delegates 25,000,000,000 more; commissions of 0.05, 0.1 and 0.2, a
-- tax of 0.02
abbrev pub forty_delegators : Genesis
forty_delegators = record {
  time = time_of 0;
  params = record params { community_tax = 2 * 10 ^ 16 };
  accounts = map (λ n. holds n 2500000000000) forty;
  validators = operates 1 (5 * 10 ^ 16) ∷ operates 2 (10 ^ 17) ∷ operates 3 (2 * 10 ^ 17) ∷ [];
  delegations = map (λ n. delegates n (operator_for n) 25000000000) forty;
}

-- all three sign, each with a power of 300,000
abbrev pub three_sign : List Vote
three_sign = signs 1 300000 ∷ signs 2 300000 ∷ signs 3 300000 ∷ []

-- a user sends 1 to the next, with a fee of 5,000
abbrev pub sends_on : ℕ → Tx
sends_on who = pays who 5000 (msg.Send (record { from = addr who; to = user (who + 1); coins = coins 1 }) ∷ [])

-- blocks 2 to 30, behind block 1, which has no votes yet
abbrev pub thirty_blocks : List Block
thirty_blocks = block_of 1 [] [] (sends_on 101 ∷ []) ∷ map (λ h. block_of h three_sign [] (sends_on (100 + h) ∷ [])) (numbers_from 2 29)

-- in block 31 everybody withdraws
abbrev pub all_withdraw : Block
all_withdraw = block_of 31 three_sign [] (map (λ n. pays n 0 (msg.WithdrawReward (record { delegator = addr n; validator = addr (operator_for n) }) ∷ [])) forty)

-- the fees of the last block are shared: each vote has 1633.3333333333333317, and the pool 100.0000000000000049
abbrev pub fees_shared : List Fact
fees_shared =
    fact.Transfer (account.Module holder.FeeCollector) (account.Module holder.Distribution) (coins 5000)
    ∷ fact.Allocated (addr 1) (decimals 1633333333333333331700)
    ∷ fact.Allocated (addr 2) (decimals 1633333333333333331700)
    ∷ fact.Allocated (addr 3) (decimals 1633333333333333331700)
    ∷ fact.Pooled (decimals 100000000000000004900)
    ∷ []

-- the report of a block with one send
abbrev pub send_told : List Fact → ℕ → BlockReport
send_told begun h = record {
  height = h;
  time = time_of h;
  begun = begun;
  txs = record {
    facts = fact.Transfer (user (100 + h)) (account.Module holder.FeeCollector) (coins 5000) ∷ fact.Transfer (user (100 + h)) (user (101 + h)) (coins 1) ∷ [];
    outcome = Accepted;
  } ∷ [];
  ended = [];
}

-- thirty blocks are reported so; the pool then has 2900.0000000000001421
abbrev pub FeesOfThirtyBlocks : Type 0
FeesOfThirtyBlocks =
    ran {A = List BlockReport × Money × Option BlockFault} forty_delegators thirty_blocks (λ r. (r.reports, (shared_in r.state).purses.pool, r.fault))
    ≡ Ok (send_told [] 1 ∷ map (send_told fees_shared) (numbers_from 2 29), decimals 2900000000000000142100, None)

-- what is paid to delegators of the three validators
abbrev pub paid_by : ℕ → ℕ
paid_by operator = if operator == 1 then 3324 else if operator == 2 then 3392 else 3015

-- the coins that a fact says were paid
abbrev pub coins_in : Fact → Option Money
coins_in (fact.Paid who operator to reward coins) = Some coins
coins_in _ = None

-- what was paid, and how the transaction ended
abbrev pub payment_of : TxReport → List Money × Outcome
payment_of t = (filter_map coins_in t.facts, t.outcome)

-- the payments of the last of some blocks
abbrev pub payments_of_last : List BlockReport → List (List Money × Outcome)
payments_of_last [] = []
payments_of_last (b ∷ []) = map payment_of b.txs
payments_of_last (b ∷ c ∷ rest) = payments_of_last (c ∷ rest)

-- in block 31 all withdrawals are accepted: 3,324, 3,392 and 3,015 go to each delegator of the three
abbrev pub AllWithdraw : Type 0
AllWithdraw =
    ran forty_delegators (thirty_blocks ++ all_withdraw ∷ []) (λ r. payments_of_last r.reports)
    ≡ Ok (map (λ n. (coins (paid_by (operator_for n)) ∷ [], Accepted)) forty)

-- ---- thirty delegators that undelegate again and again

-- users 101 to 130
abbrev pub thirty : List ℕ
thirty = numbers_from 101 30

-- An operator with 1,000,000 and thirty delegators with 100,000 each; no tax and no commission. User 4 is there for the fees.
abbrev pub thirty_delegators : Genesis
thirty_delegators = record {
  time = time_of 0;
  params = params;
  accounts = holds 4 10000 ∷ [];
  validators = operates 1 0 ∷ [];
  delegations = delegates 1 1 1000000 ∷ map (λ n. delegates n 1 100000) thirty;
}

-- evidence of height 1, with a power of 4: a twentieth of 4,000,000 is burned, so that 3,800,000 are left
abbrev pub slashed_by_evidence : Block
slashed_by_evidence = block_of 2 [] (proves 1 1 4 ∷ []) []

-- a fee of 1,000
abbrev pub fee_of_thousand : Tx
fee_of_thousand = pays 4 1000 []

-- a user undelegates 1
abbrev pub takes_one : ℕ → Tx
takes_one n = pays n 0 (msg.Undelegate (record { delegator = addr n; validator = addr 1; amount = coin 1 }) ∷ [])

-- a user withdraws
abbrev pub withdraws : ℕ → Tx
withdraws n = pays n 0 (msg.WithdrawReward (record { delegator = addr n; validator = addr 1 }) ∷ [])

-- ten blocks with fees and a vote, in the first seven of which each of the thirty undelegates 1; in one more all withdraw
abbrev pub undelegating_blocks : List Block
undelegating_blocks =
    block_of 1 [] [] []
    ∷ slashed_by_evidence
    ∷ map (λ h. block_of h (signs 1 3 ∷ []) [] (fee_of_thousand ∷ map takes_one thirty)) (numbers_from 3 7)
    ++ map (λ h. block_of h (signs 1 3 ∷ []) [] (fee_of_thousand ∷ [])) (numbers_from 10 3)
    ++ block_of 13 (signs 1 3 ∷ []) [] (map withdraws (1 ∷ thirty)) ∷ []

-- what was withdrawn: the full reward, and what was outstanding then
abbrev pub reward_in : LogEntry → Option (Money × Money)
reward_in (log.withdrawn who payee full outstanding) = Some (full, outstanding)
reward_in _ = None

-- what is outstanding does not cut a reward
abbrev pub is_whole : Money × Money → Bool
is_whole r = nat_le (amount_of r.0 uatom) (amount_of r.1 uatom)

-- What is left of the validator behind a run: how many rewards were withdrawn, how many of them whole, and how often
-- shares left it; its last ratio, what is outstanding, and by how much claims may exceed that, in units of 10^-36.
pub record Behind : Type 0 where
  pub rewards : ℕ
  pub whole : ℕ
  pub left : ℕ
  pub ratio : Money
  pub outstanding : Money
  pub overclaim : ℕ

abbrev pub behind_of : List LogEntry → Money → Money → Behind
behind_of history ratio outstanding = record {
  rewards = length (filter_map reward_in history);
  whole = count_where is_whole (filter_map reward_in history);
  left = count_where is_left history;
  ratio = ratio;
  outstanding = outstanding;
  overclaim = overclaim_of uatom history ratio;
}

abbrev pub behind_run : Run → Behind
behind_run r =
    let shared = shared_in r.state in
    let p = periods_of shared.rewards (addr 1) in
    behind_of (history_of (addr 1) r.state.log []) (ratio_at p.ratios (last_ended p)) (purse_of shared.purses (addr 1)).outstanding

-- Shares leave 210 times, and all 241 rewards are paid whole; the overclaim is below one unit.
pub record NoneIsCut : Type 0 where
  pub run : ran {A = Option BlockFault × Behind} thirty_delegators undelegating_blocks (λ r. (r.fault, behind_run r))
      ≡ Ok (
        None,
        record {
          rewards = 241;
          whole = 241;
          left = 210;
          ratio = decimals 2631680752629987;
          outstanding = decimals 16332191;
          overclaim = 552652958052297270;
        },
      )
  pub below_a_unit : 552652958052297270 < 10 ^ 18
