-- A random history of eight blocks with four denominations, and a ninth that may not follow. The reports are those of a second,
-- independent implementation of the rules, which was written from their description alone.
use Rattle.std.specs.Prelude.{◌≡◌, ℕ, ◌+◌, ◌*◌, ◌^◌, ◌/◌, ◌%◌, true, false, List, [], ◌∷◌, ◌++◌, map, sum, replicate, codes, Option, Some, None, Ok}
use Rattle.base_types.specs.declared.account.Account.{Account}
use Rattle.base_types.specs.declared.account.Account.TheVariants as account
use Rattle.base_types.specs.declared.account.Module.TheVariants as holder
use Rattle.base_types.specs.declared.status.BondStatus.TheVariants.{Unbonding, Unbonded}
use Rattle.base_coins.specs.declared.coin.Coin.{Coin}
use Rattle.base_coins.specs.Coins.{Money, amount_of}
use Rattle.base_roles.specs.declared.facts.Fact.{Fact}
use Rattle.base_roles.specs.declared.facts.Fact.TheVariants as fact
use Rattle.base_roles.specs.declared.messages.Vote.{Vote}
use Rattle.base_roles.specs.declared.refusal.Refusal.TheVariants as refusal
use Rattle.base_roles.specs.Holdings.{balance_of, supply_of, coins_of}
use Rattle.base_messages.specs.declared.block.Block.{Block}
use Rattle.base_messages.specs.declared.block.Tx.{Tx}
use Rattle.base_messages.specs.declared.faults.BlockFault.{BlockFault}
use Rattle.base_messages.specs.declared.faults.BlockFault.TheVariants.{BadTime}
use Rattle.base_messages.specs.declared.genesis.Genesis.{Genesis}
use Rattle.base_messages.specs.declared.genesis.GenesisAccount.{GenesisAccount}
use Rattle.base_messages.specs.declared.genesis.GenesisDelegation.{GenesisDelegation}
use Rattle.base_messages.specs.declared.message.Msg.{Msg}
use Rattle.base_messages.specs.declared.message.Msg.TheVariants as msg
use Rattle.base_messages.specs.declared.report.BlockReport.{BlockReport}
use Rattle.base_messages.specs.declared.report.Outcome.{Outcome}
use Rattle.base_messages.specs.declared.report.Outcome.TheVariants.{Accepted, Refused}
use Rattle.base_messages.specs.declared.report.TxReport.{TxReport}
use Rattle.rule_modules.specs.Amounts.{bond_coins}
use Rattle.rule_modules.specs.Chain.{State, shared_in}
use Rattle.rule_modules.specs.Fixtures.{uatom}
use Rattle.rule_modules.specs.Laws.{burned_in}
use Rattle.rule_modules.specs.Owed.{owed_from_bonded, owed_from_not_bonded, owed_from_distribution}
use Rattle.rule_machine.specs.Genesis.{supplies_with}
use Rattle.rule_machine.specs.GenesisConditions.{accounts_at_start}
use Rattle.rule_machine.specs.Machine.{Run}
use Rattle.rule_machine.specs.Promises.{facts_of}
use Rattle.rule_histories.specs.WholeRows.{ran}

-- ---- words

-- the address of number n
abbrev pub at : ℕ → List ℕ
at n = 64 ∷ replicate 17 0 ++ (n / 256) ∷ (n % 256) ∷ []

-- the consensus address of number n
abbrev pub signer : ℕ → List ℕ
signer n = 80 ∷ replicate 18 0 ++ n ∷ []

-- the account of number n
abbrev pub user : ℕ → Account
user n = account.User (at n)

-- three more denominations
abbrev pub aaa : List ℕ
aaa = codes "aaa"

-- another
abbrev pub ufee : List ℕ
ufee = codes "ufee"

-- and the one that stands before both, since capitals do
abbrev pub zed : List ℕ
zed = codes "Zed/1"

-- n of a denomination
abbrev pub a_coin : List ℕ → ℕ → Coin
a_coin denom n = record { denom = denom; amount = n }

-- an account has coins
abbrev pub has : ℕ → Money → GenesisAccount
has n coins = record { address = user n; coins = coins }

-- somebody delegates to an operator
abbrev pub stakes_at : ℕ → ℕ → ℕ → GenesisDelegation
stakes_at who operator amount = record { delegator = at who; validator = at operator; amount = amount }

-- a vote that was cast
abbrev pub votes : ℕ → ℕ → Vote
votes n power = record { cons = signer n; power = power; signed = true }

-- a vote that was missed
abbrev pub misses_at : ℕ → ℕ → Vote
misses_at n power = record { cons = signer n; power = power; signed = false }

-- a transaction with a fee
abbrev pub pays_at : ℕ → Money → List Msg → Tx
pays_at who fee msgs = record { payer = at who; fee = fee; msgs = msgs }

-- what a transaction did
abbrev pub reports : List Fact → Outcome → TxReport
reports facts outcome = record { facts = facts; outcome = outcome }

-- ---- the history

-- the genesis
abbrev pub random_genesis : Genesis
random_genesis = record {
  time = 1704067200000000000;
  params = record {
    bond_denom = uatom;
    power_reduction = 10;
    unbonding_time = 100;
    max_validators = 3;
    max_entries = 4;
    min_commission_rate = 0;
    community_tax = 1000000000000000000;
    withdraw_addr_enabled = true;
    signed_blocks_window = 4;
    min_signed_per_window = 300000000000000000;
    downtime_jail_duration = 20;
    slash_fraction_double_sign = 999999999999999999;
    slash_fraction_downtime = 100000000000000;
    max_age_duration = 0;
    max_age_num_blocks = 1;
    authority = at 41;
  };
  accounts =
      has 41 ((zed, 71091972738459609) ∷ (aaa, 300) ∷ (uatom, 6) ∷ (ufee, 3000) ∷ [])
      ∷ has 164 ((uatom, 20478262213378916) ∷ (ufee, 6) ∷ [])
      ∷ has 6 ((aaa, 69329368864559041) ∷ (uatom, 12) ∷ (ufee, 76471668565177466) ∷ [])
      ∷ has 68 ((uatom, 170275119781447095) ∷ [])
      ∷ has 148 ((zed, 75327933055762540) ∷ (uatom, 4) ∷ [])
      ∷ [];
  validators =
      record {
        operator = at 293;
        cons = signer 1;
        rate = 699401291386707950;
        max_rate = 1000000000000000000;
        max_change_rate = 585281014601860201;
        min_self_delegation = 1;
      }
      ∷ record {
        operator = at 253;
        cons = signer 2;
        rate = 360256197658781107;
        max_rate = 999999999999999999;
        max_change_rate = 89558807109099844;
        min_self_delegation = 1;
      }
      ∷ record {
        operator = at 236;
        cons = signer 3;
        rate = 100000000000000000;
        max_rate = 1000000000000000000;
        max_change_rate = 861935669747122828;
        min_self_delegation = 1;
      }
      ∷ [];
  delegations =
      stakes_at 293 293 5
      ∷ stakes_at 6 253 58601710760480335
      ∷ stakes_at 164 253 58110470159946426
      ∷ stakes_at 253 253 51657944029718292
      ∷ stakes_at 41 236 80784079435956173
      ∷ stakes_at 236 236 63531299775610645
      ∷ [];
}

-- block 1
abbrev pub block_1 : Block
block_1 = record {
  height = 1;
  time = 1704067300000000000;
  votes = votes 3 1 ∷ misses_at 1 1 ∷ misses_at 2 1 ∷ [];
  evidence = [];
  txs =
      pays_at 164 [] (msg.Delegate (record { delegator = at 6; validator = at 236; amount = a_coin uatom 3 }) ∷ [])
      ∷ pays_at 148 ((zed, 331872025781431) ∷ []) (
      msg.Undelegate (record { delegator = at 253; validator = at 253; amount = a_coin uatom 51657944029718292 })
      ∷ [])
      ∷ pays_at 6 [] (
      msg.WithdrawReward (record { delegator = at 236; validator = at 236 })
      ∷ msg.EditValidator (record { validator = at 236; rate = None; min_self_delegation = Some 1 })
      ∷ [])
      ∷ [];
}

-- block 2
abbrev pub block_2 : Block
block_2 = record {
  height = 2;
  time = 1704067301000000000;
  votes = [];
  evidence = [];
  txs =
      pays_at 41 [] (msg.Undelegate (record { delegator = at 41; validator = at 236; amount = a_coin uatom 1 }) ∷ [])
      ∷ pays_at 41 [] (msg.Unjail (record { validator = at 253 }) ∷ [])
      ∷ [];
}

-- block 3
abbrev pub block_3 : Block
block_3 = record {
  height = 3;
  time = 1704067301000000000;
  votes = misses_at 2 11671218092042676 ∷ votes 1 1 ∷ [];
  evidence = [];
  txs =
      pays_at 41 ((zed, 459227362544534) ∷ (aaa, 141) ∷ []) (
      msg.Delegate (record { delegator = at 164; validator = at 253; amount = a_coin uatom 20478262213378915 })
      ∷ [])
      ∷ pays_at 68 ((uatom, 22990619365773529) ∷ []) (
      msg.Undelegate (record { delegator = at 6; validator = at 253; amount = a_coin uatom 45324102648084335 })
      ∷ [])
      ∷ [];
}

-- block 4
abbrev pub block_4 : Block
block_4 = record {
  height = 4;
  time = 1704067301000000000;
  votes = votes 1 0 ∷ votes 3 14431537921156682 ∷ votes 2 9186634048572134 ∷ [];
  evidence = [];
  txs =
      pays_at 41 ((ufee, 1036) ∷ []) (
      msg.SetWithdrawAddress (record { delegator = at 68; withdraw = account.Module holder.Distribution })
      ∷ [])
      ∷ pays_at 41 [] (
      msg.EditValidator (record { validator = at 236; rate = Some 1000000000000000000; min_self_delegation = None })
      ∷ [])
      ∷ [];
}

-- block 5
abbrev pub block_5 : Block
block_5 = record {
  height = 5;
  time = 1704067301000000000;
  votes = misses_at 3 562566 ∷ votes 1 406468 ∷ [];
  evidence = [];
  txs =
      pays_at 164 [] (msg.WithdrawReward (record { delegator = at 293; validator = at 293 }) ∷ [])
      ∷ pays_at 6 ((ufee, 8803076842873704) ∷ []) (msg.Delegate (record { delegator = at 6; validator = at 253; amount = a_coin uatom 9 }) ∷ [])
      ∷ pays_at 68 [] (msg.WithdrawReward (record { delegator = at 236; validator = at 236 }) ∷ [])
      ∷ [];
}

-- block 6
abbrev pub block_6 : Block
block_6 = record {
  height = 6;
  time = 1704067401000000000;
  votes = misses_at 3 0 ∷ votes 1 0 ∷ [];
  evidence = record { cons = signer 2; height = 5; time = 1704067400999999999; power = 9186634048572135 } ∷ [];
  txs =
      pays_at 164 ((uatom, 1) ∷ []) (
      msg.CreateValidator (record {
        validator = at 293;
        cons = signer 3;
        rate = 71981180016112610;
        max_rate = 71981180016112609;
        max_change_rate = 27728242963426051;
        min_self_delegation = 1;
        amount = a_coin uatom 1;
      })
      ∷ msg.WithdrawReward (record { delegator = at 164; validator = at 253 })
      ∷ msg.CancelUnbonding (record { delegator = at 41; validator = at 236; amount = a_coin uatom 1; creation_height = 2 })
      ∷ [])
      ∷ pays_at 6 [] (
      msg.SetWithdrawAddress (record { delegator = at 6; withdraw = user 148 })
      ∷ msg.CancelUnbonding (record {
        delegator = at 6;
        validator = at 253;
        amount = a_coin uatom 8400934763220704;
        creation_height = 3;
      })
      ∷ [])
      ∷ pays_at 148 [] (
      msg.CancelUnbonding (record { delegator = at 41; validator = at 236; amount = a_coin uatom 1; creation_height = 2 })
      ∷ [])
      ∷ pays_at 164 ((ufee, 2) ∷ []) (msg.WithdrawReward (record { delegator = at 293; validator = at 293 }) ∷ [])
      ∷ pays_at 68 [] (
      msg.Undelegate (record { delegator = at 41; validator = at 236; amount = a_coin uatom 80784079435956172 })
      ∷ [])
      ∷ [];
}

-- block 7
abbrev pub block_7 : Block
block_7 = record {
  height = 7;
  time = 1704067413000000000;
  votes = votes 2 0 ∷ votes 3 6353129977561064 ∷ votes 1 0 ∷ [];
  evidence = [];
  txs =
      pays_at 6 ((aaa, 2929885784296558) ∷ (ufee, 15443434913701061) ∷ []) (msg.WithdrawReward (record { delegator = at 6; validator = at 253 }) ∷ [])
      ∷ [];
}

-- block 8
abbrev pub block_8 : Block
block_8 = record {
  height = 8;
  time = 1704067413000000001;
  votes = votes 3 6353129977561064 ∷ votes 2 0 ∷ votes 1 0 ∷ [];
  evidence = [];
  txs =
      pays_at 6 [] (
      msg.BeginRedelegate (record { delegator = at 164; source = at 253; target = at 236; amount = a_coin uatom 0 })
      ∷ [])
      ∷ pays_at 41 ((zed, 9222927941869265) ∷ (aaa, 28) ∷ (uatom, 1) ∷ (ufee, 157) ∷ []) (msg.Undelegate (record { delegator = at 6; validator = at 236; amount = a_coin uatom 1 }) ∷ [])
      ∷ [];
}

-- block 9
abbrev pub block_9 : Block
block_9 = record { height = 9; time = 250246627200000000000; votes = votes 2 0 ∷ votes 1 0 ∷ []; evidence = []; txs = [] }

-- the report of block 1
abbrev pub told_1 : BlockReport
told_1 = record {
  height = 1;
  time = 1704067300000000000;
  begun = [];
  txs =
      reports (
      fact.Period (at 236) 3 []
      ∷ fact.Transfer (user 6) (account.Module holder.Bonded) ((uatom, 3) ∷ [])
      ∷ fact.Started (at 6) (at 236) 3 3000000000000000000
      ∷ []) Accepted
      ∷ reports (
      fact.Transfer (user 148) (account.Module holder.FeeCollector) ((zed, 331872025781431) ∷ [])
      ∷ fact.Period (at 253) 4 []
      ∷ fact.Paid (at 253) (at 253) (at 253) [] []
      ∷ fact.Jailed (at 253)
      ∷ fact.Transfer (account.Module holder.Bonded) (account.Module holder.NotBonded) ((uatom, 51657944029718292) ∷ [])
      ∷ []) Accepted
      ∷ reports [] (Refused 1 refusal.MinSelfNotRaised)
      ∷ [];
  ended =
      fact.Changed (at 253) Unbonding
      ∷ fact.Transfer (account.Module holder.Bonded) (account.Module holder.NotBonded) ((uatom, 116712180920426761) ∷ [])
      ∷ [];
}

-- the report of block 2
abbrev pub told_2 : BlockReport
told_2 = record {
  height = 2;
  time = 1704067301000000000;
  begun =
      fact.Transfer (account.Module holder.FeeCollector) (account.Module holder.Distribution) ((zed, 331872025781431) ∷ [])
      ∷ fact.Pooled ((zed, 331872025781431000000000000000000) ∷ [])
      ∷ [];
  txs =
      reports (
      fact.Period (at 236) 4 []
      ∷ fact.Paid (at 41) (at 236) (at 41) [] []
      ∷ fact.Started (at 41) (at 236) 4 80784079435956172000000000000000000
      ∷ fact.Transfer (account.Module holder.Bonded) (account.Module holder.NotBonded) ((uatom, 1) ∷ [])
      ∷ []) Accepted
      ∷ reports [] (Refused 0 refusal.NoSelfDelegation)
      ∷ [];
  ended = [];
}

-- the report of block 3
abbrev pub told_3 : BlockReport
told_3 = record {
  height = 3;
  time = 1704067301000000000;
  begun = [];
  txs =
      reports (
      fact.Transfer (user 41) (account.Module holder.FeeCollector) ((zed, 459227362544534) ∷ (aaa, 141) ∷ [])
      ∷ fact.Period (at 253) 5 []
      ∷ fact.Paid (at 164) (at 253) (at 164) [] []
      ∷ fact.Transfer (user 164) (account.Module holder.NotBonded) ((uatom, 20478262213378915) ∷ [])
      ∷ fact.Started (at 164) (at 253) 5 78588732373325341000000000000000000
      ∷ []) Accepted
      ∷ reports (
      fact.Transfer (user 68) (account.Module holder.FeeCollector) ((uatom, 22990619365773529) ∷ [])
      ∷ fact.Period (at 253) 6 []
      ∷ fact.Paid (at 6) (at 253) (at 6) [] []
      ∷ fact.Started (at 6) (at 253) 6 13277608112396000000000000000000000
      ∷ []) Accepted
      ∷ [];
  ended = [];
}

-- the report of block 4
abbrev pub told_4 : BlockReport
told_4 = record {
  height = 4;
  time = 1704067301000000000;
  begun =
      fact.Transfer (account.Module holder.FeeCollector) (account.Module holder.Distribution) ((zed, 459227362544534) ∷ (aaa, 141) ∷ (uatom, 22990619365773529) ∷ [])
      ∷ fact.Pooled (
      (zed, 459227362544534000000000000000000)
      ∷ (aaa, 141000000000000000000)
      ∷ (uatom, 22990619365773529000000000000000000)
      ∷ [])
      ∷ [];
  txs =
      reports (fact.Transfer (user 41) (account.Module holder.FeeCollector) ((ufee, 1036) ∷ []) ∷ []) (Refused 0 refusal.ModuleRecipient)
      ∷ reports [] (Refused 0 refusal.CommissionTooSoon)
      ∷ [];
  ended = [];
}

-- the report of block 5
abbrev pub told_5 : BlockReport
told_5 = record {
  height = 5;
  time = 1704067301000000000;
  begun =
      fact.Transfer (account.Module holder.FeeCollector) (account.Module holder.Distribution) ((ufee, 1036) ∷ [])
      ∷ fact.Pooled ((ufee, 1036000000000000000000) ∷ [])
      ∷ [];
  txs =
      reports (
      fact.Period (at 293) 2 []
      ∷ fact.Paid (at 293) (at 293) (at 293) [] []
      ∷ fact.Started (at 293) (at 293) 2 5000000000000000000
      ∷ []) Accepted
      ∷ reports (
      fact.Transfer (user 6) (account.Module holder.FeeCollector) ((ufee, 8803076842873704) ∷ [])
      ∷ fact.Period (at 253) 7 []
      ∷ fact.Paid (at 6) (at 253) (at 6) [] []
      ∷ fact.Transfer (user 6) (account.Module holder.NotBonded) ((uatom, 9) ∷ [])
      ∷ fact.Started (at 6) (at 253) 7 13277608112396009000000000000000000
      ∷ []) Accepted
      ∷ reports (
      fact.Period (at 236) 5 []
      ∷ fact.Paid (at 236) (at 236) (at 236) [] []
      ∷ fact.Started (at 236) (at 236) 5 63531299775610645000000000000000000
      ∷ []) Accepted
      ∷ [];
  ended = [];
}

-- the report of block 6
abbrev pub told_6 : BlockReport
told_6 = record {
  height = 6;
  time = 1704067401000000000;
  begun =
      fact.Transfer (account.Module holder.FeeCollector) (account.Module holder.Distribution) ((ufee, 8803076842873704) ∷ [])
      ∷ fact.Pooled ((ufee, 8803076842873704000000000000000000) ∷ [])
      ∷ fact.Period (at 253) 8 []
      ∷ fact.Slashed (at 253) 999999999999999990 91866340485721349
      ∷ fact.Burn holder.NotBonded (a_coin uatom 91866340485721349)
      ∷ fact.Tombstoned (at 253)
      ∷ [];
  txs =
      reports (fact.Transfer (user 164) (account.Module holder.FeeCollector) ((uatom, 1) ∷ []) ∷ []) (Refused 0 refusal.CommissionRange)
      ∷ reports [] (Refused 1 refusal.Jailed)
      ∷ reports [] (Refused 0 refusal.NoEntry)
      ∷ reports (
      fact.Transfer (user 164) (account.Module holder.FeeCollector) ((ufee, 2) ∷ [])
      ∷ fact.Period (at 293) 3 []
      ∷ fact.Paid (at 293) (at 293) (at 293) [] []
      ∷ fact.Started (at 293) (at 293) 3 5000000000000000000
      ∷ []) Accepted
      ∷ reports (
      fact.Period (at 236) 6 []
      ∷ fact.Paid (at 41) (at 236) (at 41) [] []
      ∷ fact.Transfer (account.Module holder.Bonded) (account.Module holder.NotBonded) ((uatom, 80784079435956172) ∷ [])
      ∷ []) Accepted
      ∷ [];
  ended =
      fact.Changed (at 253) Unbonded
      ∷ fact.Transfer (account.Module holder.NotBonded) (user 6) ((uatom, 45324102648084335) ∷ [])
      ∷ fact.Transfer (account.Module holder.NotBonded) (user 41) ((uatom, 1) ∷ [])
      ∷ fact.Transfer (account.Module holder.NotBonded) (user 253) ((uatom, 51657944029718292) ∷ [])
      ∷ [];
}

-- the report of block 7
abbrev pub told_7 : BlockReport
told_7 = record {
  height = 7;
  time = 1704067413000000000;
  begun =
      fact.Transfer (account.Module holder.FeeCollector) (account.Module holder.Distribution) ((uatom, 1) ∷ (ufee, 2) ∷ [])
      ∷ fact.Pooled ((uatom, 1000000000000000000) ∷ (ufee, 2000000000000000000) ∷ [])
      ∷ [];
  txs =
      reports (
      fact.Transfer (user 6) (account.Module holder.FeeCollector) ((aaa, 2929885784296558) ∷ (ufee, 15443434913701061) ∷ [])
      ∷ fact.Period (at 253) 9 []
      ∷ fact.Paid (at 6) (at 253) (at 6) [] []
      ∷ fact.Started (at 6) (at 253) 9 144531806123916823
      ∷ []) Accepted
      ∷ [];
  ended = [];
}

-- the report of block 8
abbrev pub told_8 : BlockReport
told_8 = record {
  height = 8;
  time = 1704067413000000001;
  begun =
      fact.Transfer (account.Module holder.FeeCollector) (account.Module holder.Distribution) ((aaa, 2929885784296558) ∷ (ufee, 15443434913701061) ∷ [])
      ∷ fact.Pooled ((aaa, 2929885784296558000000000000000000) ∷ (ufee, 15443434913701061000000000000000000) ∷ [])
      ∷ [];
  txs =
      reports [] (Refused 0 refusal.NonPositive)
      ∷ reports (
      fact.Transfer (user 41) (account.Module holder.FeeCollector) ((zed, 9222927941869265) ∷ (aaa, 28) ∷ (uatom, 1) ∷ (ufee, 157) ∷ [])
      ∷ fact.Period (at 236) 7 []
      ∷ fact.Paid (at 6) (at 236) (at 6) [] []
      ∷ fact.Started (at 6) (at 236) 7 2000000000000000000
      ∷ fact.Transfer (account.Module holder.Bonded) (account.Module holder.NotBonded) ((uatom, 1) ∷ [])
      ∷ []) Accepted
      ∷ [];
  ended = [];
}

-- ---- the rows

-- the blocks in order
abbrev pub random_blocks : List Block
random_blocks = block_1 ∷ block_2 ∷ block_3 ∷ block_4 ∷ block_5 ∷ block_6 ∷ block_7 ∷ block_8 ∷ block_9 ∷ []

-- the history is reported so, and ends before the ninth block, whose time is in the year 9900
abbrev pub RandomHistory : Type 0
RandomHistory =
    ran {A = List BlockReport × Option BlockFault} random_genesis random_blocks (λ r. (r.reports, r.fault))
    ≡ Ok (told_1 ∷ told_2 ∷ told_3 ∷ told_4 ∷ told_5 ∷ told_6 ∷ told_7 ∷ told_8 ∷ [], Some (BadTime 1704067413000000001))

-- all four denominations
abbrev pub all_denominations : List (List ℕ)
all_denominations = zed ∷ aaa ∷ uatom ∷ ufee ∷ []

-- what the two staking accounts hold, and the distribution account of each denomination, in units of 10^-18
abbrev pub held_in : State → Money × Money × List ℕ
held_in w = (
  coins_of w.view.bank (account.Module holder.Bonded),
  coins_of w.view.bank (account.Module holder.NotBonded),
  map (λ d. 10 ^ 18 * balance_of w.view.bank (account.Module holder.Distribution) d) all_denominations,
)

-- what is owed from the same accounts
abbrev pub owed_in : State → Money × Money × List ℕ
owed_in w = (
  bond_coins w.view (owed_from_bonded w.mine.staked),
  bond_coins w.view (owed_from_not_bonded w.mine.staked w.mine.unbondings),
  map (λ d. owed_from_distribution (shared_in w) d) all_denominations,
)

-- after the history the accounts hold what they owe
abbrev pub HoldsAfterHistory : Type 0
HoldsAfterHistory = ran random_genesis random_blocks (λ r. held_in r.state) ≡ ran random_genesis random_blocks (λ r. owed_in r.state)

-- what is there of a denomination, and what blocks say was burned of it
abbrev pub there_and_burned : Run → List ℕ → ℕ
there_and_burned r d = supply_of r.state.view.bank d + sum (map (λ b. burned_in d (facts_of b)) r.reports)

-- both together are what the genesis had
abbrev pub BurnsAfterHistory : Type 0
BurnsAfterHistory =
    ran random_genesis random_blocks (λ r. map (there_and_burned r) all_denominations)
    ≡ Ok (map (amount_of (supplies_with (accounts_at_start random_genesis) [])) all_denominations)
