-- A worked history of eight blocks in which a validator goes with all its records in each of three
-- ways, and is created again: unbonded, as it was never bonded; unbonded after it left the bonded
-- set and was mature; and as it is mature, without shares. A second implementation of the rules
-- gives the same reports and records.
use Rattle.std.specs.Prelude.{◌≡◌, ℕ, ◌+◌, ◌*◌, ◌^◌, true, false, List, [], ◌∷◌, ◌++◌, filter, Option, Some, None, Ok}
use Rattle.base_types.specs.declared.account.Account.{Account}
use Rattle.base_types.specs.declared.account.Account.TheVariants as account
use Rattle.base_types.specs.declared.account.Module.TheVariants as holder
use Rattle.base_types.specs.declared.status.BondStatus.TheVariants.{Bonded, Unbonding, Unbonded}
use Rattle.base_types.specs.Orders.{addr_cmp}
use Rattle.base_roles.specs.declared.entities.Purse.{Purse}
use Rattle.base_roles.specs.declared.entities.RedelegationEntry.{RedelegationEntry}
use Rattle.base_roles.specs.declared.entities.StartingInfo.{StartingInfo}
use Rattle.base_roles.specs.declared.entities.UnbondingEntry.{UnbondingEntry}
use Rattle.base_roles.specs.declared.entities.Validator.{Validator}
use Rattle.base_roles.specs.declared.facts.Fact.TheVariants as fact
use Rattle.base_roles.specs.Entries.{at}
use Rattle.base_roles.specs.Log.{LogEntry}
use Rattle.base_roles.specs.Log as log
use Rattle.base_roles.specs.Orders.{same_addr}
use Rattle.base_roles.specs.Staked.{validator_at}
use Rattle.base_messages.specs.declared.block.Block.{Block}
use Rattle.base_messages.specs.declared.block.Tx.{Tx}
use Rattle.base_messages.specs.declared.faults.BlockFault.{BlockFault}
use Rattle.base_messages.specs.declared.genesis.Genesis.{Genesis}
use Rattle.base_messages.specs.declared.message.Msg.{Msg}
use Rattle.base_messages.specs.declared.message.Msg.TheVariants as msg
use Rattle.base_messages.specs.declared.report.BlockReport.{BlockReport}
use Rattle.base_messages.specs.declared.report.Outcome.TheVariants.{Accepted}
use Rattle.rule_modules.specs.Amounts.{seconds}
use Rattle.rule_modules.specs.Chain.{State, shared_in}
use Rattle.rule_modules.specs.Fixtures.{addr, cons, user, coin, coins, decimals, params, time_of, signs}
use Rattle.rule_modules.specs.Ideal.{history_of}
use Rattle.rule_modules.specs.Periods.{Periods, starts_of}
use Rattle.rule_modules.specs.Redelegations.{RedelegationLists}
use Rattle.rule_modules.specs.Unbondings.{UnbondingLists}
use Rattle.rule_machine.specs.Report.{Delegations}
use Rattle.rule_histories.specs.OutcomeRows.{creation, delegation}
use Rattle.rule_histories.specs.WholeRows.{holds, operates, delegates, block_of, pays, ran}

-- ---- the genesis and the blocks

-- the accounts of staked coins
abbrev pub bonded : Account
bonded = account.Module holder.Bonded

abbrev pub not_bonded : Account
not_bonded = account.Module holder.NotBonded

-- the account of fees and rewards
abbrev pub distribution : Account
distribution = account.Module holder.Distribution

-- the time that unbonding takes: 21 days
abbrev pub three_weeks : ℕ
three_weeks = seconds 1814400

-- a validator of 2,000,000; user 3 has 2,000,000, and user 4 has 1,000,250
abbrev pub one_operator : Genesis
one_operator = record {
  time = time_of 0;
  params = params;
  accounts = holds 3 2000000 ∷ holds 4 1000250 ∷ [];
  validators = operates 1 0 ∷ [];
  delegations = delegates 1 1 2000000 ∷ [];
}

-- user 3 undelegates 1,000,000 from its own validator
abbrev pub undelegation : Msg
undelegation = msg.Undelegate (record {
  delegator = addr 3;
  validator = addr 3;
  amount = coin 1000000;
})

-- User 3 creates a validator of a rate of 0.1 with 1,000,000, and undelegates all of it in the same
-- transaction.
abbrev pub first : Block
first = block_of 1 [] [] (pays 3 0 (creation 3 3 1000000 ∷ undelegation ∷ []) ∷ [])

-- User 3 creates it again, with the same consensus address; user 4 delegates 1,000,000 to it, with
-- a fee of 250.
abbrev pub second : Block
second = block_of 2 [] [] (
    pays 3 0 (creation 3 3 1000000 ∷ [])
    ∷ pays 4 250 (delegation 4 3 1000000 ∷ [])
    ∷ [])

-- two votes of equal power; user 3 undelegates all that it has
abbrev pub third : Block
third = block_of 3 (signs 1 2 ∷ signs 3 2 ∷ []) [] (pays 3 0 (undelegation ∷ []) ∷ [])

-- a block 21 days later than its height has it, with one vote
abbrev pub late : ℕ → List Tx → Block
late height txs = record (block_of height (signs 1 2 ∷ []) [] txs) {
  time = time_of height + three_weeks;
}

-- nothing is asked
abbrev pub fourth : Block
fourth = late 4 []

-- user 4 redelegates 1,000,000 to the first validator
abbrev pub redelegation : Msg
redelegation = msg.BeginRedelegate (record {
  delegator = addr 4;
  source = addr 3;
  target = addr 1;
  amount = coin 1000000;
})

-- which is all that the other one has
abbrev pub fifth : Block
fifth = late 5 (pays 4 0 (redelegation ∷ []) ∷ [])

-- user 3 creates its validator for the third time
abbrev pub sixth : Block
sixth = late 6 (pays 3 0 (creation 3 3 1000000 ∷ []) ∷ [])

-- and undelegates all of it
abbrev pub seventh : Block
seventh = late 7 (pays 3 0 (undelegation ∷ []) ∷ [])

-- again 21 days later nothing is asked
abbrev pub eighth : Block
eighth = record (late 8 []) { time = time_of 8 + three_weeks + three_weeks }

-- all but the last two
abbrev pub six_blocks : List Block
six_blocks = first ∷ second ∷ third ∷ fourth ∷ fifth ∷ sixth ∷ []

-- all
abbrev pub eight_blocks : List Block
eight_blocks = six_blocks ++ seventh ∷ eighth ∷ []

-- ---- what is told

-- The validator was never bonded, so it goes with its last shares, in the transaction of its
-- creation.
abbrev pub first_told : BlockReport
first_told = record {
  height = 1;
  time = time_of 1;
  begun = [];
  txs = record {
    facts =
        fact.Period (addr 3) 1 []
        ∷ fact.Transfer (user 3) not_bonded (coins 1000000)
        ∷ fact.Started (addr 3) (addr 3) 1 (1000000 * 10 ^ 18)
        ∷ fact.Period (addr 3) 2 []
        ∷ fact.Paid (addr 3) (addr 3) (addr 3) [] []
        ∷ fact.Jailed (addr 3)
        ∷ fact.Removed (addr 3)
        ∷ [];
    outcome = Accepted;
  } ∷ [];
  ended = [];
}

-- its periods begin anew; it joins the bonded set
abbrev pub second_told : BlockReport
second_told = record {
  height = 2;
  time = time_of 2;
  begun = [];
  txs = record {
    facts =
        fact.Period (addr 3) 1 []
        ∷ fact.Transfer (user 3) not_bonded (coins 1000000)
        ∷ fact.Started (addr 3) (addr 3) 1 (1000000 * 10 ^ 18)
        ∷ [];
    outcome = Accepted;
  } ∷ record {
    facts =
        fact.Transfer (user 4) (account.Module holder.FeeCollector) (coins 250)
        ∷ fact.Period (addr 3) 2 []
        ∷ fact.Transfer (user 4) not_bonded (coins 1000000)
        ∷ fact.Started (addr 4) (addr 3) 2 (1000000 * 10 ^ 18)
        ∷ [];
    outcome = Accepted;
  } ∷ [];
  ended =
      fact.Changed (addr 3) Bonded
      ∷ fact.Transfer not_bonded bonded (coins 2000000)
      ∷ [];
}

-- Half of the fees of 250 are for each validator. Without a stake of its operator the second one is
-- jailed, and leaves the bonded set.
abbrev pub third_told : BlockReport
third_told = record {
  height = 3;
  time = time_of 3;
  begun =
      fact.Transfer (account.Module holder.FeeCollector) distribution (coins 250)
      ∷ fact.Allocated (addr 1) (decimals (125 * 10 ^ 18))
      ∷ fact.Allocated (addr 3) (decimals (125 * 10 ^ 18))
      ∷ [];
  txs = record {
    facts =
        fact.Period (addr 3) 3 (decimals 56250000000000)
        ∷ fact.Transfer distribution (user 3) (coins 56)
        ∷ fact.Pooled (decimals (25 * 10 ^ 16))
        ∷ fact.Paid (addr 3) (addr 3) (addr 3) (decimals (5625 * 10 ^ 16)) (coins 56)
        ∷ fact.Jailed (addr 3)
        ∷ fact.Transfer bonded not_bonded (coins 1000000)
        ∷ [];
    outcome = Accepted;
  } ∷ [];
  ended =
      fact.Changed (addr 3) Unbonding
      ∷ fact.Transfer bonded not_bonded (coins 1000000)
      ∷ [];
}

-- The validator is mature, and stays for the delegation that it has. User 3 has back what it
-- undelegated from both.
abbrev pub fourth_told : BlockReport
fourth_told = record {
  height = 4;
  time = time_of 4 + three_weeks;
  begun = [];
  txs = [];
  ended =
      fact.Changed (addr 3) Unbonded
      ∷ fact.Transfer not_bonded (user 3) (coins 1000000)
      ∷ fact.Transfer not_bonded (user 3) (coins 1000000)
      ∷ [];
}

-- The last delegation goes, and the validator with it: of its commission of 12.5 its operator has
-- 12, and the rest joins the pool.
abbrev pub fifth_told : BlockReport
fifth_told = record {
  height = 5;
  time = time_of 5 + three_weeks;
  begun = [];
  txs = record {
    facts =
        fact.Period (addr 3) 4 (decimals 56250000000000)
        ∷ fact.Transfer distribution (user 4) (coins 56)
        ∷ fact.Pooled (decimals (25 * 10 ^ 16))
        ∷ fact.Paid (addr 4) (addr 3) (addr 4) (decimals (5625 * 10 ^ 16)) (coins 56)
        ∷ fact.Transfer distribution (user 3) (coins 12)
        ∷ fact.Commission (addr 3) (addr 3) (coins 12)
        ∷ fact.Pooled (decimals (5 * 10 ^ 17))
        ∷ fact.Removed (addr 3)
        ∷ fact.Period (addr 1) 2 (decimals 62500000000000)
        ∷ fact.Transfer not_bonded bonded (coins 1000000)
        ∷ fact.Started (addr 4) (addr 1) 2 (1000000 * 10 ^ 18)
        ∷ [];
    outcome = Accepted;
  } ∷ [];
  ended = [];
}

-- again its periods begin anew, and it joins the bonded set
abbrev pub sixth_told : BlockReport
sixth_told = record {
  height = 6;
  time = time_of 6 + three_weeks;
  begun = [];
  txs = record {
    facts =
        fact.Period (addr 3) 1 []
        ∷ fact.Transfer (user 3) not_bonded (coins 1000000)
        ∷ fact.Started (addr 3) (addr 3) 1 (1000000 * 10 ^ 18)
        ∷ [];
    outcome = Accepted;
  } ∷ [];
  ended =
      fact.Changed (addr 3) Bonded
      ∷ fact.Transfer not_bonded bonded (coins 1000000)
      ∷ [];
}

-- without a stake of its operator it is jailed, and leaves the bonded set with no tokens
abbrev pub seventh_told : BlockReport
seventh_told = record {
  height = 7;
  time = time_of 7 + three_weeks;
  begun = [];
  txs = record {
    facts =
        fact.Period (addr 3) 2 []
        ∷ fact.Paid (addr 3) (addr 3) (addr 3) [] []
        ∷ fact.Jailed (addr 3)
        ∷ fact.Transfer bonded not_bonded (coins 1000000)
        ∷ [];
    outcome = Accepted;
  } ∷ [];
  ended = fact.Changed (addr 3) Unbonding ∷ [];
}

-- it is mature, and goes since it has no shares; user 3 has back what it undelegated
abbrev pub eighth_told : BlockReport
eighth_told = record {
  height = 8;
  time = time_of 8 + three_weeks + three_weeks;
  begun = [];
  txs = [];
  ended =
      fact.Changed (addr 3) Unbonded
      ∷ fact.Removed (addr 3)
      ∷ fact.Transfer not_bonded (user 3) (coins 1000000)
      ∷ [];
}

-- the eight reports
abbrev pub eight_told : List BlockReport
eight_told =
    first_told ∷ second_told ∷ third_told ∷ fourth_told ∷ fifth_told ∷ sixth_told ∷ seventh_told
    ∷ eighth_told ∷ []

-- the eight blocks are told so
abbrev pub LeavingIsTold : Type 0
LeavingIsTold =
    ran {A = List BlockReport × Option BlockFault} one_operator eight_blocks
    (λ r. (r.reports, r.fault))
    ≡ Ok (eight_told, None)

-- ---- what is held of the operator

-- what a state holds of an operator: its validator, the delegations to it, its purse, its periods,
-- and where the rewards of its delegations begin
pub record Held : Type 0 where
  pub validator : Option Validator
  pub delegations : Delegations
  pub purse : Option Purse
  pub periods : Option Periods
  pub starts : List StartingInfo

-- of the operator of user 3
abbrev pub held_of : State → Held
held_of w = record {
  validator = validator_at w.mine.staked (addr 3);
  delegations = filter (λ e. same_addr e.0.0 (addr 3)) w.mine.staked.delegations;
  purse = at addr_cmp (shared_in w).purses.purses (addr 3);
  periods = at addr_cmp (shared_in w).rewards.periods (addr 3);
  starts = starts_of (shared_in w).rewards (addr 3);
}

-- nothing of it is left
abbrev pub nothing_held : Held
nothing_held = record {
  validator = None;
  delegations = [];
  purse = None;
  periods = None;
  starts = [];
}

-- what was undelegated in the first block is to be paid after 21 days
abbrev pub first_entry : UnbondingEntry
first_entry = record {
  created = 1;
  completes = time_of 1 + three_weeks;
  initial = 1000000;
  balance = 1000000;
}

-- After the first block nothing is left but the entry of what was undelegated.
abbrev pub GoneAtOnce : Type 0
GoneAtOnce =
    ran {A = Held × UnbondingLists} one_operator (first ∷ [])
    (λ r. (held_of r.state, r.state.mine.unbondings))
    ≡ Ok (nothing_held, ((addr 3, addr 3), first_entry ∷ []) ∷ [])

-- the validator, unbonded and jailed, with 1,000,000, whose rate is that of a time
abbrev pub operator_then : ℕ → Validator
operator_then since = record {
  operator = addr 3;
  cons = cons 3;
  status = Unbonded;
  jailed = true;
  tokens = 1000000;
  shares = 1000000 * 10 ^ 18;
  commission = record { rate = 10 ^ 17; max_rate = 10 ^ 18; max_change = 10 ^ 18; updated = since };
  min_self = 1;
  unbonding_height = 3;
  unbonding_time = time_of 3 + three_weeks;
}

-- After the fourth block the validator is unbonded, with the delegation of user 4; 56.25 of what is
-- outstanding are its reward, and 12.5 the commission.
abbrev pub HeldWhileUnbonded : Type 0
HeldWhileUnbonded =
    ran one_operator (first ∷ second ∷ third ∷ fourth ∷ []) (λ r. held_of r.state)
    ≡ Ok (record {
      validator = Some (operator_then (time_of 2));
      delegations = ((addr 3, addr 4), 1000000 * 10 ^ 18) ∷ [];
      purse = Some (record {
        outstanding = decimals (6875 * 10 ^ 16);
        commission = decimals (125 * 10 ^ 17);
        current = [];
      });
      periods = Some (record {
        current = 4;
        ratios = (3, decimals 56250000000000) ∷ (2, []) ∷ (1, []) ∷ (0, []) ∷ [];
        events = [];
      });
      starts = record { period = 2; stake = 1000000 * 10 ^ 18; height = 2 } ∷ [];
    })

-- what was redelegated in the fifth block does not move on for 21 days
abbrev pub move : RedelegationEntry
move = record {
  created = 5;
  completes = time_of 5 + three_weeks + three_weeks;
  initial = 1000000;
  shares_dst = 1000000 * 10 ^ 18;
}

-- After the fifth block nothing is left but the entry of what was redelegated, which names the
-- operator still.
abbrev pub GoneWithLastDelegation : Type 0
GoneWithLastDelegation =
    ran {A = Held × RedelegationLists} one_operator (first ∷ second ∷ third ∷ fourth ∷ fifth ∷ [])
    (λ r. (held_of r.state, r.state.mine.redelegations))
    ≡ Ok (nothing_held, ((addr 4, addr 3, addr 1), move ∷ []) ∷ [])

-- ---- the third creation

-- what a creation makes of the operator's records
abbrev pub newly_held : Held
newly_held = record {
  validator = Some (record (operator_then (time_of 6 + three_weeks)) {
    status = Bonded;
    jailed = false;
    unbonding_height = 0;
    unbonding_time = 0;
  });
  delegations = ((addr 3, addr 3), 1000000 * 10 ^ 18) ∷ [];
  purse = Some (record { outstanding = []; commission = []; current = [] });
  periods = Some (record { current = 2; ratios = (1, []) ∷ (0, []) ∷ []; events = [] });
  starts = record { period = 1; stake = 1000000 * 10 ^ 18; height = 6 } ∷ [];
}

-- and what happens at it, for the laws of rewards
abbrev pub happened_since : List LogEntry
happened_since =
    log.ended 1 [] 0
    ∷ log.started (addr 3) (1000000 * 10 ^ 18) 1000000 (1000000 * 10 ^ 18) (1000000 * 10 ^ 18)
    ∷ []

-- After the sixth block that is all that is held of the operator, and all of its history.
abbrev pub BegunAnew : Type 0
BegunAnew =
    ran {A = Held × List LogEntry} one_operator six_blocks
    (λ r. (held_of r.state, history_of (addr 3) r.state.log []))
    ≡ Ok (newly_held, happened_since)

-- ---- a validator without shares

-- While it is not mature it stands, with neither tokens nor shares, and no delegations.
abbrev pub held_without_shares : Held
held_without_shares = record {
  validator = Some (record (operator_then (time_of 6 + three_weeks)) {
    status = Unbonding;
    tokens = 0;
    shares = 0;
    unbonding_height = 7;
    unbonding_time = time_of 7 + three_weeks + three_weeks;
  });
  delegations = [];
  purse = Some (record { outstanding = []; commission = []; current = [] });
  periods = Some (record { current = 3; ratios = (2, []) ∷ (1, []) ∷ (0, []) ∷ []; events = [] });
  starts = [];
}

-- So it is after the seventh block.
abbrev pub HeldWithoutShares : Type 0
HeldWithoutShares =
    ran one_operator (six_blocks ++ seventh ∷ []) (λ r. held_of r.state) ≡ Ok held_without_shares

-- After the eighth nothing is left of it, nor an entry of what was undelegated or redelegated.
abbrev pub GoneAsItMatures : Type 0
GoneAsItMatures =
    ran {A = Held × UnbondingLists × RedelegationLists} one_operator eight_blocks
    (λ r. (held_of r.state, r.state.mine.unbondings, r.state.mine.redelegations))
    ≡ Ok (nothing_held, [], [])
