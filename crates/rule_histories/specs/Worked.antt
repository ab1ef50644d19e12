-- Worked rows of sends and fees, and of geneses without validators, each by computing.
use Rattle.std.specs.Prelude.{◌≡◌, ℕ, ◌+◌, ◌-◌, ◌*◌, ◌^◌, true, List, [], ◌∷◌, ◌++◌, map, Some, None, replicate, codes, Ok}
use Rattle.base_types.specs.declared.account.Account.{Account}
use Rattle.base_types.specs.declared.account.Account.TheVariants as account
use Rattle.base_types.specs.declared.account.Module.TheVariants.{FeeCollector, Bonded}
use Rattle.base_coins.specs.Coins.{Money, sorted_coins}
use Rattle.base_roles.specs.declared.facts.Fact.{Fact}
use Rattle.base_roles.specs.declared.facts.Fact.TheVariants.{Transfer}
use Rattle.base_roles.specs.declared.items.Item.{Item}
use Rattle.base_roles.specs.declared.items.Item.TheVariants as item
use Rattle.base_roles.specs.declared.params.Params.{Params}
use Rattle.base_roles.specs.declared.refusal.Refusal.TheVariants.{InsufficientFunds, ModuleRecipient, NonPositive}
use Rattle.base_roles.specs.Holdings.{Holdings}
use Rattle.base_messages.specs.declared.block.Block.{Block}
use Rattle.base_messages.specs.declared.block.Tx.{Tx}
use Rattle.base_messages.specs.declared.faults.BlockFault.TheVariants.{BadHeight, BadTime}
use Rattle.base_messages.specs.declared.genesis.Genesis.{Genesis}
use Rattle.base_messages.specs.declared.genesis.GenesisAccount.{GenesisAccount}
use Rattle.base_messages.specs.declared.message.Msg.{Msg}
use Rattle.base_messages.specs.declared.message.Msg.TheVariants as msg
use Rattle.base_messages.specs.declared.report.Outcome.{Outcome}
use Rattle.base_messages.specs.declared.report.Outcome.TheVariants.{Accepted, FeeUnpaid, Refused}
use Rattle.rule_modules.specs.Chain.{State}
use Rattle.rule_machine.specs.Blocks.{block_fault}
use Rattle.rule_machine.specs.GenesisConditions.{start_condition}
use Rattle.rule_machine.specs.GenesisState.{chain_started, empty_over}
use Rattle.rule_machine.specs.Items.{items_of}
use Rattle.rule_machine.specs.Machine.{TxStep, run_of, tx_applied}

-- ---- what the rows are about

-- the addresses of forty equal digits
abbrev pub ones : List ℕ
ones = replicate 20 17

abbrev pub twos : List ℕ
twos = replicate 20 34

abbrev pub collector : Account
collector = account.Module FeeCollector

abbrev pub atoms : ℕ → Money
atoms n = (codes "uatom", n) ∷ []

-- the first nanosecond of the year 2024
abbrev pub new_year : ℕ
new_year = 1_704_067_200 * 10 ^ 9

abbrev pub some_params : Params
some_params = record {
  bond_denom = codes "uatom";
  power_reduction = 1_000_000;
  unbonding_time = 1_814_400;
  max_validators = 180;
  max_entries = 7;
  min_commission_rate = 0;
  community_tax = 20_000_000_000_000_000;
  withdraw_addr_enabled = true;
  signed_blocks_window = 10_000;
  min_signed_per_window = 50_000_000_000_000_000;
  downtime_jail_duration = 600;
  slash_fraction_double_sign = 50_000_000_000_000_000;
  slash_fraction_downtime = 100_000_000_000_000;
  max_age_duration = 172_800;
  max_age_num_blocks = 100_000;
  authority = replicate 20 153;
}

abbrev pub account_of : List ℕ → Money → GenesisAccount
account_of bytes coins = record { address = account.User bytes; coins = coins }

abbrev pub genesis_with : Params → List GenesisAccount → Genesis
genesis_with p accounts = record { time = new_year; params = p; accounts = accounts; validators = []; delegations = [] }

-- one account of 1,000 uatom
abbrev pub one_account : Genesis
one_account = genesis_with some_params (account_of ones (atoms 1000) ∷ [])

abbrev pub block_at : ℕ → ℕ → List Tx → Block
block_at height time txs = record { height = height; time = time; votes = []; evidence = []; txs = txs }

abbrev pub send_to : Account → Money → Msg
send_to to coins = msg.Send (record { from = ones; to = to; coins = coins })

abbrev pub tx_of : Money → List Msg → Tx
tx_of fee msgs = record { payer = ones; fee = fee; msgs = msgs }

-- a state of accounts alone, at the new year, with these facts
abbrev pub state_of : Holdings → List Fact → State
state_of h facts = empty_over (record { bank = h; ctx = record { height = 0; time = new_year; params = some_params }; facts = facts })

-- the account of ones alone holds this
abbrev pub held_by_ones : ℕ → Holdings
held_by_ones n = record { balances = ((account.User ones, codes "uatom"), n) ∷ []; supplies = atoms n }

-- the state that the genesis of one account starts
abbrev pub first_state : State
first_state = state_of (held_by_ones 1000) []

-- a transaction in a state in which this is held
abbrev pub applied : Tx → Holdings → TxStep
applied tx h = tx_applied tx (state_of h [])

-- what it comes to
abbrev pub comes_to : List Fact → Outcome → Holdings → TxStep
comes_to facts outcome h = record { report = record { facts = facts; outcome = outcome }; state = state_of h facts }

-- ---- what a genesis starts

abbrev pub OneAccountStarts : Type 0
OneAccountStarts = chain_started one_account ≡ Ok (record { facts = []; state = first_state })

-- ---- runs

-- a first block of one transaction, five seconds later
abbrev pub first_with : Tx → Block
first_with tx = block_at 1 (new_year + 5 * 10 ^ 9) (tx ∷ [])

-- a block of one send of 100 uatom with a fee of 10: the account keeps 890
abbrev pub one_send : Block
one_send = first_with (tx_of (atoms 10) (send_to (account.User twos) (atoms 100) ∷ []))

abbrev pub OneSend : Type 0
OneSend = run_of (one_send ∷ []) first_state ≡ record {
  reports = record {
    height = 1;
    time = new_year + 5 * 10 ^ 9;
    begun = [];
    txs = record { facts = Transfer (account.User ones) collector (atoms 10) ∷ Transfer (account.User ones) (account.User twos) (atoms 100) ∷ []; outcome = Accepted } ∷ [];
    ended = [];
  } ∷ [];
  state = empty_over (record {
    bank = record {
      balances = ((account.User ones, codes "uatom"), 890) ∷ ((account.User twos, codes "uatom"), 100) ∷ ((collector, codes "uatom"), 10) ∷ [];
      supplies = atoms 1000;
    };
    ctx = record { height = 1; time = new_year + 5 * 10 ^ 9; params = some_params };
    facts = [];
  });
  fault = None;
}

-- a block of height 3 after one of height 1: 2 is due, and the run ends before it
abbrev pub HeightMissed : Type 0
HeightMissed = (run_of (block_at 1 new_year [] ∷ block_at 3 new_year [] ∷ []) first_state).fault ≡ Some (BadHeight 2)

-- a time one nanosecond before the last
abbrev pub TimeBefore : Type 0
TimeBefore = block_fault 0 new_year (block_at 1 (new_year - 1) []) ≡ Some (BadTime new_year)

-- the last time again
abbrev pub TimeAgain : Type 0
TimeAgain = block_fault 0 new_year (block_at 1 new_year []) ≡ None

-- the first nanosecond of the year 9900
abbrev pub TimePast : Type 0
TimePast = block_fault 0 new_year (block_at 1 (250_246_627_200 * 10 ^ 9) []) ≡ Some (BadTime new_year)

-- ---- what a block changes of what is kept

-- the balance of an account of uatom
abbrev pub has_atoms : Account → ℕ → Item
has_atoms who n = item.Balance who (codes "uatom") n

-- all items of a state of accounts alone, at a height and time: with the parameters, balances, one supply and an empty pool
abbrev pub items_with : ℕ → ℕ → List Item → List Item
items_with height time balances =
    item.Head height time ∷ item.Parameters some_params ∷ balances ++ item.Supply (codes "uatom") 1000 ∷ item.Pool [] ∷ []

-- the items behind a first block
abbrev pub kept_behind : Block → List Item
kept_behind b = items_of (run_of (b ∷ []) first_state).state

-- The block of one send changes four items: the head, and three balances, of which two are new.
pub record SendChangesFour : Type 0 where
  pub before : items_of first_state ≡ items_with 0 new_year (has_atoms (account.User ones) 1000 ∷ [])
  pub behind : kept_behind one_send
      ≡ items_with 1 (new_year + 5 * 10 ^ 9)
      (has_atoms (account.User ones) 890 ∷ has_atoms (account.User twos) 100 ∷ has_atoms collector 10 ∷ [])

-- two sends of 600 from the account of 1,000, without a fee
abbrev pub two_sends : Block
two_sends = first_with (tx_of [] (send_to (account.User twos) (atoms 600) ∷ send_to (account.User twos) (atoms 600) ∷ []))

-- The second is refused, and the first is undone: the block changes the head alone.
pub record RefusedChangesHead : Type 0 where
  pub refused : map (λ b. map (λ t. t.outcome) b.txs) (run_of (two_sends ∷ []) first_state).reports
      ≡ (Refused 1 InsufficientFunds ∷ []) ∷ []
  pub behind : kept_behind two_sends ≡ items_with 1 (new_year + 5 * 10 ^ 9) (has_atoms (account.User ones) 1000 ∷ [])

-- ---- transactions

-- two sends of 60 from an account of 101 that pays a fee of 1: the second is refused, and 100 are left
abbrev pub SecondSendShort : Type 0
SecondSendShort =
    applied (tx_of (atoms 1) (send_to (account.User twos) (atoms 60) ∷ send_to (account.User twos) (atoms 60) ∷ [])) (held_by_ones 101)
    ≡ comes_to (Transfer (account.User ones) collector (atoms 1) ∷ []) (Refused 1 InsufficientFunds) (record {
      balances = ((account.User ones, codes "uatom"), 100) ∷ ((collector, codes "uatom"), 1) ∷ [];
      supplies = atoms 101;
    })

-- 2 uosmo and 1 uatom, given in this order: the transfer tells them in the order of their names
abbrev pub TwoDenominations : Type 0
TwoDenominations =
    applied (tx_of [] (send_to (account.User twos) (sorted_coins ((codes "uosmo", 2) ∷ (codes "uatom", 1) ∷ [])) ∷ [])) (record {
      balances = ((account.User ones, codes "uatom"), 1) ∷ ((account.User ones, codes "uosmo"), 5) ∷ [];
      supplies = (codes "uatom", 1) ∷ (codes "uosmo", 5) ∷ [];
    })
    ≡ comes_to (Transfer (account.User ones) (account.User twos) ((codes "uatom", 1) ∷ (codes "uosmo", 2) ∷ []) ∷ []) Accepted (record {
      balances = ((account.User ones, codes "uosmo"), 3) ∷ ((account.User twos, codes "uatom"), 1) ∷ ((account.User twos, codes "uosmo"), 2) ∷ [];
      supplies = (codes "uatom", 1) ∷ (codes "uosmo", 5) ∷ [];
    })

-- a payer of 9 with a fee of 10: nothing changes
abbrev pub FeeTooHigh : Type 0
FeeTooHigh = applied (tx_of (atoms 10) []) (held_by_ones 9) ≡ comes_to [] FeeUnpaid (held_by_ones 9)

-- a send to the bonded account, and one of no coins, each without a fee
abbrev pub ToAModule : Type 0
ToAModule = applied (tx_of [] (send_to (account.Module Bonded) (atoms 1) ∷ [])) (held_by_ones 9) ≡ comes_to [] (Refused 0 ModuleRecipient) (held_by_ones 9)

abbrev pub NoCoins : Type 0
NoCoins = applied (tx_of [] (send_to (account.User twos) [] ∷ [])) (held_by_ones 9) ≡ comes_to [] (Refused 0 NonPositive) (held_by_ones 9)

-- ---- geneses

abbrev pub MayStart : Type 0
MayStart = start_condition one_account ≡ None

-- a power reduction of 0
abbrev pub ParameterOutOfRange : Type 0
ParameterOutOfRange = start_condition (genesis_with (record some_params { power_reduction = 0 }) []) ≡ Some 1

-- the fee collector among the accounts, and an account that stands twice
abbrev pub ModuleAccount : Type 0
ModuleAccount = start_condition (genesis_with some_params (record { address = collector; coins = [] } ∷ [])) ≡ Some 2

abbrev pub AccountTwice : Type 0
AccountTwice = start_condition (genesis_with some_params (account_of ones (atoms 1) ∷ account_of ones (atoms 2) ∷ [])) ≡ Some 2

-- two accounts of together 10^18 + 1 uatom
abbrev pub TooMuch : Type 0
TooMuch = start_condition (genesis_with some_params (account_of ones (atoms (10 ^ 18)) ∷ account_of twos (atoms 1) ∷ [])) ≡ Some 11
