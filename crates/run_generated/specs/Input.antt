-- The generated input: a genesis, and blocks that are drawn from a seed.
use Rattle.std.specs.Prelude.{ℕ, ◌+◌, ◌-◌, ◌*◌, ◌%◌, ◌^◌, ◌==◌, nat_lt, true, not, if◌then◌else◌, List, [], ◌∷◌, map, codes}
use Rattle.base_types.specs.declared.account.Account.TheVariants as account
use Rattle.base_coins.specs.declared.coin.Coin.{Coin}
use Rattle.base_coins.specs.Coins.{Money, with_amount}
use Rattle.base_roles.specs.declared.messages.Evidence.{Evidence}
use Rattle.base_roles.specs.declared.messages.Vote.{Vote}
use Rattle.base_roles.specs.declared.params.Params.{Params}
use Rattle.base_messages.specs.declared.block.Block.{Block}
use Rattle.base_messages.specs.declared.block.Tx.{Tx}
use Rattle.base_messages.specs.declared.genesis.Genesis.{Genesis}
use Rattle.base_messages.specs.declared.genesis.GenesisAccount.{GenesisAccount}
use Rattle.base_messages.specs.declared.genesis.GenesisDelegation.{GenesisDelegation}
use Rattle.base_messages.specs.declared.genesis.GenesisValidator.{GenesisValidator}
use Rattle.base_messages.specs.declared.message.Msg.{Msg}
use Rattle.base_messages.specs.declared.message.Msg.TheVariants as msg
use Rattle.run_generated.specs.declared.choices.Choices.{Choices}
use Rattle.run_generated.specs.Drawing.{Draw, ◌>>=◌, done, pick, in_turn, numbers_from}

-- ---- names

-- The address of a number below 256: the byte 40 (hexadecimal), eleven zeros, and the number in eight bytes.
abbrev pub address : ℕ → List ℕ
address n = 64 ∷ 0 ∷ 0 ∷ 0 ∷ 0 ∷ 0 ∷ 0 ∷ 0 ∷ 0 ∷ 0 ∷ 0 ∷ 0 ∷ 0 ∷ 0 ∷ 0 ∷ 0 ∷ 0 ∷ 0 ∷ 0 ∷ n ∷ []

-- The consensus address of a number below 256, which begins with the byte 50.
abbrev pub signer : ℕ → List ℕ
signer n = 80 ∷ 0 ∷ 0 ∷ 0 ∷ 0 ∷ 0 ∷ 0 ∷ 0 ∷ 0 ∷ 0 ∷ 0 ∷ 0 ∷ 0 ∷ 0 ∷ 0 ∷ 0 ∷ 0 ∷ 0 ∷ 0 ∷ n ∷ []

-- the one denomination
abbrev pub uatom : List ℕ
uatom = codes "uatom"

-- n of it, as a coin
abbrev pub coin : ℕ → Coin
coin n = record { denom = uatom; amount = n }

-- n of it, as a list of coins
abbrev pub coins : ℕ → Money
coins n = with_amount [] uatom n

-- five seconds for each block, after 2024-01-01T00:00:00Z
abbrev pub time_at : ℕ → ℕ
time_at height = (1704067200 + 5 * height) * 10 ^ 9

-- ---- the genesis

-- the parameters
abbrev pub parameters : Params
parameters = record {
  bond_denom = uatom;
  power_reduction = 1000000;
  unbonding_time = 1000;
  max_validators = 8;
  max_entries = 7;
  min_commission_rate = 0;
  community_tax = 2 * 10 ^ 16;
  withdraw_addr_enabled = true;
  signed_blocks_window = 100;
  min_signed_per_window = 5 * 10 ^ 17;
  downtime_jail_duration = 600;
  slash_fraction_double_sign = 5 * 10 ^ 16;
  slash_fraction_downtime = 10 ^ 14;
  max_age_duration = 172800;
  max_age_num_blocks = 100000;
  authority = address 39;
}

-- a user has 1,000,000,000
abbrev pub account_at : ℕ → GenesisAccount
account_at n = record { address = account.User (address n); coins = coins 1000000000 }

-- a validator takes a tenth of its rewards
abbrev pub validator_at : ℕ → GenesisValidator
validator_at n = record {
  operator = address n;
  cons = signer n;
  rate = 10 ^ 17;
  max_rate = 5 * 10 ^ 17;
  max_change_rate = 10 ^ 17;
  min_self_delegation = 1;
}

-- an operator delegates 10,000,000 to itself
abbrev pub delegation_at : ℕ → GenesisDelegation
delegation_at n = record { delegator = address n; validator = address n; amount = 10000000 }

-- Forty users, of whom the first ten are operators. Nothing is drawn for it.
abbrev pub first_genesis : Genesis
first_genesis = record {
  time = time_at 0;
  params = parameters;
  accounts = map account_at (numbers_from 0 40);
  validators = map validator_at (numbers_from 0 10);
  delegations = map delegation_at (numbers_from 0 10);
}

-- ---- a block

-- one vote in twenty is missed
abbrev pub vote_drawn : ℕ → Draw Vote
vote_drawn n = do
  missed ← pick 20
  done (record { cons = signer n; power = 10; signed = not (missed == 0) })

-- evidence against some validator, of the block before
abbrev pub offence_drawn : ℕ → Draw (List Evidence)
offence_drawn height = do
  offender ← pick 10
  done (record { cons = signer offender; height = height - 1; time = time_at (height - 1); power = 10 } ∷ [])

-- evidence in one block of five hundred
abbrev pub chance_drawn : ℕ → Draw (List Evidence)
chance_drawn height = do
  chance ← pick 500
  if chance == 0 then offence_drawn height else done []

-- nothing is drawn for the first block, which has none before it
abbrev pub evidence_drawn : ℕ → Draw (List Evidence)
evidence_drawn height = if nat_lt height 2 then done [] else chance_drawn height

-- What a transaction is made of, which is drawn whatever its kind is. A delegator is no operator.
abbrev pub choices_drawn : Draw Choices
choices_drawn = do
  kind ← pick 6
  delegator ← pick 30
  validator ← pick 10
  amount ← pick 1000000
  other ← pick 40
  done (record { kind = kind; delegator = 10 + delegator; validator = validator; amount = 1 + amount; other = other })

-- The one message of a transaction. Operators never lower their own delegations, so no validator vanishes.
abbrev pub message_of : Choices → Msg
message_of n =
    if n.kind == 0 then msg.Delegate (record { delegator = address n.delegator; validator = address n.validator; amount = coin n.amount })
    else (if n.kind == 1 then msg.Undelegate (record { delegator = address n.delegator; validator = address n.validator; amount = coin n.amount })
    else (if n.kind == 2 then msg.BeginRedelegate (record {
      delegator = address n.delegator;
      source = address n.validator;
      target = address (n.other % 10);
      amount = coin n.amount;
    })
    else (if n.kind == 3 then msg.WithdrawReward (record { delegator = address n.delegator; validator = address n.validator })
    else (if n.kind == 4 then msg.WithdrawCommission (record { validator = address n.validator })
    else msg.Send (record { from = address n.delegator; to = account.User (address n.other); coins = coins n.amount })))))

-- the operator pays for the withdrawal of its commission, and the delegator for all else
abbrev pub payer_of : Choices → List ℕ
payer_of n = if n.kind == 4 then address n.validator else address n.delegator

-- a fee of 1,000, and one message
abbrev pub tx_of : Choices → Tx
tx_of n = record { payer = payer_of n; fee = coins 1000; msgs = message_of n ∷ [] }

-- a transaction
abbrev pub tx_drawn : Draw Tx
tx_drawn = do
  n ← choices_drawn
  done (tx_of n)

-- ten votes, evidence, and up to three transactions
abbrev pub block_drawn : ℕ → Draw Block
block_drawn height = do
  votes ← in_turn vote_drawn (numbers_from 0 10)
  evidence ← evidence_drawn height
  many ← pick 4
  txs ← in_turn (λ place. tx_drawn) (numbers_from 0 many)
  done (record { height = height; time = time_at height; votes = votes; evidence = evidence; txs = txs })

-- ---- the input

-- so many blocks, drawn one after another from the seed
abbrev pub blocks_of : ℕ → ℕ → List Block
blocks_of seed many = (in_turn block_drawn (numbers_from 1 many) seed).value

-- the state behind so many blocks
abbrev pub state_behind : ℕ → ℕ → ℕ
state_behind seed many = (in_turn block_drawn (numbers_from 1 many) seed).state

-- the block at a height, which is drawn behind those before it
abbrev pub block_at : ℕ → ℕ → Block
block_at seed height = (block_drawn height (state_behind seed (height - 1))).value
