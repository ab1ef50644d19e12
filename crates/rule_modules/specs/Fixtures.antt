-- Small states and blocks for worked rows.
use Rattle.std.specs.Prelude.{ℕ, ◌+◌, ◌*◌, ◌^◌, true, false, List, [], ◌∷◌, ◌++◌, codes, replicate, map, sum, Result, Ok}
use Rattle.base_types.specs.declared.account.Account.{Account}
use Rattle.base_types.specs.declared.account.Account.TheVariants as account
use Rattle.base_types.specs.declared.account.Module.TheVariants as holder
use Rattle.base_types.specs.declared.status.BondStatus.TheVariants.{Unbonded}
use Rattle.base_coins.specs.declared.coin.Coin.{Coin}
use Rattle.base_coins.specs.Coins.{Money, with_amount}
use Rattle.base_roles.specs.declared.facts.Fact.{Fact}
use Rattle.base_roles.specs.declared.messages.CreateValidator.{CreateValidator}
use Rattle.base_roles.specs.declared.messages.Evidence.{Evidence}
use Rattle.base_roles.specs.declared.messages.Vote.{Vote}
use Rattle.base_roles.specs.declared.params.Params.{Params}
use Rattle.base_roles.specs.declared.refusal.Refusal.{Refusal}
use Rattle.base_roles.specs.declared.refusal.Refusal.TheVariants.{NoValidator, Overflow}
use Rattle.base_roles.specs.Holdings.{Holdings, no_holdings, balance_of, supply_of, with_balance}
use Rattle.base_roles.specs.Staked.{Staked, validator_at}
use Rattle.base_roles.specs.Flow.{◌>>=◌, or_stop, stopping, each}
use Rattle.base_roles.specs.World.{World, over_view}
use Rattle.rule_modules.specs.Amounts.{seconds}
use Rattle.rule_modules.specs.BondedSet.{set_updated}
use Rattle.rule_modules.specs.Chain.{Hooks, State, chain_told, with_staked, begin_block, end_block}
use Rattle.rule_modules.specs.Delegating.{pool, delegated}
use Rattle.rule_modules.specs.Distribution.{nothing_shared}
use Rattle.rule_modules.specs.Effects.{Effect, Ending, transaction_applied}
use Rattle.rule_modules.specs.Validators.{new_validator, stored}

-- ---- names

-- the address, and the consensus address, of number n
abbrev pub addr : ℕ → List ℕ
addr n = n ∷ replicate 19 7

-- the consensus address of number n
abbrev pub cons : ℕ → List ℕ
cons n = n ∷ replicate 19 8

-- the account of user n
abbrev pub user : ℕ → Account
user n = account.User (addr n)

-- the denomination of all rows
abbrev pub uatom : List ℕ
uatom = codes "uatom"

-- n uatom, as a coin, as a list of coins, and as decimals
abbrev pub coin : ℕ → Coin
coin n = record { denom = uatom; amount = n }

-- n uatom as a list of coins
abbrev pub coins : ℕ → Money
coins n = with_amount [] uatom n

-- a raw number of uatom as a list of decimal coins
abbrev pub decimals : ℕ → Money
decimals raw = (uatom, raw) ∷ []

-- ---- a beginning

-- the parameters of rows that do not say others
abbrev pub params : Params
params = record {
  bond_denom = uatom;
  power_reduction = 1000000;
  unbonding_time = 1814400;
  max_validators = 180;
  max_entries = 7;
  min_commission_rate = 0;
  community_tax = 0;
  withdraw_addr_enabled = true;
  signed_blocks_window = 10000;
  min_signed_per_window = 5 * 10 ^ 16;
  downtime_jail_duration = 600;
  slash_fraction_double_sign = 5 * 10 ^ 16;
  slash_fraction_downtime = 10 ^ 14;
  max_age_duration = 172800;
  max_age_num_blocks = 100000;
  authority = addr 153;
}

-- 2024-01-01T00:00:00Z in seconds, and five seconds for each block
abbrev pub time_of : ℕ → ℕ
time_of height = seconds (1704067200 + 5 * height)

-- a validator of a rate that may become anything, with a least self-delegation of 1
abbrev pub validates : ℕ → ℕ → CreateValidator
validates n rate = record {
  validator = addr n;
  cons = cons n;
  rate = rate;
  max_rate = 10 ^ 18;
  max_change_rate = 10 ^ 18;
  min_self_delegation = 1;
  amount = coin 0;
}

-- who delegates to whom, and how much
pub record Stake : Type 0 where
  pub delegator : ℕ
  pub operator : ℕ
  pub amount : ℕ

-- so much is delegated by a user to an operator
abbrev pub stakes : ℕ → ℕ → ℕ → Stake
stakes delegator operator amount = record { delegator = delegator; operator = operator; amount = amount }

-- parameters, what users hold, validators and delegations at rate one
pub record Beginning : Type 0 where
  pub params : Params
  pub holdings : List (ℕ × ℕ)
  pub validators : List CreateValidator
  pub stakes : List Stake

-- an account has so much more
abbrev pub given : Account → ℕ → Holdings → Holdings
given who n h = record {
  balances = (with_balance h who uatom (balance_of h who uatom + n)).balances;
  supplies = with_amount h.supplies uatom (supply_of h uatom + n);
}

-- users have what the list says
abbrev pub all_given : List (ℕ × ℕ) → Holdings → Holdings
all_given [] h = h
all_given (p ∷ ps) h = all_given ps (given (user p.0) p.1 h)

-- a validator that was there before the first block
abbrev pub validator_begun : CreateValidator → World Staked Hooks → Result (World Staked Hooks) Refusal
validator_begun m w = stopping Overflow (stored chain_told (new_validator m w.view.ctx.time) w)

-- a delegation that was there before the first block
abbrev pub stake_begun : Stake → World Staked Hooks → Result (World Staked Hooks) Refusal
stake_begun s w = do
  v ← or_stop (validator_at w.mine (addr s.operator)) NoValidator
  (issued, u) ← delegated chain_told v (addr s.delegator) s.amount (pool Unbonded) w
  Ok u

-- the state at height 0: the delegated coins stand in the not-bonded account, then the bonded set is made
abbrev pub begins : Beginning → Result State Refusal
begins b = do
  let bank = given (account.Module holder.NotBonded) (sum (map (λ s. s.amount) b.stakes)) (all_given b.holdings no_holdings)
  let w : World Staked Hooks = record {
    mine = record { validators = []; delegations = [] };
    hooks = (nothing_shared, []);
    view = record { bank = bank; ctx = record { height = 0; time = time_of 0; params = b.params }; facts = [] };
    log = [];
  }
  w1 ← each validator_begun b.validators w
  w2 ← each stake_begun b.stakes w1
  w3 ← stopping Overflow (set_updated chain_told w2)
  Ok (with_staked (record { staked = w3.mine; unbondings = []; redelegations = [] }) w3)

-- ---- blocks

-- a transaction: who pays which fee, and what the messages do
pub record Tx : Type 0 where
  pub payer : ℕ
  pub fee : ℕ
  pub effects : List Effect

-- a block
pub record Block : Type 0 where
  pub height : ℕ
  pub time : ℕ
  pub votes : List Vote
  pub evidence : List Evidence
  pub txs : List Tx

-- a transaction with a fee
abbrev pub pays : ℕ → ℕ → List Effect → Tx
pays who fee effects = record { payer = who; fee = fee; effects = effects }

-- one message without a fee
abbrev pub says : Effect → Tx
says effect = pays 0 0 (effect ∷ [])

-- a block at the time of its height
abbrev pub block : ℕ → List Vote → List Evidence → List Tx → Block
block height votes evidence txs = record { height = height; time = time_of height; votes = votes; evidence = evidence; txs = txs }

-- a block of nothing
abbrev pub empty : ℕ → Block
empty height = block height [] [] []

-- a signed vote
abbrev pub signs : ℕ → ℕ → Vote
signs n power = record { cons = cons n; power = power; signed = true }

-- a missed vote
abbrev pub misses : ℕ → ℕ → Vote
misses n power = record { cons = cons n; power = power; signed = false }

-- evidence of a height, and of its time
abbrev pub proves : ℕ → ℕ → ℕ → Evidence
proves n height power = record { cons = cons n; height = height; time = time_of height; power = power }

-- transactions, one after another: how each ended
abbrev pub endings_of : List Tx → State → List Ending × State
endings_of [] w = ([], w)
endings_of (t ∷ ts) w =
    let one = transaction_applied (addr t.payer) (coins t.fee) t.effects w in
    let rest = endings_of ts one.1 in
    (one.0 ∷ rest.0, rest.1)

-- a block has begun, with the facts of its beginning
abbrev pub begun : Block → State → Result State Refusal
begun b w =
    let v = record w.view { ctx = record { height = b.height; time = b.time; params = w.view.ctx.params }; facts = [] } in
    stopping Overflow (begin_block b.votes b.evidence (over_view (λ u. v) w))

-- a block, with the endings of its transactions behind those before it
abbrev pub block_run : Block → List (List Ending) × State → Result (List (List Ending) × State) Refusal
block_run b (before, w) = do
  w1 ← begun b w
  let (endings, w2) = endings_of b.txs w1
  w3 ← stopping Overflow (end_block w2)
  Ok (before ++ endings ∷ [], w3)

-- blocks after a beginning
abbrev pub run : Beginning → List Block → Result (List (List Ending) × State) Refusal
run b blocks = do
  w ← begins b
  each block_run blocks ([], w)

-- what a row asks of the state after a run
abbrev pub after : {A : Type 0} → Beginning → List Block → (State → A) → Result A Refusal
after b blocks f = do
  p ← run b blocks
  Ok (f p.1)

-- the endings of the last block
abbrev pub last_of : List (List Ending) → List Ending
last_of [] = []
last_of (e ∷ []) = e
last_of (e ∷ f ∷ rest) = last_of (f ∷ rest)

-- how the transactions of the last block ended
abbrev pub last_endings : Beginning → List Block → Result (List Ending) Refusal
last_endings b blocks = do
  p ← run b blocks
  Ok (last_of p.0)

-- the facts of the beginning of one more block
abbrev pub begun_facts : Beginning → List Block → Block → Result (List Fact) Refusal
begun_facts b blocks next = do
  p ← run b blocks
  w ← begun next p.1
  Ok w.view.facts

-- ---- what rows look at

-- what user n has
abbrev pub balance : ℕ → State → ℕ
balance n w = balance_of w.view.bank (user n) uatom
