-- What written lines tell: a line of a fact is read member by member, each by its name, as values of input are read.
use Rattle.std.specs.Prelude.{ℕ, List, [], ◌∷◌, codes, bytes_eq, if◌then◌else◌, Option, Some, None, option_map}
use Rattle.std.specs.List.{filter_map}
use Rattle.serde_json.specs.Data.{Data, Items, no_items, item}
use Rattle.serde_json.specs.Find.{get, as_array}
use Rattle.serde_json.specs.Read.{read}
use Rattle.base_decimals.specs.Texts.{dec_of}
use Rattle.base_types.specs.declared.account.Account.{Account}
use Rattle.base_types.specs.declared.account.Account.TheVariants as account
use Rattle.base_types.specs.declared.account.Module.{Module}
use Rattle.base_types.specs.declared.account.Module.TheVariants as named_module
use Rattle.base_types.specs.declared.status.BondStatus.{BondStatus}
use Rattle.base_types.specs.declared.status.BondStatus.TheVariants as status
use Rattle.base_types.specs.Denom.{denom_of}
use Rattle.base_types.specs.Maybe.{◌>>=◌}
use Rattle.base_bech32.specs.declared.form.Form.{Form}
use Rattle.base_coins.specs.Coins.{Money}
use Rattle.base_roles.specs.declared.facts.Fact.{Fact}
use Rattle.base_roles.specs.declared.facts.Fact.TheVariants as fact
use Rattle.line_json.specs.Addresses.{operator_in, user_in}
use Rattle.line_json.specs.Members.{amount_of, as_count, spelled_by}
use Rattle.line_json.specs.Lines.{lines_of}

-- ---- words

-- what the first word of a list stands for that this text is
abbrev pub meant : {A : Type 0} → List (List ℕ × A) → List ℕ → Option A
meant [] text = None
meant (w ∷ words) text = if bytes_eq w.0 text then Some w.1 else meant words text

-- modules by their names
abbrev pub modules : List (List ℕ × Module)
modules =
    (codes "fee_collector", named_module.FeeCollector)
    ∷ (codes "bonded_tokens_pool", named_module.Bonded)
    ∷ (codes "not_bonded_tokens_pool", named_module.NotBonded)
    ∷ (codes "distribution", named_module.Distribution)
    ∷ []

-- statuses of validators by their words
abbrev pub statuses : List (List ℕ × BondStatus)
statuses =
    (codes "bonded", status.Bonded)
    ∷ (codes "unbonding", status.Unbonding)
    ∷ (codes "unbonded", status.Unbonded)
    ∷ []

-- ---- members

-- the member of this name, in a form
abbrev pub named : {A : Type 0} → (Data → Option A) → List ℕ → Data → Option A
named form name d = get name d >>= form

-- a string of 1 to 38 digits
abbrev pub amount_in : Data → Option ℕ
amount_in = spelled_by amount_of

-- a string that spells a decimal, in units of 10^-18
abbrev pub decimal_in : Data → Option ℕ
decimal_in = spelled_by dec_of

-- a string that names a denomination
abbrev pub denom_in : Data → Option (List ℕ)
denom_in = spelled_by denom_of

-- a string that is a user's address
abbrev pub user_of : Form → Data → Option (List ℕ)
user_of f = spelled_by (user_in f)

-- a string that is an operator's address
abbrev pub operator_of : Form → Data → Option (List ℕ)
operator_of f = spelled_by (operator_in f)

-- a string that names a module
abbrev pub module_of : Data → Option Module
module_of = spelled_by (meant modules)

-- a string that names a status
abbrev pub status_of : Data → Option BondStatus
status_of = spelled_by (meant statuses)

-- a user where one was read, else the module of the name
abbrev pub user_or_named : Option (List ℕ) → List ℕ → Option Account
user_or_named (Some bytes) text = Some (account.User bytes)
user_or_named None text = option_map account.Module (meant modules text)

-- the text of an account: a user's address, or the name of a module
abbrev pub account_named : Form → List ℕ → Option Account
account_named f text = user_or_named (user_in f text) text

-- a string that is the text of an account
abbrev pub account_of : Form → Data → Option Account
account_of f = spelled_by (account_named f)

-- an object of a denomination and an amount in a form
abbrev pub coin_in : (Data → Option ℕ) → Data → Option (List ℕ × ℕ)
coin_in form d = do
  denom ← named denom_in (codes "denom") d
  amount ← named form (codes "amount") d
  Some (denom, amount)

-- every element, in order
abbrev pub each : {A : Type 0} → (Data → Option A) → Items → Option (List A)
each form no_items = Some []
each form (item d ds) = do
  x ← form d
  xs ← each form ds
  Some (x ∷ xs)

-- a list of coins, in the order of the line
abbrev pub coins_in : (Data → Option ℕ) → Data → Option Money
coins_in form d = as_array d >>= each (coin_in form)

-- whole coins of this name
abbrev pub coins_at : List ℕ → Data → Option Money
coins_at = named (coins_in amount_in)

-- decimal coins of this name
abbrev pub dec_coins_at : List ℕ → Data → Option Money
dec_coins_at = named (coins_in decimal_in)

-- the operator of the validator that a fact is about
abbrev pub validator_at : Form → Data → Option (List ℕ)
validator_at f = named (operator_of f) (codes "validator")

-- ---- facts

abbrev pub transfer_of : Form → Data → Option Fact
transfer_of f d = do
  from ← named (account_of f) (codes "from") d
  to ← named (account_of f) (codes "to") d
  coins ← coins_at (codes "coins") d
  Some (fact.Transfer from to coins)

abbrev pub burn_of : Form → Data → Option Fact
burn_of f d = do
  from ← named module_of (codes "from") d
  denom ← named denom_in (codes "denom") d
  amount ← named amount_in (codes "amount") d
  Some (fact.Burn from (record { denom = denom; amount = amount }))

abbrev pub allocated_of : Form → Data → Option Fact
allocated_of f d = do
  validator ← validator_at f d
  share ← dec_coins_at (codes "coins") d
  Some (fact.Allocated validator share)

abbrev pub pooled_of : Form → Data → Option Fact
pooled_of f d = do
  coins ← dec_coins_at (codes "coins") d
  Some (fact.Pooled coins)

abbrev pub period_of : Form → Data → Option Fact
period_of f d = do
  validator ← validator_at f d
  period ← named as_count (codes "period") d
  ratio ← dec_coins_at (codes "ratio") d
  Some (fact.Period validator period ratio)

abbrev pub started_of : Form → Data → Option Fact
started_of f d = do
  delegator ← named (user_of f) (codes "delegator") d
  validator ← validator_at f d
  period ← named as_count (codes "period") d
  stake ← named decimal_in (codes "stake") d
  Some (fact.Started delegator validator period stake)

abbrev pub slashed_of : Form → Data → Option Fact
slashed_of f d = do
  validator ← validator_at f d
  fraction ← named decimal_in (codes "fraction") d
  burned ← named amount_in (codes "burned") d
  Some (fact.Slashed validator fraction burned)

abbrev pub paid_of : Form → Data → Option Fact
paid_of f d = do
  delegator ← named (user_of f) (codes "delegator") d
  validator ← validator_at f d
  to ← named (user_of f) (codes "to") d
  reward ← dec_coins_at (codes "reward") d
  coins ← coins_at (codes "coins") d
  Some (fact.Paid delegator validator to reward coins)

abbrev pub commission_of : Form → Data → Option Fact
commission_of f d = do
  validator ← validator_at f d
  to ← named (user_of f) (codes "to") d
  coins ← coins_at (codes "coins") d
  Some (fact.Commission validator to coins)

abbrev pub changed_of : Form → Data → Option Fact
changed_of f d = do
  validator ← validator_at f d
  now ← named status_of (codes "status") d
  Some (fact.Changed validator now)

-- a fact that tells of a validator alone
abbrev pub of_validator : (List ℕ → Fact) → Form → Data → Option Fact
of_validator told f d = option_map told (validator_at f d)

abbrev pub params_changed_of : Form → Data → Option Fact
params_changed_of f d = option_map fact.ParamsChanged (named (user_of f) (codes "authority") d)

-- ---- lines

-- how a line of each kind is read; the lines of other kinds tell no fact
abbrev pub kinds : List (List ℕ × (Form → Data → Option Fact))
kinds =
    (codes "transfer", transfer_of)
    ∷ (codes "burn", burn_of)
    ∷ (codes "allocated", allocated_of)
    ∷ (codes "pooled", pooled_of)
    ∷ (codes "period", period_of)
    ∷ (codes "started", started_of)
    ∷ (codes "slashed", slashed_of)
    ∷ (codes "paid", paid_of)
    ∷ (codes "commission", commission_of)
    ∷ (codes "status", changed_of)
    ∷ (codes "jailed", of_validator fact.Jailed)
    ∷ (codes "unjailed", of_validator fact.Unjailed)
    ∷ (codes "tombstoned", of_validator fact.Tombstoned)
    ∷ (codes "removed", of_validator fact.Removed)
    ∷ (codes "params", params_changed_of)
    ∷ []

-- the height and the fact of a tree
abbrev pub told_by : Form → Data → Option (ℕ × Fact)
told_by f d = do
  height ← named as_count (codes "height") d
  reading ← named (spelled_by (meant kinds)) (codes "kind") d
  told ← reading f d
  Some (height, told)

-- the height and the fact that a line tells, if it tells one
abbrev pub fact_in : Form → List ℕ → Option (ℕ × Fact)
fact_in f line = read line >>= told_by f

-- the facts that the lines of a text tell, in their order
abbrev pub facts_in : Form → List ℕ → List (ℕ × Fact)
facts_in f text = filter_map (fact_in f) (lines_of text)
