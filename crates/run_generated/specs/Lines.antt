-- The line by which an input spells a genesis or a block. The members of each object stand in ascending order of their
-- names.
use Rattle.std.specs.Prelude.{◌≡◌, ℕ, ◌≤◌, ◌==◌, if◌then◌else◌, List, [], ◌∷◌, ◌++◌, map, codes, slice_get, Option, Some, None, option_map}
use Rattle.json.specs.Token.{Token, key}
use Rattle.serde_json.specs.Data.{Data, Members, array, boolean, member, no_members, string}
use Rattle.serde_json.specs.View.{items_of}
use Rattle.base_bech32.specs.declared.form.Form.{Form}
use Rattle.base_coins.specs.declared.coin.Coin.{Coin}
use Rattle.base_roles.specs.declared.messages.Evidence.{Evidence}
use Rattle.base_roles.specs.declared.messages.Vote.{Vote}
use Rattle.base_roles.specs.declared.params.Params.{Params}
use Rattle.base_messages.specs.declared.block.Block.{Block}
use Rattle.base_messages.specs.declared.block.Tx.{Tx}
use Rattle.base_messages.specs.declared.genesis.Genesis.{Genesis}
use Rattle.base_messages.specs.declared.genesis.GenesisAccount.{GenesisAccount}
use Rattle.base_messages.specs.declared.genesis.GenesisDelegation.{GenesisDelegation}
use Rattle.base_messages.specs.declared.genesis.GenesisValidator.{GenesisValidator}
use Rattle.base_messages.specs.declared.message.Msg.{Msg}
use Rattle.base_messages.specs.declared.message.Msg.TheVariants as msg
use Rattle.line_json.specs.Line.{line_of, object_of}
use Rattle.line_json.specs.Told.{data_tokens}
use Rattle.line_json.specs.Values.{account_data, coin_data, coins_data, cons_data, count_data, decimal_data, moment_data, operator_data, user_data, whole_data}
use Rattle.run_generated.specs.Input.{block_at, blocks_of, first_genesis}

-- ---- parts

-- values, each spelled in this way
abbrev pub list_data : {A : Type 0} → (A → Data) → List A → Data
list_data form values = array (items_of (map form values))

-- a kind
abbrev pub kind : List ℕ → List ℕ × Data
kind name = (codes "kind", string name)

-- an amount of a denomination
abbrev pub one_coin : Coin → Data
one_coin c = coin_data whole_data (c.denom, c.amount)

-- what a writer writes for members, without the end of their object
abbrev pub member_tokens : Members → List Token
member_tokens no_members = []
member_tokens (member name d ms) = key name ∷ (data_tokens d ++ member_tokens ms)

-- a member that may be missing, and those behind it
abbrev pub where_given : List ℕ → Option Data → List (List ℕ × Data) → List (List ℕ × Data)
where_given name None others = others
where_given name (Some d) others = (name, d) ∷ others

-- the parameters
abbrev pub params_data : Form → Params → Data
params_data f p =
    object_of ((codes "authority", user_data f p.authority) ∷ (codes "bond_denom", string p.bond_denom)
    ∷ (codes "community_tax", decimal_data p.community_tax) ∷ (codes "downtime_jail_duration", count_data p.downtime_jail_duration)
    ∷ (codes "max_age_duration", count_data p.max_age_duration) ∷ (codes "max_age_num_blocks", count_data p.max_age_num_blocks)
    ∷ (codes "max_entries", count_data p.max_entries) ∷ (codes "max_validators", count_data p.max_validators)
    ∷ (codes "min_commission_rate", decimal_data p.min_commission_rate)
    ∷ (codes "min_signed_per_window", decimal_data p.min_signed_per_window)
    ∷ (codes "power_reduction", count_data p.power_reduction) ∷ (codes "signed_blocks_window", count_data p.signed_blocks_window)
    ∷ (codes "slash_fraction_double_sign", decimal_data p.slash_fraction_double_sign)
    ∷ (codes "slash_fraction_downtime", decimal_data p.slash_fraction_downtime)
    ∷ (codes "unbonding_time", count_data p.unbonding_time) ∷ (codes "withdraw_addr_enabled", boolean p.withdraw_addr_enabled) ∷ [])

-- ---- messages

abbrev pub message_data : Form → Msg → Data
message_data f (msg.Send m) =
    object_of ((codes "coins", coins_data m.coins) ∷ (codes "from", user_data f m.from) ∷ kind (codes "send")
    ∷ (codes "to", account_data f m.to) ∷ [])
message_data f (msg.CreateValidator m) =
    object_of ((codes "amount", one_coin m.amount) ∷ (codes "cons", cons_data f m.cons) ∷ kind (codes "create_validator")
    ∷ (codes "max_change_rate", decimal_data m.max_change_rate) ∷ (codes "max_rate", decimal_data m.max_rate)
    ∷ (codes "min_self_delegation", whole_data m.min_self_delegation) ∷ (codes "rate", decimal_data m.rate)
    ∷ (codes "validator", operator_data f m.validator) ∷ [])
message_data f (msg.EditValidator m) =
    object_of (kind (codes "edit_validator")
    ∷ where_given (codes "min_self_delegation") (option_map whole_data m.min_self_delegation)
    (where_given (codes "rate") (option_map decimal_data m.rate) ((codes "validator", operator_data f m.validator) ∷ [])))
message_data f (msg.Delegate m) =
    object_of ((codes "amount", one_coin m.amount) ∷ (codes "delegator", user_data f m.delegator) ∷ kind (codes "delegate")
    ∷ (codes "validator", operator_data f m.validator) ∷ [])
message_data f (msg.Undelegate m) =
    object_of ((codes "amount", one_coin m.amount) ∷ (codes "delegator", user_data f m.delegator) ∷ kind (codes "undelegate")
    ∷ (codes "validator", operator_data f m.validator) ∷ [])
message_data f (msg.BeginRedelegate m) =
    object_of ((codes "amount", one_coin m.amount) ∷ (codes "delegator", user_data f m.delegator)
    ∷ kind (codes "begin_redelegate") ∷ (codes "source", operator_data f m.source) ∷ (codes "target", operator_data f m.target) ∷ [])
message_data f (msg.CancelUnbonding m) =
    object_of ((codes "amount", one_coin m.amount) ∷ (codes "creation_height", count_data m.creation_height)
    ∷ (codes "delegator", user_data f m.delegator) ∷ kind (codes "cancel_unbonding")
    ∷ (codes "validator", operator_data f m.validator) ∷ [])
message_data f (msg.Unjail m) = object_of (kind (codes "unjail") ∷ (codes "validator", operator_data f m.validator) ∷ [])
message_data f (msg.WithdrawReward m) =
    object_of ((codes "delegator", user_data f m.delegator) ∷ kind (codes "withdraw_reward")
    ∷ (codes "validator", operator_data f m.validator) ∷ [])
message_data f (msg.WithdrawCommission m) =
    object_of (kind (codes "withdraw_commission") ∷ (codes "validator", operator_data f m.validator) ∷ [])
message_data f (msg.SetWithdrawAddress m) =
    object_of ((codes "delegator", user_data f m.delegator) ∷ kind (codes "set_withdraw_address")
    ∷ (codes "withdraw", account_data f m.withdraw) ∷ [])
message_data f (msg.FundCommunityPool m) =
    object_of ((codes "coins", coins_data m.coins) ∷ (codes "depositor", user_data f m.depositor)
    ∷ kind (codes "fund_community_pool") ∷ [])
message_data f (msg.CommunityPoolSpend m) =
    object_of ((codes "authority", user_data f m.authority) ∷ (codes "coins", coins_data m.coins)
    ∷ kind (codes "community_pool_spend") ∷ (codes "recipient", account_data f m.recipient) ∷ [])
message_data f (msg.UpdateParams m) =
    object_of ((codes "authority", user_data f m.authority) ∷ kind (codes "update_params")
    ∷ (codes "params", params_data f m.params) ∷ [])

-- ---- a block

-- a vote
abbrev pub vote_data : Form → Vote → Data
vote_data f v = object_of ((codes "cons", cons_data f v.cons) ∷ (codes "power", count_data v.power) ∷ (codes "signed", boolean v.signed) ∷ [])

-- evidence
abbrev pub evidence_data : Form → Evidence → Data
evidence_data f e =
    object_of ((codes "cons", cons_data f e.cons) ∷ (codes "height", count_data e.height) ∷ (codes "power", count_data e.power)
    ∷ (codes "time", moment_data e.time) ∷ [])

-- a transaction
abbrev pub tx_data : Form → Tx → Data
tx_data f tx =
    object_of ((codes "fee", coins_data tx.fee) ∷ (codes "msgs", list_data (message_data f) tx.msgs) ∷ (codes "payer", user_data f tx.payer) ∷ [])

-- the block
abbrev pub block_data : Form → Block → Data
block_data f b =
    object_of ((codes "evidence", list_data (evidence_data f) b.evidence) ∷ (codes "height", count_data b.height) ∷ kind (codes "block")
    ∷ (codes "time", moment_data b.time) ∷ (codes "txs", list_data (tx_data f) b.txs) ∷ (codes "votes", list_data (vote_data f) b.votes) ∷ [])

-- ---- a genesis

-- an account
abbrev pub holder_data : Form → GenesisAccount → Data
holder_data f a = object_of ((codes "address", account_data f a.address) ∷ (codes "coins", coins_data a.coins) ∷ [])

-- a validator
abbrev pub validator_data : Form → GenesisValidator → Data
validator_data f v =
    object_of ((codes "cons", cons_data f v.cons) ∷ (codes "max_change_rate", decimal_data v.max_change_rate)
    ∷ (codes "max_rate", decimal_data v.max_rate) ∷ (codes "min_self_delegation", whole_data v.min_self_delegation)
    ∷ (codes "operator", operator_data f v.operator) ∷ (codes "rate", decimal_data v.rate) ∷ [])

-- a delegation
abbrev pub delegation_data : Form → GenesisDelegation → Data
delegation_data f d =
    object_of ((codes "amount", whole_data d.amount) ∷ (codes "delegator", user_data f d.delegator)
    ∷ (codes "validator", operator_data f d.validator) ∷ [])

-- the genesis
abbrev pub genesis_data : Form → Genesis → Data
genesis_data f g =
    object_of ((codes "accounts", list_data (holder_data f) g.accounts) ∷ (codes "delegations", list_data (delegation_data f) g.delegations)
    ∷ kind (codes "genesis") ∷ (codes "params", params_data f g.params) ∷ (codes "time", moment_data g.time)
    ∷ (codes "validators", list_data (validator_data f) g.validators) ∷ [])

-- ---- lines

-- the line of a genesis, with its end
abbrev pub genesis_line : Form → Genesis → List ℕ
genesis_line f g = line_of (genesis_data f g)

-- the line of a block, with its end
abbrev pub block_line : Form → Block → List ℕ
block_line f b = line_of (block_data f b)

-- the lines of the generated input: its genesis, and so many blocks
abbrev pub generated_lines : Form → ℕ → ℕ → List (List ℕ)
generated_lines f seed many = genesis_line f first_genesis ∷ map (block_line f) (blocks_of seed many)

-- the one at a place, of which the first is 0
abbrev pub line_at : Form → ℕ → ℕ → List ℕ
line_at f seed place = if place == 0 then genesis_line f first_genesis else block_line f (block_at seed place)

-- The line at each place of an input is the one that is made for the place.
abbrev pub LinesByPlace : Type 0
LinesByPlace =
    (f : Form) (seed many place : ℕ) → place ≤ many
    → slice_get (generated_lines f seed many) place ≡ Some (line_at f seed place)
