-- The messages of a transaction. Each is an object of its kind and of the members of that kind.
use Rattle.std.specs.Prelude.{ℕ, List, [], ◌∷◌, bytes_eq, codes, if◌then◌else◌, Option, Some, None, Result, Ok}
use Rattle.serde_json.specs.Data.{Data}
use Rattle.base_decimals.specs.Texts.{dec_of}
use Rattle.base_bech32.specs.declared.form.Form.{Form}
use Rattle.base_coins.specs.Steps.{◌>>=◌}
use Rattle.base_coins.specs.declared.coin.Coin.{Coin}
use Rattle.base_roles.specs.declared.messages.CreateValidator.{CreateValidator}
use Rattle.base_roles.specs.declared.messages.EditValidator.{EditValidator}
use Rattle.base_messages.specs.declared.faults.LineFault.{LineFault}
use Rattle.base_messages.specs.declared.message.Send.{Send}
use Rattle.base_messages.specs.declared.message.Delegate.{Delegate}
use Rattle.base_messages.specs.declared.message.Undelegate.{Undelegate}
use Rattle.base_messages.specs.declared.message.BeginRedelegate.{BeginRedelegate}
use Rattle.base_messages.specs.declared.message.CancelUnbonding.{CancelUnbonding}
use Rattle.base_messages.specs.declared.message.Unjail.{Unjail}
use Rattle.base_messages.specs.declared.message.WithdrawReward.{WithdrawReward}
use Rattle.base_messages.specs.declared.message.WithdrawCommission.{WithdrawCommission}
use Rattle.base_messages.specs.declared.message.SetWithdrawAddress.{SetWithdrawAddress}
use Rattle.base_messages.specs.declared.message.FundCommunityPool.{FundCommunityPool}
use Rattle.base_messages.specs.declared.message.CommunityPoolSpend.{CommunityPoolSpend}
use Rattle.base_messages.specs.declared.message.UpdateParams.{UpdateParams}
use Rattle.base_messages.specs.declared.message.Msg.{Msg}
use Rattle.base_messages.specs.declared.message.Msg.TheVariants as msg
use Rattle.line_json.specs.declared.kind.Kind.{Kind}
use Rattle.line_json.specs.declared.kind.Kind.TheVariants as kind
use Rattle.line_json.specs.Members.{spelled_by, amount_of, member_at, optional_at, number_at, amount_at, decimal_at, user_at, operator_at, account_at, cons_at, only_named}
use Rattle.line_json.specs.Coin.{coin_at, coins_at}
use Rattle.line_json.specs.Nested.{object_at}
use Rattle.line_json.specs.Params.{params_of}

-- ---- kinds

-- the kinds by their names
abbrev pub kinds : List (List ℕ × Kind)
kinds =
    (codes "send", kind.Send)
    ∷ (codes "create_validator", kind.CreateValidator)
    ∷ (codes "edit_validator", kind.EditValidator)
    ∷ (codes "delegate", kind.Delegate)
    ∷ (codes "undelegate", kind.Undelegate)
    ∷ (codes "begin_redelegate", kind.BeginRedelegate)
    ∷ (codes "cancel_unbonding", kind.CancelUnbonding)
    ∷ (codes "unjail", kind.Unjail)
    ∷ (codes "withdraw_reward", kind.WithdrawReward)
    ∷ (codes "withdraw_commission", kind.WithdrawCommission)
    ∷ (codes "set_withdraw_address", kind.SetWithdrawAddress)
    ∷ (codes "fund_community_pool", kind.FundCommunityPool)
    ∷ (codes "community_pool_spend", kind.CommunityPoolSpend)
    ∷ (codes "update_params", kind.UpdateParams)
    ∷ []

-- the kind of this name among these
abbrev pub kind_among : List (List ℕ × Kind) → List ℕ → Option Kind
kind_among [] name = None
kind_among (known ∷ others) name = if bytes_eq name known.0 then Some known.1 else kind_among others name

-- the kind of this name
unfoldable pub kind_of : List ℕ → Option Kind
kind_of name = kind_among kinds name

-- ---- members that several kinds have

-- the operator
abbrev pub validator_named : Form → Data → Result (List ℕ) LineFault
validator_named f d = operator_at f 94 (codes "validator") d

-- the delegator
abbrev pub delegator_named : Form → Data → Result (List ℕ) LineFault
delegator_named f d = user_at f 95 (codes "delegator") d

-- a coin
abbrev pub amount_named : Data → Result Coin LineFault
amount_named d = coin_at 96 (codes "amount") d

-- ---- the members of each kind

-- coins go from a user to an account
unfoldable pub send_of : Form → Data → Result Send LineFault
send_of f d = do
  from ← user_at f 91 (codes "from") d
  to ← account_at f 92 (codes "to") d
  coins ← coins_at 93 (codes "coins") d
  only ← only_named (codes "kind" ∷ codes "from" ∷ codes "to" ∷ codes "coins" ∷ []) d
  Ok (record { from = from; to = to; coins = coins })

-- a validator is created
unfoldable pub create_validator_of : Form → Data → Result CreateValidator LineFault
create_validator_of f d = do
  validator ← validator_named f d
  cons ← cons_at f 100 (codes "cons") d
  rate ← decimal_at 101 (codes "rate") d
  max_rate ← decimal_at 102 (codes "max_rate") d
  max_change_rate ← decimal_at 103 (codes "max_change_rate") d
  min_self_delegation ← amount_at 104 (codes "min_self_delegation") d
  amount ← amount_named d
  only ← only_named (
      codes "kind" ∷ codes "validator" ∷ codes "cons" ∷ codes "rate" ∷ codes "max_rate" ∷ codes "max_change_rate"
      ∷ codes "min_self_delegation" ∷ codes "amount" ∷ []) d
  Ok (record {
    validator = validator;
    cons = cons;
    rate = rate;
    max_rate = max_rate;
    max_change_rate = max_change_rate;
    min_self_delegation = min_self_delegation;
    amount = amount;
  })

-- a validator is changed; the rate and the minimum may be missing
unfoldable pub edit_validator_of : Form → Data → Result EditValidator LineFault
edit_validator_of f d = do
  validator ← validator_named f d
  rate ← optional_at (spelled_by dec_of) 101 (codes "rate") d
  min_self_delegation ← optional_at (spelled_by amount_of) 104 (codes "min_self_delegation") d
  only ← only_named (codes "kind" ∷ codes "validator" ∷ codes "rate" ∷ codes "min_self_delegation" ∷ []) d
  Ok (record { validator = validator; rate = rate; min_self_delegation = min_self_delegation })

-- a coin is delegated
unfoldable pub delegate_of : Form → Data → Result Delegate LineFault
delegate_of f d = do
  delegator ← delegator_named f d
  validator ← validator_named f d
  amount ← amount_named d
  only ← only_named (codes "kind" ∷ codes "delegator" ∷ codes "validator" ∷ codes "amount" ∷ []) d
  Ok (record { delegator = delegator; validator = validator; amount = amount })

-- a coin of a delegation is to unbond
unfoldable pub undelegate_of : Form → Data → Result Undelegate LineFault
undelegate_of f d = do
  delegator ← delegator_named f d
  validator ← validator_named f d
  amount ← amount_named d
  only ← only_named (codes "kind" ∷ codes "delegator" ∷ codes "validator" ∷ codes "amount" ∷ []) d
  Ok (record { delegator = delegator; validator = validator; amount = amount })

-- a coin of a delegation goes to another validator
unfoldable pub begin_redelegate_of : Form → Data → Result BeginRedelegate LineFault
begin_redelegate_of f d = do
  delegator ← delegator_named f d
  source ← operator_at f 97 (codes "source") d
  target ← operator_at f 98 (codes "target") d
  amount ← amount_named d
  only ← only_named (codes "kind" ∷ codes "delegator" ∷ codes "source" ∷ codes "target" ∷ codes "amount" ∷ []) d
  Ok (record { delegator = delegator; source = source; target = target; amount = amount })

-- a coin that is unbonding is delegated again
unfoldable pub cancel_unbonding_of : Form → Data → Result CancelUnbonding LineFault
cancel_unbonding_of f d = do
  delegator ← delegator_named f d
  validator ← validator_named f d
  amount ← amount_named d
  creation_height ← number_at 99 (codes "creation_height") d
  only ← only_named (
      codes "kind" ∷ codes "delegator" ∷ codes "validator" ∷ codes "amount" ∷ codes "creation_height" ∷ []) d
  Ok (record { delegator = delegator; validator = validator; amount = amount; creation_height = creation_height })

-- a validator is to be jailed no longer
unfoldable pub unjail_of : Form → Data → Result Unjail LineFault
unjail_of f d = do
  validator ← validator_named f d
  only ← only_named (codes "kind" ∷ codes "validator" ∷ []) d
  Ok (record { validator = validator })

-- a delegator's reward is paid
unfoldable pub withdraw_reward_of : Form → Data → Result WithdrawReward LineFault
withdraw_reward_of f d = do
  delegator ← delegator_named f d
  validator ← validator_named f d
  only ← only_named (codes "kind" ∷ codes "delegator" ∷ codes "validator" ∷ []) d
  Ok (record { delegator = delegator; validator = validator })

-- a validator's commission is paid
unfoldable pub withdraw_commission_of : Form → Data → Result WithdrawCommission LineFault
withdraw_commission_of f d = do
  validator ← validator_named f d
  only ← only_named (codes "kind" ∷ codes "validator" ∷ []) d
  Ok (record { validator = validator })

-- a delegator's rewards are to go to an account
unfoldable pub set_withdraw_address_of : Form → Data → Result SetWithdrawAddress LineFault
set_withdraw_address_of f d = do
  delegator ← delegator_named f d
  withdraw ← account_at f 105 (codes "withdraw") d
  only ← only_named (codes "kind" ∷ codes "delegator" ∷ codes "withdraw" ∷ []) d
  Ok (record { delegator = delegator; withdraw = withdraw })

-- coins of a user join the community pool
unfoldable pub fund_community_pool_of : Form → Data → Result FundCommunityPool LineFault
fund_community_pool_of f d = do
  depositor ← user_at f 106 (codes "depositor") d
  coins ← coins_at 93 (codes "coins") d
  only ← only_named (codes "kind" ∷ codes "depositor" ∷ codes "coins" ∷ []) d
  Ok (record { depositor = depositor; coins = coins })

-- coins of the community pool go to an account
unfoldable pub community_pool_spend_of : Form → Data → Result CommunityPoolSpend LineFault
community_pool_spend_of f d = do
  authority ← user_at f 107 (codes "authority") d
  recipient ← account_at f 108 (codes "recipient") d
  coins ← coins_at 93 (codes "coins") d
  only ← only_named (codes "kind" ∷ codes "authority" ∷ codes "recipient" ∷ codes "coins" ∷ []) d
  Ok (record { authority = authority; recipient = recipient; coins = coins })

-- the parameters are replaced
unfoldable pub update_params_of : Form → Data → Result UpdateParams LineFault
update_params_of f d = do
  authority ← user_at f 107 (codes "authority") d
  params ← object_at (params_of f) 109 (codes "params") d
  only ← only_named (codes "kind" ∷ codes "authority" ∷ codes "params" ∷ []) d
  Ok (record { authority = authority; params = params })

-- ---- any message

-- a message of this kind
abbrev pub message_of_kind : Form → Kind → Data → Result Msg LineFault
message_of_kind f kind.Send d = send_of f d >>= λ message. Ok (msg.Send message)
message_of_kind f kind.CreateValidator d = create_validator_of f d >>= λ message. Ok (msg.CreateValidator message)
message_of_kind f kind.EditValidator d = edit_validator_of f d >>= λ message. Ok (msg.EditValidator message)
message_of_kind f kind.Delegate d = delegate_of f d >>= λ message. Ok (msg.Delegate message)
message_of_kind f kind.Undelegate d = undelegate_of f d >>= λ message. Ok (msg.Undelegate message)
message_of_kind f kind.BeginRedelegate d = begin_redelegate_of f d >>= λ message. Ok (msg.BeginRedelegate message)
message_of_kind f kind.CancelUnbonding d = cancel_unbonding_of f d >>= λ message. Ok (msg.CancelUnbonding message)
message_of_kind f kind.Unjail d = unjail_of f d >>= λ message. Ok (msg.Unjail message)
message_of_kind f kind.WithdrawReward d = withdraw_reward_of f d >>= λ message. Ok (msg.WithdrawReward message)
message_of_kind f kind.WithdrawCommission d = withdraw_commission_of f d >>= λ message. Ok (msg.WithdrawCommission message)
message_of_kind f kind.SetWithdrawAddress d = set_withdraw_address_of f d >>= λ message. Ok (msg.SetWithdrawAddress message)
message_of_kind f kind.FundCommunityPool d = fund_community_pool_of f d >>= λ message. Ok (msg.FundCommunityPool message)
message_of_kind f kind.CommunityPoolSpend d = community_pool_spend_of f d >>= λ message. Ok (msg.CommunityPoolSpend message)
message_of_kind f kind.UpdateParams d = update_params_of f d >>= λ message. Ok (msg.UpdateParams message)

-- a message: its kind, and the members of that kind
unfoldable pub message_of : Form → Data → Result Msg LineFault
message_of f d = do
  found ← member_at (spelled_by kind_of) 90 (codes "kind") d
  message_of_kind f found d
