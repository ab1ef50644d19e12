-- Worked lines in hexadecimal digits: a genesis of one account, a block of one send, and a message of each kind.
use Rattle.std.specs.Prelude.{ℕ, ◌*◌, ◌^◌, List, [], ◌∷◌, ◌++◌, replicate, codes, true, Some, None, Result}
use Rattle.base_types.specs.declared.account.Account.TheVariants as account
use Rattle.base_types.specs.declared.account.Module.TheVariants.{FeeCollector}
use Rattle.base_bech32.specs.declared.form.Form.TheVariants.{Hex}
use Rattle.base_coins.specs.Steps.{◌>>=◌}
use Rattle.base_coins.specs.declared.coin.Coin.{Coin}
use Rattle.base_roles.specs.declared.params.Params.{Params}
use Rattle.base_messages.specs.declared.faults.LineFault.{LineFault}
use Rattle.base_messages.specs.declared.genesis.Genesis.{Genesis}
use Rattle.base_messages.specs.declared.block.Block.{Block}
use Rattle.base_messages.specs.declared.message.Msg.{Msg}
use Rattle.base_messages.specs.declared.message.Msg.TheVariants as msg
use Rattle.line_json.specs.Reading.{tree_of}
use Rattle.line_json.specs.Messages.{message_of}

-- ---- addresses and coins

-- the user of twenty bytes 11 (hexadecimal), those of 22 and 33, and the consensus address of 44
abbrev pub ones : List ℕ
ones = replicate 20 17

abbrev pub twos : List ℕ
twos = replicate 20 34

abbrev pub threes : List ℕ
threes = replicate 20 51

abbrev pub fours : List ℕ
fours = replicate 20 68

-- their strings
abbrev pub ones_text : List ℕ
ones_text = codes "\"1111111111111111111111111111111111111111\""

abbrev pub twos_text : List ℕ
twos_text = codes "\"2222222222222222222222222222222222222222\""

abbrev pub threes_text : List ℕ
threes_text = codes "\"3333333333333333333333333333333333333333\""

abbrev pub fours_text : List ℕ
fours_text = codes "\"4444444444444444444444444444444444444444\""

abbrev pub uatom : List ℕ
uatom = codes "uatom"

-- 100 uatom, and its object
abbrev pub coin : Coin
coin = record { denom = uatom; amount = 100 }

abbrev pub coin_text : List ℕ
coin_text = codes "{\"denom\":\"uatom\",\"amount\":\"100\"}"

-- ---- a genesis and a block

-- the object of parameters, and those parameters
abbrev pub params_text : List ℕ
params_text =
    codes "{\"bond_denom\":\"uatom\",\"power_reduction\":1000000,"
    ++ codes "\"unbonding_time\":1814400,\"max_validators\":180,\"max_entries\":7,\"min_commission_rate\":\"0\","
    ++ codes "\"community_tax\":\"0.02\",\"withdraw_addr_enabled\":true,\"signed_blocks_window\":10000,"
    ++ codes "\"min_signed_per_window\":\"0.05\",\"downtime_jail_duration\":600,\"slash_fraction_double_sign\":\"0.05\","
    ++ codes "\"slash_fraction_downtime\":\"0.0001\",\"max_age_duration\":172800,\"max_age_num_blocks\":100000,"
    ++ codes "\"authority\":\"9999999999999999999999999999999999999999\"}"

abbrev pub params : Params
params = record {
  bond_denom = uatom;
  power_reduction = 1000000;
  unbonding_time = 1814400;
  max_validators = 180;
  max_entries = 7;
  min_commission_rate = 0;
  community_tax = 2 * 10 ^ 16;
  withdraw_addr_enabled = true;
  signed_blocks_window = 10000;
  min_signed_per_window = 5 * 10 ^ 16;
  downtime_jail_duration = 600;
  slash_fraction_double_sign = 5 * 10 ^ 16;
  slash_fraction_downtime = 10 ^ 14;
  max_age_duration = 172800;
  max_age_num_blocks = 100000;
  authority = replicate 20 153;
}

abbrev pub genesis_line : List ℕ
genesis_line =
    codes "{\"kind\":\"genesis\",\"time\":\"2024-01-01T00:00:00Z\",\"params\":" ++ params_text
    ++ codes ",\"accounts\":[{\"address\":\"1111111111111111111111111111111111111111\",\"coins\":[{\"denom\":\"uatom\",\"amount\":\"1000\"}]}],"
    ++ codes "\"validators\":[],\"delegations\":[]}"

abbrev pub genesis : Genesis
genesis = record {
  time = 1_704_067_200_000_000_000;
  params = params;
  accounts = record { address = account.User ones; coins = (uatom, 1000) ∷ [] } ∷ [];
  validators = [];
  delegations = [];
}

abbrev pub block_line : List ℕ
block_line =
    codes "{\"kind\":\"block\",\"height\":1,\"time\":\"2024-01-01T00:00:05Z\",\"votes\":[],\"evidence\":[],"
    ++ codes "\"txs\":[{\"payer\":\"1111111111111111111111111111111111111111\",\"fee\":[{\"denom\":\"uatom\",\"amount\":\"10\"}],"
    ++ codes "\"msgs\":[{\"kind\":\"send\",\"from\":\"1111111111111111111111111111111111111111\","
    ++ codes "\"to\":\"2222222222222222222222222222222222222222\",\"coins\":[{\"denom\":\"uatom\",\"amount\":\"100\"}]}]}]}"

abbrev pub block : Block
block = record {
  height = 1;
  time = 1_704_067_205_000_000_000;
  votes = [];
  evidence = [];
  txs = record {
    payer = ones;
    fee = (uatom, 10) ∷ [];
    msgs = msg.Send (record { from = ones; to = account.User twos; coins = (uatom, 100) ∷ [] }) ∷ [];
  } ∷ [];
}

-- ---- messages

-- what an object of this kind and these members gives, where addresses are in hexadecimal digits
abbrev pub message_in : List ℕ → List ℕ → Result Msg LineFault
message_in kind members = tree_of (codes "{\"kind\":\"" ++ kind ++ codes "\"" ++ members ++ codes "}") >>= message_of Hex

-- the members of each kind, and the message
abbrev pub send_members : List ℕ
send_members =
    codes ",\"from\":" ++ ones_text ++ codes ",\"to\":\"0000000000000000000000000000000000000001\",\"coins\":[{\"denom\":\"uosmo\",\"amount\":\"5\"},{\"denom\":\"stake\",\"amount\":\"0\"}," ++ coin_text ++ codes "]"

abbrev pub send : Msg
send = msg.Send (record { from = ones; to = account.Module FeeCollector; coins = (uatom, 100) ∷ (codes "uosmo", 5) ∷ [] })

abbrev pub create_validator_members : List ℕ
create_validator_members =
    codes ",\"validator\":" ++ twos_text ++ codes ",\"cons\":" ++ fours_text
    ++ codes ",\"rate\":\"0.1\",\"max_rate\":\"0.5\",\"max_change_rate\":\"0.01\",\"min_self_delegation\":\"1\",\"amount\":" ++ coin_text

abbrev pub create_validator : Msg
create_validator = msg.CreateValidator (record { validator = twos; cons = fours; rate = 10 ^ 17; max_rate = 5 * 10 ^ 17; max_change_rate = 10 ^ 16; min_self_delegation = 1; amount = coin })

abbrev pub edit_validator_members : List ℕ
edit_validator_members = codes ",\"validator\":" ++ twos_text ++ codes ",\"rate\":\"0.2\""

abbrev pub edit_validator : Msg
edit_validator = msg.EditValidator (record { validator = twos; rate = Some (2 * 10 ^ 17); min_self_delegation = None })

abbrev pub delegate_members : List ℕ
delegate_members = codes ",\"delegator\":" ++ ones_text ++ codes ",\"validator\":" ++ twos_text ++ codes ",\"amount\":" ++ coin_text

abbrev pub delegate : Msg
delegate = msg.Delegate (record { delegator = ones; validator = twos; amount = coin })

abbrev pub undelegate : Msg
undelegate = msg.Undelegate (record { delegator = ones; validator = twos; amount = coin })

abbrev pub begin_redelegate_members : List ℕ
begin_redelegate_members =
    codes ",\"delegator\":" ++ ones_text ++ codes ",\"source\":" ++ twos_text ++ codes ",\"target\":" ++ threes_text ++ codes ",\"amount\":" ++ coin_text

abbrev pub begin_redelegate : Msg
begin_redelegate = msg.BeginRedelegate (record { delegator = ones; source = twos; target = threes; amount = coin })

abbrev pub cancel_unbonding_members : List ℕ
cancel_unbonding_members = delegate_members ++ codes ",\"creation_height\":4"

abbrev pub cancel_unbonding : Msg
cancel_unbonding = msg.CancelUnbonding (record { delegator = ones; validator = twos; amount = coin; creation_height = 4 })

abbrev pub unjail_members : List ℕ
unjail_members = codes ",\"validator\":" ++ twos_text

abbrev pub unjail : Msg
unjail = msg.Unjail (record { validator = twos })

abbrev pub withdraw_reward_members : List ℕ
withdraw_reward_members = codes ",\"delegator\":" ++ ones_text ++ codes ",\"validator\":" ++ twos_text

abbrev pub withdraw_reward : Msg
withdraw_reward = msg.WithdrawReward (record { delegator = ones; validator = twos })

abbrev pub withdraw_commission : Msg
withdraw_commission = msg.WithdrawCommission (record { validator = twos })

abbrev pub set_withdraw_address_members : List ℕ
set_withdraw_address_members = codes ",\"delegator\":" ++ ones_text ++ codes ",\"withdraw\":" ++ threes_text

abbrev pub set_withdraw_address : Msg
set_withdraw_address = msg.SetWithdrawAddress (record { delegator = ones; withdraw = account.User threes })

abbrev pub fund_community_pool_members : List ℕ
fund_community_pool_members = codes ",\"depositor\":" ++ ones_text ++ codes ",\"coins\":[" ++ coin_text ++ codes "]"

abbrev pub fund_community_pool : Msg
fund_community_pool = msg.FundCommunityPool (record { depositor = ones; coins = (uatom, 100) ∷ [] })

abbrev pub community_pool_spend_members : List ℕ
community_pool_spend_members = codes ",\"authority\":" ++ ones_text ++ codes ",\"recipient\":" ++ twos_text ++ codes ",\"coins\":[]"

abbrev pub community_pool_spend : Msg
community_pool_spend = msg.CommunityPoolSpend (record { authority = ones; recipient = account.User twos; coins = [] })

abbrev pub update_params_members : List ℕ
update_params_members = codes ",\"authority\":" ++ ones_text ++ codes ",\"params\":" ++ params_text

abbrev pub update_params : Msg
update_params = msg.UpdateParams (record { authority = ones; params = params })

-- coins that name a denomination twice, the second time with an amount of 0
abbrev pub twice_members : List ℕ
twice_members =
    codes ",\"from\":" ++ ones_text ++ codes ",\"to\":" ++ twos_text ++ codes ",\"coins\":[" ++ coin_text ++ codes ",{\"denom\":\"uatom\",\"amount\":\"0\"}]"
