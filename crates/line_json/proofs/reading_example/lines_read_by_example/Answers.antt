use Rattle.std.proofs.Common.{refl}
use Rattle.line_json.proofs.ReadingOnLiterals.{reading_on_literals}
use Rattle.line_json.proofs.reading_example.lines_read_by_example.Goals as goal

pub returns-clause-genesis : goal.returns-clause-genesis
unfolding reading_on_literals
returns-clause-genesis c = refl

pub returns-clause-block : goal.returns-clause-block
unfolding reading_on_literals
returns-clause-block c = refl

pub returns-clause-send : goal.returns-clause-send
unfolding reading_on_literals
returns-clause-send c = refl

pub returns-clause-create_validator : goal.returns-clause-create_validator
unfolding reading_on_literals
returns-clause-create_validator c = refl

pub returns-clause-edit_validator : goal.returns-clause-edit_validator
unfolding reading_on_literals
returns-clause-edit_validator c = refl

pub returns-clause-delegate : goal.returns-clause-delegate
unfolding reading_on_literals
returns-clause-delegate c = refl

pub returns-clause-undelegate : goal.returns-clause-undelegate
unfolding reading_on_literals
returns-clause-undelegate c = refl

pub returns-clause-begin_redelegate : goal.returns-clause-begin_redelegate
unfolding reading_on_literals
returns-clause-begin_redelegate c = refl

pub returns-clause-cancel_unbonding : goal.returns-clause-cancel_unbonding
unfolding reading_on_literals
returns-clause-cancel_unbonding c = refl

pub returns-clause-unjail : goal.returns-clause-unjail
unfolding reading_on_literals
returns-clause-unjail c = refl

pub returns-clause-withdraw_reward : goal.returns-clause-withdraw_reward
unfolding reading_on_literals
returns-clause-withdraw_reward c = refl

pub returns-clause-withdraw_commission : goal.returns-clause-withdraw_commission
unfolding reading_on_literals
returns-clause-withdraw_commission c = refl

pub returns-clause-set_withdraw_address : goal.returns-clause-set_withdraw_address
unfolding reading_on_literals
returns-clause-set_withdraw_address c = refl

pub returns-clause-fund_community_pool : goal.returns-clause-fund_community_pool
unfolding reading_on_literals
returns-clause-fund_community_pool c = refl

pub returns-clause-community_pool_spend : goal.returns-clause-community_pool_spend
unfolding reading_on_literals
returns-clause-community_pool_spend c = refl

pub returns-clause-update_params : goal.returns-clause-update_params
unfolding reading_on_literals
returns-clause-update_params c = refl

pub returns-clause-not_json : goal.returns-clause-not_json
unfolding reading_on_literals
returns-clause-not_json c = refl

pub returns-clause-empty : goal.returns-clause-empty
unfolding reading_on_literals
returns-clause-empty c = refl

pub returns-clause-of_genesis : goal.returns-clause-of_genesis
unfolding reading_on_literals
returns-clause-of_genesis c = refl

pub returns-clause-no_height : goal.returns-clause-no_height
unfolding reading_on_literals
returns-clause-no_height c = refl

pub returns-clause-twice : goal.returns-clause-twice
unfolding reading_on_literals
returns-clause-twice c = refl

pub returns-clause-no_kind : goal.returns-clause-no_kind
unfolding reading_on_literals
returns-clause-no_kind c = refl

pub returns-clause-no_rate : goal.returns-clause-no_rate
unfolding reading_on_literals
returns-clause-no_rate c = refl

pub returns-clause-no_params : goal.returns-clause-no_params
unfolding reading_on_literals
returns-clause-no_params c = refl

pub returns-clause-no_object : goal.returns-clause-no_object
unfolding reading_on_literals
returns-clause-no_object c = refl

pub returns-clause-memo : goal.returns-clause-memo
unfolding reading_on_literals
returns-clause-memo c = refl

pub returns-clause-zeros : goal.returns-clause-zeros
unfolding reading_on_literals
returns-clause-zeros c = refl

pub returns-clause-sign : goal.returns-clause-sign
unfolding reading_on_literals
returns-clause-sign c = refl

pub returns-clause-no_digits : goal.returns-clause-no_digits
unfolding reading_on_literals
returns-clause-no_digits c = refl

pub returns-clause-digits_38 : goal.returns-clause-digits_38
unfolding reading_on_literals
returns-clause-digits_38 c = refl

pub returns-clause-digits_39 : goal.returns-clause-digits_39
unfolding reading_on_literals
returns-clause-digits_39 c = refl
