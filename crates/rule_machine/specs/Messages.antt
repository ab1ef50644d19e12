-- What each message does, and the conditions against it in their order.
use Rattle.base_messages.specs.declared.message.Msg.{Msg}
use Rattle.base_messages.specs.declared.message.Msg.TheVariants as msg
use Rattle.rule_modules.specs.Effects.{Effect, send, create_validator, edit_validator, delegate, undelegate, begin_redelegate, cancel_unbonding, unjail, withdraw_reward, withdraw_commission, set_withdraw_address, fund_community_pool, community_pool_spend}
use Rattle.rule_modules.specs.RefusalOrder.{Order, against_send, against_create, against_edit, against_delegate, against_undelegate, against_redelegate, against_cancel, against_unjail, against_reward, against_commission, against_payee, against_fund, against_spend, against_update}
use Rattle.rule_modules.specs.Parameters.{update_params}

-- the effect of a message (Cosmos SDK: `MsgServiceRouter.Handler`)
abbrev pub effect_of : Msg → Effect
effect_of (msg.Send m) = send m.from m.to m.coins
effect_of (msg.CreateValidator m) = create_validator m
effect_of (msg.EditValidator m) = edit_validator m
effect_of (msg.Delegate m) = delegate m.delegator m.validator m.amount
effect_of (msg.Undelegate m) = undelegate m.delegator m.validator m.amount
effect_of (msg.BeginRedelegate m) = begin_redelegate m.delegator m.source m.target m.amount
effect_of (msg.CancelUnbonding m) = cancel_unbonding m.delegator m.validator m.amount m.creation_height
effect_of (msg.Unjail m) = unjail m.validator
effect_of (msg.WithdrawReward m) = withdraw_reward m.delegator m.validator
effect_of (msg.WithdrawCommission m) = withdraw_commission m.validator
effect_of (msg.SetWithdrawAddress m) = set_withdraw_address m.delegator m.withdraw
effect_of (msg.FundCommunityPool m) = fund_community_pool m.depositor m.coins
effect_of (msg.CommunityPoolSpend m) = community_pool_spend m.authority m.recipient m.coins
effect_of (msg.UpdateParams m) = update_params m.authority m.params

-- the conditions against a message, in their order (own: the order)
abbrev pub against : Msg → Order
against (msg.Send m) = against_send m.from m.to m.coins
against (msg.CreateValidator m) = against_create m
against (msg.EditValidator m) = against_edit m
against (msg.Delegate m) = against_delegate m.delegator m.validator m.amount
against (msg.Undelegate m) = against_undelegate m.delegator m.validator m.amount
against (msg.BeginRedelegate m) = against_redelegate m.delegator m.source m.target m.amount
against (msg.CancelUnbonding m) = against_cancel m.delegator m.validator m.amount m.creation_height
against (msg.Unjail m) = against_unjail m.validator
against (msg.WithdrawReward m) = against_reward m.delegator m.validator
against (msg.WithdrawCommission m) = against_commission m.validator
against (msg.SetWithdrawAddress m) = against_payee m.withdraw
against (msg.FundCommunityPool m) = against_fund m.depositor m.coins
against (msg.CommunityPoolSpend m) = against_spend m.authority m.recipient m.coins
against (msg.UpdateParams m) = against_update m.authority m.params
