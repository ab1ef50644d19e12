use Rattle.chain_transactions.proofs.HearLemmas.{silence_hears}
use Rattle.chain_transactions.proofs.message.apply_message.Goals as goal

pub returns-in-Send-clause-heard : goal.returns-in-Send-clause-heard
returns-in-Send-clause-heard g c = λ w s. rw c.in-Send.is (silence_hears g.E.Extra.heard g.E.Extra.hears c.args.modules.now c.send.new.modules _ c.send.result c.send.ensures.ends.ends c.send.ensures.listener w s)

pub returns-in-EditValidator-clause-heard : goal.returns-in-EditValidator-clause-heard
returns-in-EditValidator-clause-heard g c = λ w s. rw c.in-EditValidator.is (silence_hears g.E.Extra.heard g.E.Extra.hears c.args.modules.now c.edit_validator.new.modules _ c.edit_validator.result c.edit_validator.ensures.ends.ends c.edit_validator.ensures.listener w s)

pub returns-in-Unjail-clause-heard : goal.returns-in-Unjail-clause-heard
returns-in-Unjail-clause-heard g c = λ w s. rw c.in-Unjail.is (silence_hears g.E.Extra.heard g.E.Extra.hears c.args.modules.now c.unjail.new.modules _ c.unjail.result c.unjail.ensures.ends.ends c.unjail.ensures.listener w s)

pub returns-in-WithdrawCommission-clause-heard : goal.returns-in-WithdrawCommission-clause-heard
returns-in-WithdrawCommission-clause-heard g c = λ w s. rw c.in-WithdrawCommission.is (silence_hears g.E.Extra.heard g.E.Extra.hears c.args.modules.now c.withdraw_commission.new.modules _ c.withdraw_commission.result c.withdraw_commission.ensures.ends.ends c.withdraw_commission.ensures.listener w s)

pub returns-in-SetWithdrawAddress-clause-heard : goal.returns-in-SetWithdrawAddress-clause-heard
returns-in-SetWithdrawAddress-clause-heard g c = λ w s. rw c.in-SetWithdrawAddress.is (silence_hears g.E.Extra.heard g.E.Extra.hears c.args.modules.now c.set_withdraw_address.new.modules _ c.set_withdraw_address.result c.set_withdraw_address.ensures.ends.ends c.set_withdraw_address.ensures.listener w s)

pub returns-in-FundCommunityPool-clause-heard : goal.returns-in-FundCommunityPool-clause-heard
returns-in-FundCommunityPool-clause-heard g c = λ w s. rw c.in-FundCommunityPool.is (silence_hears g.E.Extra.heard g.E.Extra.hears c.args.modules.now c.fund_community_pool.new.modules _ c.fund_community_pool.result c.fund_community_pool.ensures.ends.ends c.fund_community_pool.ensures.listener w s)

pub returns-in-CommunityPoolSpend-clause-heard : goal.returns-in-CommunityPoolSpend-clause-heard
returns-in-CommunityPoolSpend-clause-heard g c = λ w s. rw c.in-CommunityPoolSpend.is (silence_hears g.E.Extra.heard g.E.Extra.hears c.args.modules.now c.community_pool_spend.new.modules _ c.community_pool_spend.result c.community_pool_spend.ensures.ends.ends c.community_pool_spend.ensures.listener w s)

pub returns-in-UpdateParams-clause-heard : goal.returns-in-UpdateParams-clause-heard
returns-in-UpdateParams-clause-heard g c = λ w s. rw c.in-UpdateParams.is (silence_hears g.E.Extra.heard g.E.Extra.hears c.args.modules.now c.update_params.new.modules _ c.update_params.result c.update_params.ensures.ends c.update_params.ensures.listener w s)
