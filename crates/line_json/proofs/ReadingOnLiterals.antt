-- What an answer unfolds to compute lines on literals.
use Rattle.std.specs.{Prelude.⊤, Str.{is_utf8, chars}}
use Rattle.serde_json.proofs.OnLiterals.{serde_json_on_literals}
use Rattle.base_types.proofs.OnLiterals.{types_on_literals}
use Rattle.line_json.specs.{Reading.tree_of, Coin.{coin_of, coins_at, dec_coin_of, dec_coins_at}, Params.params_of}
use Rattle.line_json.specs.Genesis.{account_of_tree, validator_of, delegation_of, genesis_of_tree, genesis_of}
use Rattle.line_json.specs.Messages.{kind_of, send_of, create_validator_of, edit_validator_of, delegate_of, undelegate_of, begin_redelegate_of, cancel_unbonding_of, unjail_of, withdraw_reward_of, withdraw_commission_of, set_withdraw_address_of, fund_community_pool_of, community_pool_spend_of, update_params_of, message_of}
use Rattle.line_json.specs.Block.{vote_of, evidence_of, tx_of, block_of_tree, block_of}

unfoldable pub reading_on_literals : ⊤
unfolding is_utf8 chars serde_json_on_literals types_on_literals tree_of coin_of coins_at dec_coin_of dec_coins_at params_of account_of_tree validator_of delegation_of genesis_of_tree genesis_of kind_of send_of create_validator_of edit_validator_of delegate_of undelegate_of begin_redelegate_of cancel_unbonding_of unjail_of withdraw_reward_of withdraw_commission_of set_withdraw_address_of fund_community_pool_of community_pool_spend_of update_params_of message_of vote_of evidence_of tx_of block_of_tree block_of
reading_on_literals = tt
