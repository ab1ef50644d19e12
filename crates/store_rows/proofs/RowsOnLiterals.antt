-- What an answer unfolds to read rows of literals.
use Rattle.std.specs.Prelude.{⊤}
use Rattle.store_rows.specs.Fields.{four_bytes, eight_bytes, sixteen_bytes}
use Rattle.store_rows.specs.Reading.{decimal_at, moment_at, user_at, account_at, denom_at, truth_at, status_at, each_at, coin_at, coins_at, unbonding_at, redelegation_at, places_of, packed_ring_at, missed_ring_at, params_at, commission_at, validator_at, info_at, head_of, parameters_of, amount_of, balance_of, supply_of, user_of, users_of, validator_of, delegation_of, unbonding_of, redelegation_of, signing_of, purse_of, pool_of, withdraw_of, current_of, historical_of, start_of, event_of, item_of}

unfoldable pub rows_on_literals : ⊤
unfolding four_bytes eight_bytes sixteen_bytes decimal_at moment_at user_at account_at denom_at truth_at status_at each_at coin_at coins_at unbonding_at redelegation_at places_of packed_ring_at missed_ring_at params_at commission_at validator_at info_at head_of parameters_of amount_of balance_of supply_of user_of users_of validator_of delegation_of unbonding_of redelegation_of signing_of purse_of pool_of withdraw_of current_of historical_of start_of event_of item_of
rows_on_literals = tt
