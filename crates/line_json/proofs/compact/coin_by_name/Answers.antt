use Rattle.line_json.proofs.CompactLemmas.{coin_begins_by_name}
use Rattle.line_json.proofs.compact.coin_by_name.Goals as goal

pub returns : goal.returns
returns c =
    coin_begins_by_name c.in_ok-name.name.now c.in_ok-number.number c.in_ok-at_amount.ensures c.in_ok-number.ensures c.in_ok-at_denom.ensures c.in_ok-name.ensures c.in_ok-rest.ensures
