use Rattle.line_json.proofs.CompactLemmas.{coin_begins}
use Rattle.line_json.proofs.compact.coin.Goals as goal

pub returns : goal.returns
returns c =
    coin_begins c.in_ok-name.name.now c.in_ok-number.number c.in_ok-at_denom.ensures c.in_ok-name.ensures c.in_ok-at_amount.ensures c.in_ok-number.ensures c.in_ok-rest.ensures
