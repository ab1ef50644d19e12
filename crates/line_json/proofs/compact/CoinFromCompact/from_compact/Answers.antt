use Rattle.line_json.proofs.CompactLemmas.{coin_is_compact}
use Rattle.line_json.proofs.compact.CoinFromCompact.from_compact.Goals as goal

pub returns : goal.returns
returns c = coin_is_compact c.in_ok-name.name.now c.in_ok-denom.denom c.in_ok-name.amount c.in_ok-name.ensures c.in_ok-denom.ensures
