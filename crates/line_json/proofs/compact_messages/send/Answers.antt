use Rattle.line_json.proofs.{CompactLemmas.amounts_below, CompactMessageLemmas.send_is_compact}
use Rattle.line_json.proofs.compact_messages.send.Goals as goal

pub money-requires : goal.money-requires
money-requires c = amounts_below _ c.in_ok-parts.parts.items _ c.in_ok-parts.ensures

pub returns : goal.returns
returns c =
    send_is_compact c.args.form c.in_ok-payer.payer c.in_ok-from.from c.in_ok-to.to _ c.in_ok-parts.parts.items c.in_ok-coins.coins
    c.in_ok-from.ensures c.of-2.ensures c.in_ok-coins.ensures
    c.in_ok-at_from.ensures c.in_ok-payer.ensures c.in_ok-at_to.ensures c.in_ok-to.ensures c.in_ok-at_coins.ensures c.in_ok-parts.ensures c.in_ok-rest.ensures
