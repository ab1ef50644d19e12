use Rattle.std.proofs.Common.{subst, sym}
use Rattle.line_json.{specs.{Compact.IsCompactList, Messages.message_of}, proofs.CompactLemmas.amounts_below}
use Rattle.line_json.proofs.CompactBlockLemmas.{tx_is_compact}
use Rattle.line_json.proofs.compact_block.tx.Goals as goal

pub money-requires : goal.money-requires
money-requires c = amounts_below _ c.in_ok-parts.parts.items _ c.in_ok-parts.ensures

pub returns : goal.returns
returns c =
    let msgs = subst (λ msgs. IsCompactList (message_of c.args.form) 3 c.in_ok-at_msgs.at_msgs.now msgs c.in_ok-msgs.behind_msgs.now) (sym c.of-2.ensures) c.in_ok-msgs.ensures in
    tx_is_compact c.args.form c.in_ok-bytes.bytes c.in_ok-payer.payer c.in_ok-parts.parts.items c.in_ok-fee.fee _ c.in_ok-payer.ensures c.in_ok-fee.ensures
    c.in_ok-at_payer.ensures c.in_ok-bytes.ensures c.in_ok-at_fee.ensures c.in_ok-parts.ensures c.in_ok-at_msgs.ensures msgs c.in_ok-rest.ensures
