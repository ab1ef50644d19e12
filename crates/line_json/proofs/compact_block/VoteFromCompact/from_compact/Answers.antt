use Rattle.line_json.proofs.CompactBlockLemmas.{vote_is_compact}
use Rattle.line_json.proofs.compact_block.VoteFromCompact.from_compact.Goals as goal

pub returns : goal.returns
returns c =
    vote_is_compact c.args.form c.in_ok-cons.cons _ c.in_ok-power.power c.in_ok-signed.signed c.of.ensures c.in_ok-power.ensures.1
    c.in_ok-at_cons.ensures c.in_ok-cons.ensures c.in_ok-at_power.ensures c.in_ok-power.ensures.0 c.in_ok-at_signed.ensures c.in_ok-signed.ensures c.in_ok-rest.ensures
